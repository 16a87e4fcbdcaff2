use Rattle.std.proofs.Common.{◌≡◌, ◌∙◌, List, take, sym, ap, subst, arith}
use Rattle.std.specs.List.{list_any}
use Rattle.std.proofs.lemmas.List.{take_all}
use Rattle.plan_rules.specs.declared.row.Part.{Part}
use Rattle.indictments.specs.declared.tally.Tally.{Tally}
use Rattle.indictments.specs.Indicts.{is_fact}
use Rattle.indictments.specs.Tallies.{TakesOne, counted_if, tally_in}
use Rattle.indictments.proofs.Room.{tally_takes_one}
use Rattle.indictments.proofs.TallyLaws.{tallies_more}
use Rattle.indictments.proofs.TallyLaws.{parts_more}
use Rattle.indictments.proofs.tallies.Tallies.add_match.Goals as goal

pub add_part-requires-clause-room : goal.add_part-requires-clause-room
add_part-requires-clause-room c = λ class id new.
    let one = c.args.one.now in
    let start = c.args.self.now in
    let same = c.loop-n.invariant class id ∙ ap (λ b. counted_if b one.impact (tally_in start class id)) new in
    let P : Tally → Type 0 = λ tally. TakesOne tally one.impact in
    subst P (sym same) (tally_takes_one start c.requires.0 one class id c.requires.1 c.requires.2)

pub loop-n-preserved : goal.loop-n-preserved
loop-n-preserved c = parts_more c.args.self.now c.loop-n.self c.add_part.new.self c.args.one.now c.loop-n.n c.loop-n.invariant c.in_ok-add_part.ensures

pub returns : goal.returns
returns c = λ before are.
    let one = c.args.one.now in
    let all : take c.loop-n.n one.row ≡ one.row = take_all c.loop-n.n one.row (omega (arith, c.len-n-end.ensures.count)) in
    tallies_more c.args.self.now c.loop-n.self before one are
    (λ class id. c.loop-n.invariant class id
    ∙ ap (λ (row : List Part). counted_if (list_any (is_fact class id) row) one.impact (tally_in c.args.self.now class id)) all)
