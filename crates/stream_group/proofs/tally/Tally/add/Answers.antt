use Rattle.std.proofs.Common.{ℤ, subst, ◌∙◌, Some, to_z, of_z, ap, SFits, w64, rules}
use Rattle.std.proofs.lemmas.Int.{to_z-of_z}
use Rattle.stream_group.specs.Collected.{with_more}
use Rattle.stream_group.specs.declared.tally.Tally.{Tally}
use Rattle.stream_group.specs.Tally.{SeesMore}
use Rattle.stream_group.proofs.Tallied.{tallied}
use Rattle.stream_group.proofs.tally.Tally.add.Goals as goal

pub returns-clause-tallies : goal.returns-clause-tallies
returns-clause-tallies c = λ numbers was.
    let fits : SFits w64 c.with_more.result = search rules in
    let number_fits : SFits w64 c.args.number = search rules in
    let is = to_z-of_z w64 c.args.number number_fits in
    let more = subst (λ (n : ℤ). SeesMore c.is_new.new.self numbers n c.in_ok-is_new.is_new) is (c.in_ok-is_new.ensures.seen numbers was.sees) in
    let new : Tally = record { collect = c.is_new.new.self.collect; made = Some (to_z w64 (of_z w64 c.with_more.result)); noted = c.is_new.new.self.noted } in
    tallied c.args.self.now new numbers c.args.number c.in_ok-is_new.is_new c.is_new.ensures.collect
    (ap Some (to_z-of_z w64 c.with_more.result fits ∙ c.with_more.ensures ∙ (λ i. with_more (c.is_new.ensures.collect i) (c.is_new.ensures.made i) (is i) c.in_ok-is_new.is_new)))
    (record { sees = λ different. (let known = more.sees different in record { same = known.same; first = known.first }); count = more.count }) was
