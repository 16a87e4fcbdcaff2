use Rattle.std.proofs.Common.{◌∙◌, sym}
use Rattle.indictments.proofs.PartLaws.{again, first_time, none_first}
use Rattle.indictments.proofs.TallyLaws.{part_none, part_one}
use Rattle.indictments.proofs.tallies.Tallies.add_part.Goals as goal

pub returns-in_default : goal.returns-in_default
returns-in_default c =
    let one = c.args.one.now in
    part_none c.args.self.now one c.args.n (λ class id. none_first class id one c.args.n c.requires.there (sym c.in_default.is ∙ c.fact_at.ensures))

pub returns-then-is_before : goal.returns-then-is_before
returns-then-is_before c =
    let one = c.args.one.now in
    part_none c.args.self.now one c.args.n
    (λ class id. again class id one c.args.n (c.in-Some.class, c.in-Some.id) c.requires.there (sym c.in-Some.is ∙ c.fact_at.ensures)
    (sym c.is_before.ensures ∙ c.if-is_before.true))

pub returns : goal.returns
returns c =
    let one = c.args.one.now in
    part_one c.args.self.now c.add.new.self one c.args.n c.in-Some.class c.in-Some.id c.in_ok-add.ensures
    (λ class id. first_time class id one c.args.n (c.in-Some.class, c.in-Some.id) c.requires.there (sym c.in-Some.is ∙ c.fact_at.ensures)
    (sym c.is_before.ensures ∙ c.if-is_before.false))
