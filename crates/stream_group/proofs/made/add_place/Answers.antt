use Rattle.std.proofs.Common.{◌≡◌, ◌∙◌, SFits, Some, rules, subst, sym, w64}
use Rattle.std.proofs.lemmas.Int.{to_z-of_z}
use Rattle.std.specs.FinMap as finmap
use Rattle.stream_group.specs.Collected.{MakesMore}
use Rattle.stream_group.proofs.Listed.{one_stays}
use Rattle.stream_group.proofs.made.add_place.Goals as goal

pub returns-clause-after : goal.returns-clause-after
returns-clause-after c =
    let member = c.in-Some.member.now in
    let found = finmap.get c.args.members.now.rows.now c.args.place in
    let is : Some member ≡ found = search rules in
    let fits : SFits w64 c.number_after-number.result = search rules in
    let number = to_z-of_z w64 c.number_after-number.result fits ∙ c.number_after-number.ensures in
    subst (MakesMore c.args.collect c.args.made.after c.made_more.result)
    (one_stays c.args.width c.args.run.now found member _ (sym c.goes.ensures ∙ c.if-goes.false) is number) c.made_more.ensures
