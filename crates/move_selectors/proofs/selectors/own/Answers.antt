use Rattle.std.proofs.Common.{List, Option, sym, subst}
use Rattle.plan_moves.specs.declared.edit.Set.{Set}
use Rattle.move_selectors.specs.Puts.{Puts}
use Rattle.move_selectors.proofs.Makers.{fills-puts, own-none, own-some}
use Rattle.move_selectors.proofs.selectors.own.Goals as goal

pub returns-in_default : goal.returns-in_default
returns-in_default g c = sym (own-none _ c.args.makers.now c.args.plan.now c.args.words.now c.in_default.ensures.place)

pub returns : goal.returns
returns g c =
    subst (λ (due : Option (List Set)). Puts c.make_by.result due c.make_by.new.into)
    (own-some _ c.args.makers.now c.args.plan.now c.args.words.now c.in-Some.place c.index-makers-place.result c.in-Some.ensures.place c.in-Some.ensures.below c.index-makers-place.is)
    (fills-puts c.make_by.result _ c.make_by.new.into c.make_by.ensures)
