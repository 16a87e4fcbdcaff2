use Rattle.std.proofs.Common.{◌≡◌, ◌∙◌, ◌++◌, append-nil, length, ap, subst, arith}
use Rattle.std.proofs.lemmas.List.{drop_all}
use Rattle.plan_moves.specs.Edits.{AreInOrder, AreTouchesInOrder, touched_by}
use Rattle.plan_moves.proofs.Touched.{touched_in_order}
use Rattle.plan_moves.proofs.edit.Edit.touched.Goals as goal

whole : (c : goal.After-loop-place) → touched_by c.args.self.now ≡ c.loop-place.touches
whole c =
    let same = ap length c.self.view_is in
    c.loop-place.invariant
    ∙ ap (λ sets. c.loop-place.touches ++ touched_by sets) (drop_all c.loop-place.place c.args.self.now (omega arith))
    ∙ append-nil c.loop-place.touches

pub returns-clause-order : goal.returns-clause-order
returns-clause-order c = subst AreTouchesInOrder (whole c) (touched_in_order c.args.self.now (subst AreInOrder c.self.view_is c.self.invariant))
