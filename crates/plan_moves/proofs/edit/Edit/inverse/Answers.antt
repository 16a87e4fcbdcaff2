use Rattle.std.proofs.Common.{◌≡◌, ◌∙◌, ◌<◌, ap, length, map, subst, arith}
use Rattle.std.proofs.lemmas.List.{take_all}
use Rattle.plan_facts.specs.Plan.{IsPlan}
use Rattle.plan_moves.specs.Edits.{set_back, AreInOrder, inverse_of}
use Rattle.plan_moves.proofs.Order.{backs_in_order}
use Rattle.plan_moves.proofs.Restored.{takes_back}
use Rattle.plan_moves.proofs.edit.Edit.inverse.Goals as goal

whole : (c : goal.After-loop-set) → c.loop-set.sets.items ≡ map (set_back c.args.plan.now) c.self.inside.sets.items
whole c =
    c.loop-set.invariant.so_far
    ∙ ap (map (set_back c.args.plan.now)) (take_all c.loop-set.set-index c.deref-set-items.result.now (omega arith) ∙ c.deref-set-items.ensures.value)

-- where a variable is set, the plan was read
sound : (c : goal.After-loop-set) → 0 < length c.args.self.now → IsPlan c.args.plan.now
sound c some =
    let same = ap length (c.deref-set-items.ensures.value ∙ c.self.view_is) in c.loop-set.invariant.sound (omega arith)

pub invariant_of-result : goal.invariant_of-result
invariant_of-result c = rw (whole c) (backs_in_order c.args.plan.now c.self.inside.sets.items c.self.invariant)

pub returns-clause-back : goal.returns-clause-back
unfolding inverse_of
returns-clause-back c = whole c ∙ ap (map (set_back c.args.plan.now)) c.self.view_is

pub returns-clause-takes_back : goal.returns-clause-takes_back
returns-clause-takes_back c =
    rw (returns-clause-back c)
    (takes_back c.args.plan.now c.args.self.now (sound c) (subst AreInOrder c.self.view_is c.self.invariant) c.requires)
