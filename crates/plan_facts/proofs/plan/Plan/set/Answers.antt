use Rattle.std.proofs.Common.{◌∙◌, ap, arith}
use Rattle.plan_facts.specs.Plan.{PlanView, plan_with}
use Rattle.plan_facts.specs.PlanChanges.{with_value}
use Rattle.plan_facts.proofs.Sound.{few_unplaced, missing_le}
use Rattle.plan_facts.proofs.Changed.{WasSet, was_set}
use Rattle.plan_facts.proofs.plan.Plan.set.Goals as goal

pub overflow_add-self : goal.overflow_add-self
overflow_add-self c =
    let few = few_unplaced _ c.self.invariant.0 in
    let count = c.self.invariant.1 in
    let h = c.one_if_missing.ensures in
    let most = missing_le (c.is_nullable-nullable.result, c.args.value) in
    omega arith

pub overflow_sub-self : goal.overflow_sub-self
overflow_sub-self c =
    let w = was_set (plan_with c.self.inside.tables.items c.self.inside.made) c.args.class c.args.id c.args.var c.args.value c.set-held.result c.is_nullable-nullable.result c.index_mut-table.result.now c.set-held.new.self c.is_nullable-nullable.ensures c.self.invariant.0 c.index_mut-table.ensures.value (rw (← c.self.view_is) at c.requires.there) (rw (← c.self.view_is) at c.requires.value) c.set-held.ensures.held c.set-held.ensures.now in
    let count = c.self.invariant.1 in
    omega (arith, w.counts, c.one_if_missing.ensures, c.one_if_missing-2.ensures)

after : (c : goal.After-self-2-1) → WasSet (plan_with c.self.inside.tables.items c.self.inside.made) c.args.class c.args.id c.args.var c.args.value c.set-held.result c.is_nullable-nullable.result c.set-held.new.self
after c =
    was_set (plan_with c.self.inside.tables.items c.self.inside.made) c.args.class c.args.id c.args.var c.args.value c.set-held.result c.is_nullable-nullable.result c.index_mut-table.result.now c.set-held.new.self c.is_nullable-nullable.ensures c.self.invariant.0 c.index_mut-table.ensures.value (rw (← c.self.view_is) at c.requires.there) (rw (← c.self.view_is) at c.requires.value) c.set-held.ensures.held c.set-held.ensures.now

pub invariant_of-self : goal.invariant_of-self
invariant_of-self c =
    let w = after c in
    let count = c.self.invariant.1 in
    (w.sound, omega (arith, w.counts, c.one_if_missing.ensures, c.one_if_missing-2.ensures))

pub returns-clause-now : goal.returns-clause-now
returns-clause-now c =
    (after c).is ∙ ap (λ (plan : PlanView). with_value plan c.args.class c.args.id c.args.var c.args.value) c.self.view_is

pub returns-clause-sound : goal.returns-clause-sound
returns-clause-sound c = (after c).sound
