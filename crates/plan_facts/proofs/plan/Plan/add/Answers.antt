use Rattle.std.proofs.Common.{◌∙◌, sym, ap, arith}
use Rattle.plan_facts.specs.Plan.{PlanView, plan_with, class_of, missing_in}
use Rattle.plan_facts.specs.PlanChanges.{with_fact}
use Rattle.plan_facts.proofs.Sound.{few_unplaced}
use Rattle.plan_facts.proofs.Added.{WasAdded, was_added, good_fact, few_held}
use Rattle.plan_facts.proofs.plan.Plan.add.Goals as goal

pub overflow_cast-missing : goal.overflow_cast-missing
overflow_cast-missing c =
    let good = good_fact c.args.self.now c.args.class c.args.fields c.args.values (rw (c.as_slice.ensures, c.as_slice-2.ensures) at (sym c.in_ok-check_new.ensures.fault)) in
    let few = few_held c.args.self.now c.args.class c.args.fields c.args.values c.requires c.in_ok-check_new.ensures.sound good in
    let count = c.missing-missing.ensures ∙ ap (missing_in (class_of c.args.self.now c.args.class).nullables) c.as_slice-3.ensures in
    omega arith

pub overflow_add-self-2 : goal.overflow_add-self-2
overflow_add-self-2 c =
    let good = good_fact c.args.self.now c.args.class c.args.fields c.args.values (rw (c.as_slice.ensures, c.as_slice-2.ensures) at (sym c.in_ok-check_new.ensures.fault)) in
    let few = few_held c.args.self.now c.args.class c.args.fields c.args.values c.requires c.in_ok-check_new.ensures.sound good in
    let count = c.missing-missing.ensures ∙ ap (missing_in (class_of c.args.self.now c.args.class).nullables) c.as_slice-3.ensures in
    let unplaced = few_unplaced _ c.self.invariant.0 in
    let now = c.self.invariant.1 in
    omega arith

after : (c : goal.After-self-3-1) → WasAdded (plan_with c.self.inside.tables.items c.self.inside.made) c.args.class c.args.fields c.args.values c.add.new.self
after c =
    let none = rw (c.as_slice.ensures, c.as_slice-2.ensures, ← c.self.view_is) at (sym c.in_ok-check_new.ensures.fault) in
    let id = rw (← c.self.view_is) at c.next_id-id.ensures.id in
    was_added (plan_with c.self.inside.tables.items c.self.inside.made) c.args.class c.args.fields c.args.values c.index_mut-table.result.now c.add.new.self (rw (← c.self.view_is) at c.requires) c.self.invariant.0 none c.index_mut-table.ensures.value (rw id at c.in_ok-add.ensures.ok)

pub invariant_of-self-2 : goal.invariant_of-self-2
invariant_of-self-2 c =
    let w = after c in
    let count = c.missing-missing.ensures ∙ ap (missing_in (class_of c.args.self.now c.args.class).nullables) c.as_slice-3.ensures in
    let here = ap (λ (plan : PlanView). missing_in (class_of plan c.args.class).nullables c.args.values) c.self.view_is in
    let now = c.self.invariant.1 in
    (w.sound, omega (arith, w.counts))

pub returns-clause-now : goal.returns-clause-now
returns-clause-now c = (after c).is ∙ ap (λ (plan : PlanView). with_fact plan c.args.class c.args.fields c.args.values) c.self.view_is

pub returns-clause-sound : goal.returns-clause-sound
returns-clause-sound c = (after c).sound
