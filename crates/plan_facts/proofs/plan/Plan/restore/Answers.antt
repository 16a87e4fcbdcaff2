use Rattle.std.proofs.Common.{◌∙◌, ap, arith}
use Rattle.plan_facts.specs.Plan.{PlanView, missing_in, plan_with}
use Rattle.plan_facts.specs.PlanBack.{with_raw}
use Rattle.plan_facts.proofs.Back.{WasRestored, few_missing, was_restored}
use Rattle.plan_facts.proofs.Removed.{live_class}
use Rattle.plan_facts.proofs.Sound.{few_unplaced}
use Rattle.plan_facts.proofs.plan.Plan.restore.Goals as goal
use Rattle.plan_facts.proofs.plan.Plan.restore.Goals.{After-replace-was}

pub overflow_cast-missing : goal.overflow_cast-missing
overflow_cast-missing c =
    let plan = plan_with c.self.inside.tables.items c.self.inside.made in
    let within = live_class plan c.args.class c.args.raw.id (rw (← c.self.view_is) at c.requires.there) in
    let few = few_missing plan c.args.class c.index_mut-table.result.now c.as_slice.result.now within c.self.invariant.0 c.index_mut-table.ensures.value in
    let count = c.count_missing-missing.ensures ∙ ap (λ ns. missing_in ns c.as_slice.result.now) c.nullables.ensures in
    omega (arith, few, count)

after : (c : After-replace-was) → WasRestored (plan_with c.self.inside.tables.items c.self.inside.made) c.args.class c.args.raw c.replace-was.result c.index_mut-table.result.now c.replace-was.new.self
after c =
    was_restored (plan_with c.self.inside.tables.items c.self.inside.made) c.args.class c.args.raw c.replace-was.result c.index_mut-table.result.now c.replace-was.new.self c.self.invariant.0 c.index_mut-table.ensures.value
    (rw (← c.self.view_is) at c.requires.there) (rw (← c.self.view_is) at c.requires.fits) c.replace-was.ensures.was c.replace-was.ensures.now

pub overflow_cast-before : goal.overflow_cast-before
overflow_cast-before c =
    let count = c.count_missing-before.ensures in
    let nullables = c.nullables-2.ensures in
    omega (arith, (after (goal.at.overflow_cast-before c).After-replace-was).few, count ∙ (λ i. missing_in (nullables i) (c.as_slice-2.ensures i)))

pub overflow_add-self : goal.overflow_add-self
overflow_add-self c =
    let plan = plan_with c.self.inside.tables.items c.self.inside.made in
    let within = live_class plan c.args.class c.args.raw.id (rw (← c.self.view_is) at c.requires.there) in
    let few = few_missing plan c.args.class c.index_mut-table.result.now c.as_slice.result.now within c.self.invariant.0 c.index_mut-table.ensures.value in
    let now = c.count_missing-missing.ensures ∙ ap (λ ns. missing_in ns c.as_slice.result.now) c.nullables.ensures in
    omega (arith, c.self.invariant.1, few_unplaced plan c.self.invariant.0, few, now)

pub overflow_sub-self : goal.overflow_sub-self
overflow_sub-self c =
    let was = c.count_missing-before.ensures ∙ (λ i. missing_in (c.nullables-2.ensures i) (c.as_slice-2.ensures i)) in
    let now = c.count_missing-missing.ensures ∙ (λ i. missing_in (c.nullables.ensures i) (c.as_slice.ensures i)) in
    omega (arith, c.self.invariant.1, (after (goal.at.overflow_sub-self c).After-replace-was).counts, was, now)

pub invariant_of-self : goal.invariant_of-self
invariant_of-self c =
    let count = c.self.invariant.1 in
    let was = c.count_missing-before.ensures ∙ (λ i. missing_in (c.nullables-2.ensures i) (c.as_slice-2.ensures i)) in
    let now = c.count_missing-missing.ensures ∙ (λ i. missing_in (c.nullables.ensures i) (c.as_slice.ensures i)) in
    let done = after (goal.at.invariant_of-self c).After-replace-was in
    (done.sound, omega (arith, done.counts, was, now))

pub returns-clause-now : goal.returns-clause-now
returns-clause-now c = (after (goal.at.returns-clause-now c).After-replace-was).is ∙ ap (λ (plan : PlanView). with_raw plan c.args.class c.args.raw) c.self.view_is

pub returns-clause-sound : goal.returns-clause-sound
returns-clause-sound c = (after (goal.at.returns-clause-sound c).After-replace-was).sound
