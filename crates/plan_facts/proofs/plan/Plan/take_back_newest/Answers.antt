use Rattle.std.proofs.Common.{◌∙◌, ap, arith, sym, subst}
use Rattle.plan_facts.specs.Plan.{PlanView, plan_with}
use Rattle.plan_facts.specs.PlanBack.{WasMadeLast, without_newest}
use Rattle.plan_facts.proofs.Back.{WasTakenBack, few_last, last_class, last_table, newest_gone, was_taken_back}
use Rattle.plan_facts.proofs.plan.Plan.take_back_newest.Goals as goal
use Rattle.plan_facts.proofs.plan.Plan.take_back_newest.Goals.{After-take_last_back}

after : (c : After-take_last_back) → WasTakenBack (plan_with c.self.inside.tables.items c.self.inside.made) c.args.class c.last_missing-missing.result c.take_last_back.new.self
after c =
    was_taken_back (plan_with c.self.inside.tables.items c.self.inside.made) c.args.class c.last_missing-missing.result c.index_mut-table.result.now c.take_last_back.new.self
    (subst (λ (plan : PlanView). WasMadeLast plan c.args.class) (sym c.self.view_is) c.requires) c.index_mut-table.ensures.value c.last_missing-missing.ensures c.take_last_back.ensures

pub index_mut-table-requires : goal.index_mut-table-requires
index_mut-table-requires c =
    let within = last_class (plan_with c.self.inside.tables.items c.self.inside.made) c.args.class (subst (λ (plan : PlanView). WasMadeLast plan c.args.class) (sym c.self.view_is) c.requires) in
    omega (arith, c.self.inside.tables.ok.0)

pub overflow_cast-missing : goal.overflow_cast-missing
overflow_cast-missing c =
    let plan = plan_with c.self.inside.tables.items c.self.inside.made in
    let within = last_class plan c.args.class (subst (λ (p : PlanView). WasMadeLast p c.args.class) (sym c.self.view_is) c.requires) in
    let few = few_last plan c.args.class c.last_missing-missing.result c.index_mut-table.result.now within c.self.invariant.0 c.index_mut-table.ensures.value c.last_missing-missing.ensures in
    omega arith

pub last_missing-missing-requires : goal.last_missing-missing-requires
last_missing-missing-requires c =
    (last_table (plan_with c.self.inside.tables.items c.self.inside.made) c.args.class c.index_mut-table.result.now (subst (λ (plan : PlanView). WasMadeLast plan c.args.class) (sym c.self.view_is) c.requires) c.index_mut-table.ensures.value).some

pub take_last_back-requires-clause-some : goal.take_last_back-requires-clause-some
take_last_back-requires-clause-some c =
    (last_table (plan_with c.self.inside.tables.items c.self.inside.made) c.args.class c.index_mut-table.result.now (subst (λ (plan : PlanView). WasMadeLast plan c.args.class) (sym c.self.view_is) c.requires) c.index_mut-table.ensures.value).some

pub take_last_back-requires-clause-made : goal.take_last_back-requires-clause-made
take_last_back-requires-clause-made c =
    (last_table (plan_with c.self.inside.tables.items c.self.inside.made) c.args.class c.index_mut-table.result.now (subst (λ (plan : PlanView). WasMadeLast plan c.args.class) (sym c.self.view_is) c.requires) c.index_mut-table.ensures.value).made

pub overflow_sub-self : goal.overflow_sub-self
overflow_sub-self c = (after (goal.at.overflow_sub-self c).After-take_last_back).made

pub overflow_sub-self-2 : goal.overflow_sub-self-2
overflow_sub-self-2 c =
    let count = c.self.invariant.1 in
    omega (arith, (after (goal.at.overflow_sub-self-2 c).After-take_last_back).counts)

pub invariant_of-self : goal.invariant_of-self
invariant_of-self c =
    let count = c.self.invariant.1 in
    let done = after (goal.at.invariant_of-self c).After-take_last_back in
    (done.sound, omega (arith, done.counts))

pub returns-clause-now : goal.returns-clause-now
returns-clause-now c = (after (goal.at.returns-clause-now c).After-take_last_back).is ∙ ap (λ (plan : PlanView). without_newest plan c.args.class) c.self.view_is

pub returns-clause-before : goal.returns-clause-before
returns-clause-before c = λ before fields values within is.
    (after (goal.at.returns-clause-before c).After-take_last_back).is
    ∙ ap (λ (plan : PlanView). without_newest plan c.args.class) (c.self.view_is ∙ is)
    ∙ newest_gone before c.args.class fields values within

pub returns-clause-sound : goal.returns-clause-sound
returns-clause-sound c = (after (goal.at.returns-clause-sound c).After-take_last_back).sound
