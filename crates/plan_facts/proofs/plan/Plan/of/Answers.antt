use Rattle.std.proofs.Common.{◌∙◌, ap, arith, List}
use Rattle.plan_facts.specs.Plan.{ClassView, plan_with, unplaced_of}
use Rattle.plan_facts.proofs.PlanMade.{faultless}
use Rattle.plan_facts.proofs.PlanChecked.{all_distinct, MakesPlan, makes_plan}
use Rattle.plan_facts.proofs.plan.Plan.of.Goals as goal

pub make_tables-requires-clause-count : goal.make_tables-requires-clause-count
make_tables-requires-clause-count c = (faultless c.args.schema.now c.args.lists (rw c.as_slice.ensures at c.in_ok-made.ensures.ok)).same

pub make_tables-requires-clause-distinct : goal.make_tables-requires-clause-distinct
make_tables-requires-clause-distinct c = all_distinct c.args.schema.now c.args.lists (rw c.as_slice.ensures at c.in_ok-made.ensures.ok)

pub count_all_missing-unplaced-requires : goal.count_all_missing-unplaced-requires
count_all_missing-unplaced-requires c =
    let p = makes_plan c.args.schema.now c.args.lists c.in_ok-tables.tables.items c.in_ok-made.made (rw c.as_slice.ensures at c.in_ok-made.ensures.plan) (rw c.as_slice.ensures at c.in_ok-made.ensures.made) c.in_ok-tables.ensures in
    let same = ap (λ (tables : List ClassView). unplaced_of (plan_with tables 0)) c.deref.ensures.value in
    omega (arith, p.nulls)

made : (c : goal.After-count_all_missing-unplaced) → MakesPlan c.args.schema.now c.args.lists c.in_ok-tables.tables.items c.in_ok-made.made
made c = makes_plan c.args.schema.now c.args.lists c.in_ok-tables.tables.items c.in_ok-made.made (rw c.as_slice.ensures at c.in_ok-made.ensures.plan) (rw c.as_slice.ensures at c.in_ok-made.ensures.made) c.in_ok-tables.ensures

pub invariant_of-result : goal.invariant_of-result
invariant_of-result c = ((made c).sound, c.count_all_missing-unplaced.ensures ∙ ap (λ (tables : List ClassView). unplaced_of (plan_with tables 0)) c.deref.ensures.value)

pub returns-clause-plan : goal.returns-clause-plan
returns-clause-plan c = (made c).is

pub returns-clause-sound : goal.returns-clause-sound
returns-clause-sound c = (made c).sound
