use Rattle.std.proofs.Common.{◌≡◌, ◌≤◌, All, length}
use Rattle.plan_facts.specs.Plan.{AreIncreasing, ids_in}
use Rattle.plan_facts.specs.PlanBack.{classes_put}
use Rattle.plan_facts.proofs.plan.putting.put_all.Given as goal

-- what is still to be put makes of the classes what all of it makes
abbrev pub invariant-classes : goal.invariant-classes
invariant-classes l = record {
  few : length l.held ≤ length l.tables.items;
  increasing : All (λ table. AreIncreasing (ids_in table.facts)) l.tables.items;
  goes_on : classes_put l.tables.items l.held ≡ classes_put l.fn.tables.items l.fn.held;
}

abbrev pub decreases-classes : goal.decreases-classes
decreases-classes l = length l.held
