use Rattle.std.proofs.Common.{◌≡◌, take, drop, zip, []}
use Rattle.plan_facts.specs.First.{first_fault}
use Rattle.plan_facts.specs.Listed.{HaveIds}
use Rattle.plan_facts.specs.PlanFaults.{class_fault}
use Rattle.plan_facts.proofs.listed.all_listed_ids.Given as goal

-- no fault stands in the classes so far, and there is a set of ids for each
abbrev pub invariant-loop-class : goal.invariant-loop-class
invariant-loop-class l = record {
  so_far : first_fault class_fault [] (zip l.schema l.lists) ≡ first_fault class_fault (take l.class (zip l.schema l.lists)) (drop l.class (zip l.schema l.lists));
  ids : HaveIds (take l.class l.lists) l.classes.items;
}
