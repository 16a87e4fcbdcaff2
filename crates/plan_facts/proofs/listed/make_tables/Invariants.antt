use Rattle.std.proofs.Common.{◌≡◌, take, drop, map, zip, length}
use Rattle.plan_facts.specs.PlanFaults.{class_with}
use Rattle.plan_facts.proofs.listed.make_tables.Given as goal

-- the tables so far, and the lists that are left
abbrev pub invariant-loop-class : goal.invariant-loop-class
invariant-loop-class l = record {
  made : l.tables.items ≡ map (λ pair. class_with pair.0 pair.1) (take l.class (zip l.schema l.fn.lists));
  count : length l.rest.items ≡ length l.fn.lists;
  left : drop l.class l.rest.items ≡ drop l.class l.fn.lists;
}
