use Rattle.std.proofs.Common.{◌≡◌, take, drop, []}
use Rattle.plan_facts.specs.First.{first_fault}
use Rattle.plan_facts.specs.Listed.{HasIds}
use Rattle.plan_facts.specs.PlanFaults.{record_fault}
use Rattle.plan_facts.proofs.listed.listed_ids.Given as goal

-- no fault stands before this place, and the set has the ids up to it
abbrev pub invariant-loop-place : goal.invariant-loop-place
invariant-loop-place l = record {
  so_far : first_fault (record_fault l.class l.count) [] l.raws ≡ first_fault (record_fault l.class l.count) (take l.place l.raws) (drop l.place l.raws);
  ids : HasIds (take l.place l.raws) l.ids;
}
