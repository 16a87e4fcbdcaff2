use Rattle.std.proofs.Common.{◌≡◌, ◌<◌, ℕ, [], get_or, length}
use Rattle.plan_facts.specs.Plan.{records_of}
use Rattle.plan_recalc.proofs.facts.Facts.of.Given as goal

-- the records of each class so far
abbrev pub invariant-loop-class : goal.invariant-loop-class
invariant-loop-class l = record {
  count : length l.classes ≡ l.class;
  each : (class : ℕ) → class < length l.classes → get_or l.classes class [] ≡ records_of l.plan class;
}
