use Rattle.std.proofs.Common.{◌≡◌, ◌≤◌, ◌+◌, ◌*◌, ◌^◌, [], take, drop}
use Rattle.std.specs.Prelude.{sum_by}
use Rattle.plan_facts.specs.First.{first_fault}
use Rattle.plan_rules.specs.Range.{rows_fault, impact_bound, score_bound, weighed}
use Rattle.plan_rules.proofs.range.first_range_fault.Given as goal

-- no rule so far has too many rows, and the total is theirs
abbrev pub invariant-loop-place : goal.invariant-loop-place
invariant-loop-place l = record {
  rows : first_fault (rows_fault l.sizes) [] l.rules ≡ first_fault (rows_fault l.sizes) (take l.place l.rules) (drop l.place l.rules);
  score : score_bound l.sizes (weighed l.rules l.weights l.caps) ≡ l.total + sum_by (impact_bound l.sizes) (weighed (drop l.place l.rules) (drop l.place l.weights) (drop l.place l.caps));
  bound : l.total ≤ l.place * 2 ^ 96;
}
