use Rattle.std.proofs.Common.{◌≡◌, ◌≤◌, drop, length}
use Rattle.plan_recalc.specs.Groups.{keys_entered}
use Rattle.plan_recalc.proofs.keys.different_keys.Given as goal

-- the keys from this place on are entered
abbrev pub invariant-loop-place : goal.invariant-loop-place
invariant-loop-place l = record {
  within : l.place ≤ length l.row_keys;
  entered : l.keys.items ≡ keys_entered (drop l.place l.row_keys);
}

abbrev pub decreases-loop-place : goal.decreases-loop-place
decreases-loop-place l = l.place
