use Rattle.std.proofs.Common.{◌≤◌, length, drop, All}
use Rattle.plan_moves.specs.Edits.{IsBefore}
use Rattle.plan_moves.proofs.edit.place_for.Given as goal

abbrev pub invariant-loop-place : goal.invariant-loop-place
invariant-loop-place l = record {
  within : l.place ≤ length l.sets;
  after : All (IsBefore l.set) (drop l.place l.sets);
}

abbrev pub decreases-loop-place : goal.decreases-loop-place
decreases-loop-place l = l.place
