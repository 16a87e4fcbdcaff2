use Rattle.std.proofs.Common.{◌≡◌, ◌++◌, drop}
use Rattle.plan_moves.specs.Edits.{touched_by}
use Rattle.plan_moves.proofs.edit.Edit.touched.Given as goal

-- the entities so far, and those of the rest, are all
abbrev pub invariant-loop-place : goal.invariant-loop-place
invariant-loop-place l = touched_by l.self ≡ l.touches ++ touched_by (drop l.place l.self)
