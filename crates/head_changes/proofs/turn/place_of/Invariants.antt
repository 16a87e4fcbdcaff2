use Rattle.std.proofs.Common.{◌≡◌, ◌<◌, ℕ, false, get_or}
use Rattle.head_changes.specs.Turns.{fact_at, has_key}
use Rattle.head_changes.proofs.turn.place_of.Given as goal

-- at no place so far a record with this key stands
abbrev pub invariant-loop-place : goal.invariant-loop-place
invariant-loop-place l = (k d : ℕ) → k < l.place-index → has_key l.key (fact_at l.heads.now (get_or l.place-items k d)) ≡ false
