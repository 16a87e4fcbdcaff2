use Rattle.std.proofs.Common.{◌≡◌, ◌<◌, ℕ, false, [], get_or}
use Rattle.std.specs.Str.{bytes_eq}
use Rattle.plan_changes.proofs.named.rule_named.Given as goal

-- no rule so far has the name
abbrev pub invariant-loop-place : goal.invariant-loop-place
invariant-loop-place l = (i : ℕ) → i < l.place → bytes_eq l.name (get_or l.names i []) ≡ false
