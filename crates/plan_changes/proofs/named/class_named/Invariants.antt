use Rattle.std.proofs.Common.{◌≡◌, ◌<◌, ℕ, false, get_or}
use Rattle.std.specs.Str.{bytes_eq}
use Rattle.plan_changes.specs.Named.{no_def}
use Rattle.plan_changes.proofs.named.class_named.Given as goal

-- no class so far has the name
abbrev pub invariant-loop-n : goal.invariant-loop-n
invariant-loop-n l = (i : ℕ) → i < l.n → bytes_eq l.name (get_or l.schema i no_def).name ≡ false
