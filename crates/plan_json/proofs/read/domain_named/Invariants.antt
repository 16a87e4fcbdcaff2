use Rattle.std.proofs.Common.{◌≡◌, ◌<◌, ℕ, false, [], map, get_or}
use Rattle.std.specs.Str.{bytes_eq}
use Rattle.plan_json.proofs.read.domain_named.Given as goal

-- no domain so far has the name
abbrev pub invariant-loop-place : goal.invariant-loop-place
invariant-loop-place g l = (i : ℕ) → i < l.place → bytes_eq l.name (get_or (map (λ d. d.name) l.domains) i []) ≡ false
