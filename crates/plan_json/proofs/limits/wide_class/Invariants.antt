use Rattle.std.proofs.Common.{◌≡◌, drop}
use Rattle.std.specs.Prelude.{find}
use Rattle.plan_json.specs.Limits.{is_wide}
use Rattle.plan_json.proofs.limits.wide_class.Given as goal

-- the first wide class is none of those so far
abbrev pub invariant-loop-n : goal.invariant-loop-n
invariant-loop-n l = find (is_wide l.plan) l.schema ≡ find (is_wide l.plan) (drop l.n l.schema)
