use Rattle.std.proofs.Common.{◌≡◌, take, drop, []}
use Rattle.plan_facts.specs.First.{first_fault}
use Rattle.plan_changes.specs.Refused.{width_fault}
use Rattle.plan_changes.proofs.refused.check_width.Given as goal

-- no class before this one is too wide
abbrev pub invariant-loop-n : goal.invariant-loop-n
invariant-loop-n l = first_fault (width_fault l.plan l.class) [] l.schema ≡ first_fault (width_fault l.plan l.class) (take l.n l.schema) (drop l.n l.schema)
