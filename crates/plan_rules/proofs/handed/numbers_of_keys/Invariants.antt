use Rattle.std.proofs.Common.{◌≡◌, map, take}
use Rattle.plan_rules.proofs.handed.numbers_of_keys.Given as goal

-- the numbers so far
abbrev pub invariant-loop-key : goal.invariant-loop-key
invariant-loop-key g l = l.numbers ≡ map (λ key. key.number) (take l.key-index l.keys)
