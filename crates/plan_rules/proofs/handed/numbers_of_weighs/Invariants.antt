use Rattle.std.proofs.Common.{◌≡◌, map, take}
use Rattle.plan_rules.proofs.handed.numbers_of_weighs.Given as goal

-- the numbers so far
abbrev pub invariant-loop-weigher : goal.invariant-loop-weigher
invariant-loop-weigher g l = l.numbers ≡ map (λ weigher. weigher.number) (take l.weigher-index l.weighs)
