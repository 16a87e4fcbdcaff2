use Rattle.std.proofs.Common.{◌≡◌, map, take}
use Rattle.plan_rules.proofs.handed.numbers_of_tests.Given as goal

-- the numbers so far
abbrev pub invariant-loop-test : goal.invariant-loop-test
invariant-loop-test g l = l.numbers ≡ map (λ test. test.number) (take l.test-index l.tests)
