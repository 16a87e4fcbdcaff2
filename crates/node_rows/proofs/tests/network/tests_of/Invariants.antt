use Rattle.std.proofs.Common.{All}
use Rattle.plan_rules.specs.Meaning.{TestAnswers}
use Rattle.node_rows.specs.Asked.{test_answer}
use Rattle.node_rows.proofs.tests.network.tests_of.Given as goal

-- the tests so far, which keep their word
abbrev pub invariant-loop-one : goal.invariant-loop-one
invariant-loop-one g l =
    All (λ one. TestAnswers (λ r answer. (goal.Fn-dyn g).post (one.body.vtable, one.body.value) (r, tt) answer) (test_answer one.number)) l.tests
