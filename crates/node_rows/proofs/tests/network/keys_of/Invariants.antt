use Rattle.std.proofs.Common.{All}
use Rattle.plan_rules.specs.Meaning.{KeyAnswers}
use Rattle.node_rows.specs.Asked.{key_answer}
use Rattle.node_rows.proofs.tests.network.keys_of.Given as goal

-- the keys so far, which keep their word
abbrev pub invariant-loop-one : goal.invariant-loop-one
invariant-loop-one g l =
    All (λ one. KeyAnswers (λ r answer. (goal.Fn-dyn g).post (one.body.vtable, one.body.value) (r, tt) answer) (key_answer one.number)) l.keys
