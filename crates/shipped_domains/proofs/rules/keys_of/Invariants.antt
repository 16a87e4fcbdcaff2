use Rattle.std.proofs.Common.{◌≡◌, All, map}
use Rattle.plan_rules.specs.Meaning.{KeyAnswers}
use Rattle.shipped_domains.specs.Meaning.{shipped_key}
use Rattle.shipped_domains.proofs.rules.keys_of.Given as goal

-- the closures so far, which keep their word
abbrev pub invariant-loop-shipped : goal.invariant-loop-shipped
invariant-loop-shipped g l =
    (map (λ one. one.number) l.keys ≡ map (λ one. one.number) l.yielded)
    × All (λ one. KeyAnswers (λ r answer. (goal.Fn-dyn g).post (one.body.vtable, one.body.value) (r, tt) answer) (shipped_key one.number)) l.keys
