use Rattle.std.proofs.Common.{◌≡◌, All, map}
use Rattle.plan_rules.specs.Meaning.{WeighAnswers}
use Rattle.plan_rules.specs.Closures.{capped}
use Rattle.shipped_domains.specs.Numbered.{weighers_of}
use Rattle.shipped_domains.specs.Meaning.{shipped_weight}
use Rattle.shipped_domains.proofs.rules.weighs_of.Given as goal

-- the closures so far, which keep their word
abbrev pub invariant-loop-shipped : goal.invariant-loop-shipped
invariant-loop-shipped g l =
    (map (λ one. one.number) l.weighs ≡ map (λ one. one.number) l.yielded)
    × (capped l.weighs ≡ weighers_of (map (λ one. one.number) l.yielded))
    × All (λ one. WeighAnswers (λ r answer. (goal.Fn-dyn g).post (one.body.vtable, one.body.value) (r, tt) answer) one.cap (shipped_weight one.number)) l.weighs
