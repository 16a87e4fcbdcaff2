use Rattle.std.proofs.Common.{◌≡◌, ◌∙◌, ℕ, ◌<◌, length, refl, sym, arith, slice_get, rules}
use Rattle.plan_facts.proofs.Lists.{same_lists}
use Rattle.plan_facts.proofs.record.same_planned.Goals as goal

pub returns : goal.returns
returns c =
    let a = c.as_slice-one.result.now in
    let b = c.as_slice-other.result.now in
    let e : length a ≡ length b = search rules in
    let all : (k : ℕ) → k < length a → slice_get a k ≡ slice_get b k = λ k lt. c.loop-place.invariant k (omega arith) in
    (λ t. sym c.as_slice-one.ensures ∙ same_lists a b e all ∙ c.as_slice-other.ensures, λ t. refl)
