-- The laws of the two orders, as `Ord` and `PartialOrd` have them.
use Rattle.std.proofs.Common.{◌≡◌, ◌&&◌, ◌==◌, ℕ, Bool, refl, arith}
use Rattle.std.proofs.lemmas.Bool.Decides.{nat_tests}
use Rattle.std.specs.Cmp.{IsTotalOrder, nat_cmp_total, int_cmp_total, both_tied}
use Rattle.std.proofs.lemmas.Cmp.{on_total, then_total, back_total}
use Rattle.std.specs.Ordering.{is_eq, int_eq, nat_cmp, int_cmp, ordering_then}
use Rattle.plan_scores.specs.declared.score.Score.{Score}
use Rattle.plan_scores.specs.declared.plan_score.PlanScore.{PlanScore}
use Rattle.plan_scores.specs.Order.{score_cmp, plan_score_cmp}

pub score_cmp_total : IsTotalOrder score_cmp
unfolding score_cmp
score_cmp_total =
    then_total (on_total (λ s. s.hard) int_cmp_total)
    (then_total (on_total (λ s. s.medium) int_cmp_total) (on_total (λ s. s.soft) int_cmp_total))

pub plan_score_cmp_total : IsTotalOrder plan_score_cmp
unfolding plan_score_cmp
plan_score_cmp_total =
    then_total (back_total (on_total (λ p. p.unplaced) nat_cmp_total)) (on_total (λ p. p.score) score_cmp_total)

-- the two have the same numbers, as `==` finds out
abbrev are_same : Score → Score → Bool
are_same a b = int_eq a.hard b.hard && (int_eq a.medium b.medium && int_eq a.soft b.soft)

-- `==` holds where the comparison finds no difference
pub score_cmp-eq : (a b : Score) → are_same a b ≡ is_eq (score_cmp a b)
unfolding score_cmp
score_cmp-eq a b =
    let hard = int_cmp a.hard b.hard in
    let medium = int_cmp a.medium b.medium in
    let soft = int_cmp a.soft b.soft in
    let below = both_tied (is_eq medium) (is_eq soft) medium soft refl refl in
    both_tied (is_eq hard) (is_eq medium && is_eq soft) hard (ordering_then medium soft) refl below

nat_cmp-eq : (m n : ℕ) → (m == n) ≡ is_eq (nat_cmp n m)
nat_cmp-eq m n = grind (arith, nat_tests)

pub plan_cmp-eq : (a b : PlanScore)
    → (a.unplaced == b.unplaced && are_same a.score b.score) ≡ is_eq (plan_score_cmp a b)
unfolding plan_score_cmp
plan_cmp-eq a b =
    let placed = nat_cmp-eq a.unplaced b.unplaced in
    let scored = score_cmp-eq a.score b.score in
    both_tied (a.unplaced == b.unplaced) _ (nat_cmp b.unplaced a.unplaced) (score_cmp a.score b.score) placed scored
