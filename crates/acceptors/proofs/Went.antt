-- How what is kept of a leg goes on from one step to the next.
use Rattle.std.proofs.Common.{◌≡◌, ◌∙◌, ◌⊎◌, inl, inr, ℕ, suc, ◌+◌, ◌-◌, ◌%◌, ◌≤◌, ◌==◌, List, [], ◌∷◌, ◌++◌, map, fold, length, length-append, get_or, subst, false, refl, sym, ap, arith, if◌then◌else◌}
use Rattle.std.proofs.lemmas.List.Sums.{fold-append}
use Rattle.std.proofs.lemmas.List.{get_or_append_left, map-append}
use Rattle.std.proofs.lemmas.Bool.Decides.{nat_tests}
use Rattle.std.proofs.Math.Seq.{get_or-append_seam}
use Rattle.std.proofs.lemmas.Grind.{common_steps}
use Rattle.circular_buffer.specs.Buffer.{keep_last}
use Rattle.plan_scores.specs.declared.plan_score.PlanScore.{PlanScore}
use Rattle.plan_scores.specs.Best.{better_of}
use Rattle.plan_moves.specs.declared.edit.Touch.{Touch}
use Rattle.acceptors.specs.History.{History, Past, went, step_scores, score_after, last_score, best_score}
use Rattle.acceptors.specs.Accept.{threshold}

abbrev score_of : Past → PlanScore
score_of past = past.score

-- the scores go on
pub scores-went : (h : History) (score : PlanScore) (touched : List Touch) → step_scores (went h score touched) ≡ step_scores h ++ score ∷ []
scores-went h score touched = map-append score_of h.steps (record { score = score; touched = touched } ∷ [])

pub steps-went : (h : History) (score : PlanScore) (touched : List Touch) → length (went h score touched).steps ≡ length h.steps + 1
steps-went h score touched = length-append h.steps (record { score = score; touched = touched } ∷ [])

pub length-scores : (steps : List Past) → length (map score_of steps) ≡ length steps
length-scores [] = refl
length-scores (x ∷ xs) = ap suc (length-scores xs)

-- the earlier scores stay
pub score_after-earlier : (h : History) (score : PlanScore) (touched : List Touch) (n : ℕ) → n ≤ length h.steps → score_after (went h score touched) n ≡ score_after h n
score_after-earlier h score touched n le =
    ap (λ scores. get_or (h.start ∷ scores) n h.start) (scores-went h score touched)
    ∙ get_or_append_left (h.start ∷ step_scores h) (score ∷ []) h.start n (omega (arith, length-scores h.steps))

-- the newest score is the last one
pub score_after-last : (h : History) (score : PlanScore) (touched : List Touch) → score_after (went h score touched) (length h.steps + 1) ≡ score
score_after-last h score touched =
    let at : length h.steps + 1 ≡ length (h.start ∷ step_scores h) = omega (arith, length-scores h.steps) in
    ap (λ scores. get_or (h.start ∷ scores) (length h.steps + 1) h.start) (scores-went h score touched)
    ∙ (ap (λ n. get_or ((h.start ∷ step_scores h) ++ score ∷ []) n h.start) at
    ∙ get_or-append_seam (h.start ∷ step_scores h) score [] h.start)

pub last-went : (h : History) (score : PlanScore) (touched : List Touch) → score ≡ last_score (went h score touched)
last-went h score touched =
    sym (ap (λ n. score_after (went h score touched) n) (steps-went h score touched) ∙ score_after-last h score touched)

pub best-went : (h : History) (score : PlanScore) (touched : List Touch) → better_of (λ s. s) (best_score h) score ≡ best_score (went h score touched)
best-went h score touched =
    sym (ap (λ scores. fold (better_of (λ s. s)) h.start scores) (scores-went h score touched) ∙ fold-append (better_of (λ s. s)) h.start (step_scores h) (score ∷ []))

-- the last n of a list that grows at its end
pub keep_last-push : {A : Type 0} (n : ℕ) (xs : List A) (x : A) → keep_last n (keep_last n xs ++ x ∷ []) ≡ keep_last n (xs ++ x ∷ [])
keep_last-push n xs x = grind (arith, common_steps)

-- the remainder goes up by one, or back to none
pub mod-cases : (n size : ℕ) → 1 ≤ size → ((n + 1) % size ≡ 0) ⊎ ((n + 1) % size ≡ n % size + 1)
mod-cases n size pos = grind arith

pub mod-most : (n size : ℕ) → n % size ≤ n
mod-most n size = grind arith

above_zero : (x : ℕ) → ((x + 1) == 0) ≡ false
above_zero x = grind (arith, nat_tests)

-- the threshold after a step, from what is left when its number is divided by the size
threshold-at : (n m rest : ℕ) (h : History) (score old : PlanScore) (touched : List Touch) → m ≡ length h.steps → n ≡ m + 1 → rest ≤ m →
    old ≡ score_after h (m - rest) → (r : ℕ) → (r ≡ 0) ⊎ (r ≡ rest + 1) → (if r == 0 then score else old) ≡ score_after (went h score touched) (n - r)
threshold-at n m rest h score old touched here next le kept r (inl z) =
    let at : n - 0 ≡ length h.steps + 1 = omega (arith, here, next) in
    let newest : score ≡ score_after (went h score touched) (n - 0) = sym (ap (λ k. score_after (went h score touched) k) at ∙ score_after-last h score touched) in
    subst (λ (v : ℕ). (if v == 0 then score else old) ≡ score_after (went h score touched) (n - v)) (sym z) newest
threshold-at n m rest h score old touched here next le kept r (inr z) =
    let at : n - (rest + 1) ≡ m - rest = omega (arith, next, le) in
    let earlier : score_after (went h score touched) (m - rest) ≡ score_after h (m - rest) = score_after-earlier h score touched (m - rest) (omega (arith, here)) in
    let stays : (if (rest + 1) == 0 then score else old) ≡ score_after (went h score touched) (n - (rest + 1)) =
    ap (λ b. if b then score else old) (above_zero rest) ∙ (kept ∙ (sym earlier ∙ ap (λ k. score_after (went h score touched) k) (sym at))) in
    subst (λ (v : ℕ). (if v == 0 then score else old) ≡ score_after (went h score touched) (n - v)) (sym z) stays

-- at a multiple of the size the threshold is the newest score, else it stays
pub threshold-went : (size n : ℕ) (h : History) (score old : PlanScore) (touched : List Touch) → 1 ≤ size → n ≡ length h.steps + 1 → old ≡ threshold size h →
    (if n % size == 0 then score else old) ≡ threshold size (went h score touched)
threshold-went size n h score old touched pos e kept =
    let m = length h.steps in
    let cases : (n % size ≡ 0) ⊎ (n % size ≡ m % size + 1) = subst (λ (v : ℕ). (v % size ≡ 0) ⊎ (v % size ≡ m % size + 1)) (sym e) (mod-cases m size pos) in
    threshold-at n m (m % size) h score old touched refl e (mod-most m size) kept (n % size) cases
    ∙ ap (λ k. score_after (went h score touched) (k - k % size)) (e ∙ sym (steps-went h score touched))
