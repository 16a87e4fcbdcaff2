-- How many steps a search did, and how many of them had a winner.
use Rattle.std.proofs.Common.{◌≡◌, ◌∙◌, ◌+◌, ◌<◌, ◌≤◌, ◌^◌, ℕ, zero, suc, cond, is_some, List, [], ◌∷◌, ◌++◌, Option, Some, None, length, refl, sym, ap, arith}
use Rattle.std.proofs.lemmas.Bool.Decides.{nat_tests}
use Rattle.std.proofs.lemmas.List.{length-append}
use Rattle.std.proofs.lemmas.List.Sums.{count_by-le-length, sum_by-append}
use Rattle.plan_search.specs.Leg.{Stepped, next_step}
use Rattle.plan_search.specs.Posed.{Posed, State}
use Rattle.plan_search.specs.Quiet.{game, leg_after}
use Rattle.plan_session.specs.Toured.{one_more, win_count}

-- how many steps were done
pub steps_done : (posed : Posed) (n : ℕ) → length (leg_after posed n).steps ≡ n
steps_done posed zero = refl
steps_done posed (suc n) =
    let steps = (leg_after posed n).steps in
    let next = next_step (game posed) posed.settings (suc n) (leg_after posed n) in
    let more : length (steps ++ next ∷ []) ≡ length steps + 1 = length-append steps (next ∷ []) in
    let before : length steps ≡ n = steps_done posed n in
    omega arith

-- one step more may have one
win_more : (steps : List (Stepped State)) (step : Stepped State) (winner : Option ℕ) → step.winner ≡ winner
    → win_count (steps ++ step ∷ []) ≡ win_count steps + cond (is_some winner) 1 0
win_more steps step winner is =
    let won : ℕ = cond (is_some winner) 1 0 in
    let more : win_count (steps ++ step ∷ []) ≡ win_count steps + (0 + won) =
    sum_by-append (λ (s : Stepped State). cond (is_some s.winner) 1 0) steps (step ∷ [])
    ∙ ap (λ (w : Option ℕ). win_count steps + (0 + cond (is_some w) 1 0)) is in
    omega (arith, more)

pub wins_idle : (steps : List (Stepped State)) (step : Stepped State) → step.winner ≡ None → win_count (steps ++ step ∷ []) ≡ win_count steps
wins_idle steps step none =
    let same : win_count (steps ++ step ∷ []) ≡ win_count steps + 0 = win_more steps step None none in
    omega (arith, same)

-- a number that is small enough is counted on
one_more-is : (n most : ℕ) → n ≤ most → suc most < 2 ^ 32 → one_more n ≡ n + 1
one_more-is n most within fits = grind (arith, nat_tests)

pub wins_won : (steps : List (Stepped State)) (step : Stepped State) (number k old new : ℕ) → step.winner ≡ Some number
    → length steps < k → k < 2 ^ 32 → old ≡ win_count steps → new ≡ one_more old → new ≡ win_count (steps ++ step ∷ [])
wins_won steps step number k old new some few fits was more =
    let won : win_count (steps ++ step ∷ []) ≡ win_count steps + 1 = win_more steps step (Some number) some in
    let within : win_count steps ≤ length steps = count_by-le-length (λ (done : Stepped State). is_some done.winner) steps in
    more ∙ ap one_more was ∙ one_more-is (win_count steps) (length steps) within (omega (arith, few, fits)) ∙ sym won
