-- There is room for what is counted of few matches.
use Rattle.std.proofs.Common.{◌≡◌, ◌∙◌, ◌+◌, not, ℕ, Bool, List, [], ◌∷◌, ◌++◌, length, map, filter, refl, sym, ap, subst, arith}
use Rattle.std.proofs.lemmas.List.{length-append, length_push, map-append}
use Rattle.std.proofs.lemmas.List.Filters.{length-filter_both, sum_by-filter_both}
use Rattle.std.proofs.lemmas.List.Sums.{sum_by-append, sum_by_push}
use Rattle.plan_scores.specs.declared.score.Score.{Score}
use Rattle.plan_scores.specs.Sum.{FitsScore, add_scores, sum_of}
use Rattle.plan_scores.proofs.Summed.{sum_of_push}
use Rattle.plan_rules.specs.declared.row.Match.{Match}
use Rattle.plan_rules.specs.Totals.{impact_sum}
use Rattle.plan_recalc.specs.Size.{impact_sizes, score_size}
use Rattle.plan_recalc.proofs.Sizes.{fits_within, sum_within}
use Rattle.indictments.specs.declared.tally.Tally.{Tally}
use Rattle.indictments.specs.Indicts.{is_part}
use Rattle.indictments.specs.Tallies.{AreFew, AreTallies, Entries, TakesOne, tally_in, tally_of}

-- the sum of some impacts and one more
pub impact_push : (ms : List Match) (one : Match) → impact_sum (ms ++ one ∷ []) ≡ add_scores (impact_sum ms) one.impact
impact_push ms one =
    ap sum_of (map-append (λ (m : Match). m.impact) ms (one ∷ [])) ∙ sum_of_push (map (λ (m : Match). m.impact) ms) one.impact

-- some of few matches, and one more, can be counted
pub filtered_take_one : (p : Match → Bool) (before : List Match) (one : Match) → AreFew (before ++ one ∷ []) → TakesOne (tally_of (filter p before)) one.impact
filtered_take_one p before one few =
    let other : Match → Bool = λ m. not (p m) in
    let some = filter p before in
    let size : Match → ℕ = λ m. score_size m.impact in
    let counts : length some + length (filter other before) ≡ length before = length-filter_both p other (λ m. refl) before in
    let sizes : impact_sizes some + impact_sizes (filter other before) ≡ impact_sizes before = sum_by-filter_both p other (λ m. refl) size before in
    let all_count : length (before ++ one ∷ []) ≡ length before + 1 = length_push before one in
    let all_size : impact_sizes (before ++ one ∷ []) ≡ impact_sizes before + size one = sum_by_push size before one in
    let some_size : impact_sizes (some ++ one ∷ []) ≡ impact_sizes some + size one = sum_by_push size some one in
    let P : Score → Type 0 = FitsScore in (
      omega (arith, few.count),
      subst P (impact_push some one) (fits_within (impact_sizes (some ++ one ∷ [])) (impact_sum (some ++ one ∷ [])) (sum_within (some ++ one ∷ [])) (omega (arith, few.impacts))),
    )

-- the tally of each fact takes one more of few matches
pub tally_takes_one : (entries : Entries) (before : List Match) (one : Match) (class id : ℕ) → AreTallies entries before → AreFew (before ++ one ∷ []) → TakesOne (tally_in entries class id) one.impact
tally_takes_one entries before one class id are few =
    let P : Tally → Type 0 = λ tally. TakesOne tally one.impact in
    subst P (sym (are class id)) (filtered_take_one (is_part class id) before one few)

-- a front of few matches is few
pub few_front : (front rest all : List Match) → all ≡ front ++ rest → AreFew all → AreFew front
few_front front rest all is few =
    let size : Match → ℕ = λ m. score_size m.impact in
    let count : length all ≡ length front + length rest = ap length is ∙ length-append front rest in
    let sizes : impact_sizes all ≡ impact_sizes front + impact_sizes rest = ap impact_sizes is ∙ sum_by-append size front rest in
    record { count = omega (arith, few.count); impacts = omega (arith, few.impacts) }
