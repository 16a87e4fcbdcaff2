-- How great impacts and their sums are.
use Rattle.std.proofs.Common.{◌≡◌, ◌∙◌, ℕ, zero, suc, ◌+◌, ◌*◌, ◌<◌, ◌≤◌, ◌^◌, Bool, true, false, List, [], ◌∷◌, ◌++◌, map, take, get_or, length, pos, neg_ℤ, ap, subst, arith, if◌then◌else◌}
use Rattle.std.proofs.lemmas.List.{map_more}
use Rattle.std.proofs.lemmas.List.Sums.{sum_by-take-le, sum_by_push}
use Rattle.std.proofs.Math.Nat.{mul-le-mul_left, mul-le-mul_right}
use Rattle.plan_scores.specs.declared.level.Level.{Level}
use Rattle.plan_scores.specs.declared.level.Level.TheVariants.{Hard, Medium, Soft}
use Rattle.plan_scores.specs.declared.score.Score.{Score}
use Rattle.plan_scores.specs.Sum.{score_at, sum_of, add_scores, FitsScore, IsWithin}
use Rattle.plan_scores.proofs.Summed.{IsWithin-sum_of, FitsScore-within, sum_of_push}
use Rattle.plan_rules.specs.declared.row.Match.{Match}
use Rattle.plan_rules.specs.declared.row.Part.{Part}
use Rattle.plan_rules.specs.declared.rule.RuleDef.{RuleDef}
use Rattle.plan_rules.specs.Meaning.{Meaning}
use Rattle.plan_rules.specs.Totals.{impact_of, impact_sum, match_weight}
use Rattle.plan_recalc.specs.Size.{score_size, impact_sizes}

signed_size : (reward : Bool) (level : Level) (n : ℕ) → score_size (score_at level (if reward then pos n else neg_ℤ (pos n))) ≡ n
signed_size true Hard n = omega arith
signed_size true Medium n = omega arith
signed_size true Soft n = omega arith
signed_size false Hard zero = omega arith
signed_size false Hard (suc n) = omega arith
signed_size false Medium zero = omega arith
signed_size false Medium (suc n) = omega arith
signed_size false Soft zero = omega arith
signed_size false Soft (suc n) = omega arith

-- an impact is as great as the weight times the match weight
pub size_of_impact : (m : Meaning) (rule : RuleDef) (weight : ℕ) (row : List Part) → score_size (impact_of m rule weight row) ≡ weight * match_weight m rule row
size_of_impact m rule weight row = signed_size rule.reward rule.level (weight * match_weight m rule row)

-- and so at most the weight times the cap
pub impact_within_cap : (m : Meaning) (rule : RuleDef) (weight : ℕ) (row : List Part) (impact : Score) (cap : ℕ) → impact ≡ impact_of m rule weight row → match_weight m rule row ≤ cap → score_size impact ≤ weight * cap
impact_within_cap m rule weight row impact cap is few =
    let size : score_size impact ≡ weight * match_weight m rule row = ap score_size is ∙ size_of_impact m rule weight row in
    omega (arith, size, mul-le-mul_left weight few)

-- the sizes of some matches after one more
pub sizes_more : (matches grown : List Match) (one : Match) (n len weight cap : ℕ) → grown ≡ matches ++ one ∷ [] → impact_sizes matches ≤ n * (weight * cap) → score_size one.impact ≤ weight * cap → len ≡ n + 1 → impact_sizes grown ≤ len * (weight * cap)
sizes_more matches grown one n len weight cap pushed few small more =
    let size : impact_sizes grown ≡ impact_sizes matches + score_size one.impact = ap impact_sizes pushed ∙ sum_by_push (λ (m : Match). score_size m.impact) matches one in
    rw more (omega (arith, size, few, small))

-- the sizes of the matches of so many rows at most
pub sizes_bounded : (size n bound weight cap : ℕ) → size ≤ n * (weight * cap) → n ≤ bound → size ≤ bound * weight * cap
sizes_bounded size n bound weight cap few rows = omega (arith, few, mul-le-mul_right (weight * cap) rows)

within_size : (s : Score) → IsWithin (score_size s) s
within_size s = record { hard = omega arith; medium = omega arith; soft = omega arith }

-- a sum of impacts is within the sum of their sizes
pub sum_within : (matches : List Match) → IsWithin (impact_sizes matches) (impact_sum matches)
sum_within matches = IsWithin-sum_of (λ (one : Match). score_size one.impact) (λ (one : Match). one.impact) (λ one. within_size one.impact) matches

-- the sum of the impacts after one more match
pub impact_sum-more : (matches : List Match) (k : ℕ) (d : Match) → k < length matches → impact_sum (take (k + 1) matches) ≡ add_scores (impact_sum (take k matches)) (get_or matches k d).impact
impact_sum-more matches k d within =
    ap sum_of (map_more (λ (one : Match). one.impact) matches k d within) ∙ sum_of_push (map (λ (one : Match). one.impact) (take k matches)) (get_or matches k d).impact

-- a score within a bound of which little is used fits, and so does what it grows to
pub fits_within : (n : ℕ) (s : Score) → IsWithin n s → n ≤ 2 ^ 62 → FitsScore s
fits_within n s within few = FitsScore-within n s within (omega arith)

pub fits_next : (matches : List Match) (k : ℕ) (d : Match) → k < length matches → impact_sizes matches ≤ 2 ^ 62 → FitsScore (add_scores (impact_sum (take k matches)) (get_or matches k d).impact)
fits_next matches k d within few =
    let front = sum_by-take-le (λ (one : Match). score_size one.impact) matches (k + 1) in
    let P : Score → Type 0 = FitsScore in
    subst P (impact_sum-more matches k d within) (fits_within (impact_sizes (take (k + 1) matches)) (impact_sum (take (k + 1) matches)) (sum_within (take (k + 1) matches)) (omega arith))
