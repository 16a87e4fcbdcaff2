-- The score of rules from the sums of their match weights.
use Rattle.std.proofs.Common.{◌≡◌, ◌∙◌, ◌+◌, ◌-◌, ◌*◌, ◌<◌, ◌≤◌, ◌^◌, ℕ, Bool, true, false, pos, neg_ℤ, zero, suc, List, [], ◌∷◌, map, zip, drop, get_or, length, refl, sym, ap, subst, arith, if◌then◌else◌}
use Rattle.std.proofs.lemmas.List.{drop_more, drop_all, get_or_default}
use Rattle.std.proofs.lemmas.List.Sums.{sum_by-cons}
use Rattle.plan_scores.specs.declared.level.Level.{Level}
use Rattle.plan_scores.specs.declared.level.Level.TheVariants.{Hard, Medium, Soft}
use Rattle.plan_scores.specs.declared.score.Score.{Score}
use Rattle.plan_scores.specs.Sum.{FitsScore, IsWithin, add_scores, score_at, sum_of, zero_score}
use Rattle.plan_scores.proofs.Summed.{FitsScore-within, IsWithin-add_scores, add_scores-zero, add_scores_assoc, zero-add_scores}
use Rattle.plan_rules.specs.declared.rule.RuleDef.{RuleDef}
use Rattle.plan_rules.specs.Limits.{score_limit}
use Rattle.plan_rules.specs.Meaning.{Meaning}
use Rattle.plan_rules.specs.Laws.{rule_impact}
use Rattle.plan_rules.specs.Rows.{Facts}
use Rattle.plan_rules.specs.Totals.{signed}
use Rattle.plan_rules.proofs.Scores.{scores_are_of_rules}
use Rattle.score_director.specs.Net.{weights_of}
use Rattle.score_director.specs.Sums.{IsScoreOfTotals, SumsUpTo, Totaled, impact_of_total, size_of_total, sizes_of_totals, sum_of_totals, totaled, totaled_from}

signed_within : (reward : Bool) (level : Level) (n : ℕ) → IsWithin n (score_at level (if reward then pos n else neg_ℤ (pos n)))
signed_within true Hard n = record { hard = omega arith; medium = omega arith; soft = omega arith }
signed_within true Medium n = record { hard = omega arith; medium = omega arith; soft = omega arith }
signed_within true Soft n = record { hard = omega arith; medium = omega arith; soft = omega arith }
signed_within false Hard zero = record { hard = omega arith; medium = omega arith; soft = omega arith }
signed_within false Hard (suc n) = record { hard = omega arith; medium = omega arith; soft = omega arith }
signed_within false Medium zero = record { hard = omega arith; medium = omega arith; soft = omega arith }
signed_within false Medium (suc n) = record { hard = omega arith; medium = omega arith; soft = omega arith }
signed_within false Soft zero = record { hard = omega arith; medium = omega arith; soft = omega arith }
signed_within false Soft (suc n) = record { hard = omega arith; medium = omega arith; soft = omega arith }

-- nothing is added up yet
pub sums_begin : (ones : List Totaled) (score : Score) → score ≡ zero_score → sizes_of_totals ones ≤ score_limit → SumsUpTo (sum_of_totals ones) ones score
sums_begin ones score is few =
    let zero_sums : SumsUpTo (sum_of_totals ones) ones zero_score = record {
      most = 0;
      within = record { hard = omega arith; medium = omega arith; soft = omega arith };
      few = omega (arith, few);
      sum = zero-add_scores (sum_of_totals ones);
    } in
    subst (SumsUpTo (sum_of_totals ones) ones) (sym is) zero_sums

-- the first of the rules to come is added
pub sums_more : (whole : Score) (one : Totaled) (rest : List Totaled) (score impact next : Score)
    → (size_of_total one < 2 ^ 63 → impact ≡ impact_of_total one)
    → (FitsScore (add_scores score impact) → next ≡ add_scores score impact)
    → SumsUpTo whole (one ∷ rest) score → SumsUpTo whole rest next
sums_more whole one rest score impact next made added so_far =
    let size : sizes_of_totals (one ∷ rest) ≡ size_of_total one + sizes_of_totals rest = sum_by-cons size_of_total one rest in
    let few : so_far.most + size_of_total one + sizes_of_totals rest ≤ score_limit = omega (arith, size, so_far.few) in
    let is : impact ≡ impact_of_total one = made (omega (arith, few)) in
    let within : IsWithin (so_far.most + size_of_total one) (add_scores score (impact_of_total one)) =
    IsWithin-add_scores so_far.most (size_of_total one) score (impact_of_total one) so_far.within (signed_within one.rule.reward one.rule.level (size_of_total one)) in
    let fits : FitsScore (add_scores score (impact_of_total one)) = FitsScore-within _ _ within (omega (arith, few)) in
    let next_is : next ≡ add_scores score (impact_of_total one) = added (subst (λ (s : Score). FitsScore (add_scores score s)) (sym is) fits) ∙ ap (add_scores score) is in
    let grown : SumsUpTo whole rest (add_scores score (impact_of_total one)) = record {
      most = so_far.most + size_of_total one;
      within = within;
      few = few;
      sum = add_scores_assoc score (impact_of_total one) (sum_of_totals rest) ∙ so_far.sum;
    } in
    subst (SumsUpTo whole rest) (sym next_is) grown

-- where no rule is to come, the score is the whole
pub sums_end : (whole score : Score) (rest : List Totaled) → rest ≡ [] → SumsUpTo whole rest score → score ≡ whole
sums_end whole score rest none so_far =
    let summed : add_scores score (sum_of_totals []) ≡ whole = ap (λ (ones : List Totaled). add_scores score (sum_of_totals ones)) (sym none) ∙ so_far.sum in
    sym (add_scores-zero score) ∙ summed

-- the first of the rules from a place on, and those after it
pub totaled_more : (rules : List RuleDef) (weights totals : List ℕ) (k : ℕ) (rule : RuleDef) → length weights ≡ length rules → length totals ≡ length rules → k < length rules → rule ≡ get_or rules k rule
    → totaled_from rules weights totals k ≡ record { rule = rule; weight = get_or weights k 0; total = get_or totals k 0 } ∷ totaled_from rules weights totals (k + 1)
totaled_more rules weights totals k rule each each' there read =
    let later = totaled_from rules weights totals (k + 1) in
    (λ i. totaled (drop_more rules k rule there i) (drop_more weights k 0 (omega (arith, each, there)) i) (drop_more totals k 0 (omega (arith, each', there)) i))
    ∙ (λ i. record { rule = sym read i; weight = get_or weights k 0; total = get_or totals k 0 } ∷ later)

pub totaled_end : (rules : List RuleDef) (weights totals : List ℕ) (k : ℕ) → length rules ≤ k → totaled_from rules weights totals k ≡ []
totaled_end rules weights totals k end = ap (λ (rest : List RuleDef). totaled rest (drop k weights) (drop k totals)) (drop_all k rules end)

-- one more rule is added to those before a place
pub sums_next : (rules : List RuleDef) (weights totals : List ℕ) (k : ℕ) (rule : RuleDef) (whole score impact next : Score)
    → length weights ≡ length rules → length totals ≡ length rules → k < length rules → rule ≡ get_or rules k rule
    → (get_or weights k 0 * get_or totals k 0 < 2 ^ 63 → impact ≡ score_at rule.level (signed rule (get_or weights k 0 * get_or totals k 0)))
    → (FitsScore (add_scores score impact) → next ≡ add_scores score impact)
    → SumsUpTo whole (totaled_from rules weights totals k) score → SumsUpTo whole (totaled_from rules weights totals (k + 1)) next
sums_next rules weights totals k rule whole score impact next each each' there read made added so_far =
    let P : List Totaled → Type 0 = λ ones. SumsUpTo whole ones score in
    sums_more whole (record { rule = rule; weight = get_or weights k 0; total = get_or totals k 0 }) (totaled_from rules weights totals (k + 1)) score impact next made added
    (subst P (totaled_more rules weights totals k rule each each' there read) so_far)

-- what rules add up to is their impacts among the facts, where the totals are theirs
impacts_are : (m : Meaning) (facts : Facts) (rules : List RuleDef) (weights : List ℕ)
    → map impact_of_total (totaled rules weights (weights_of m facts rules)) ≡ map (λ pair. rule_impact m facts pair.0 pair.1) (zip rules weights)
impacts_are m facts [] weights = refl
impacts_are m facts (rule ∷ rest) [] = refl
impacts_are m facts (rule ∷ rest) (weight ∷ weights) = ap (λ (later : List Score). rule_impact m facts rule weight ∷ later) (impacts_are m facts rest weights)

-- and that is the score
pub score_is : (rules : List RuleDef) (weights totals : List ℕ) (score : Score) → score ≡ sum_of_totals (totaled rules weights totals) → IsScoreOfTotals rules weights totals score
score_is rules weights totals score is m facts are =
    is
    ∙ ap (λ (ns : List ℕ). sum_of_totals (totaled rules weights ns)) are
    ∙ ap sum_of (impacts_are m facts rules weights)
    ∙ sym (scores_are_of_rules m facts rules weights)

-- what is left of the greatest sum once rules before a place are taken off
pub record LeavesRoom (rules : List RuleDef) (weights totals : List ℕ) (place room : ℕ) : Type 0 where
  pub within : room ≤ score_limit
  pub left : sizes_of_totals (totaled rules weights totals) + room ≡ score_limit + sizes_of_totals (totaled_from rules weights totals place)

-- where there is a place, there is a rule
some_rule : (rules : List RuleDef) (k : ℕ) → k < length rules → RuleDef
some_rule [] k within = absurd (omega (arith, within))
some_rule (rule ∷ rest) k within = rule

-- the first of the rules to come is taken off
first_off : (rules : List RuleDef) (weights totals : List ℕ) (k room : ℕ) → length weights ≡ length rules → length totals ≡ length rules → k < length rules
    → LeavesRoom rules weights totals k room
    → sizes_of_totals (totaled rules weights totals) + room ≡ score_limit + (get_or weights k 0 * get_or totals k 0 + sizes_of_totals (totaled_from rules weights totals (k + 1)))
first_off rules weights totals k room each each' there so_far =
    let some = some_rule rules k there in
    let one = get_or rules k some in
    let d : one ≡ get_or rules k one = get_or_default rules k some one there in
    let more = totaled_more rules weights totals k one each each' there d in
    let size = ap sizes_of_totals more ∙ sum_by-cons size_of_total (record { rule = one; weight = get_or weights k 0; total = get_or totals k 0 }) (totaled_from rules weights totals (k + 1)) in
    so_far.left ∙ ap (λ (n : ℕ). score_limit + n) size

-- where the next is greater than what is left, the sum is too great
pub too_great : (rules : List RuleDef) (weights totals : List ℕ) (k room size : ℕ) → length weights ≡ length rules → length totals ≡ length rules → k < length rules
    → size ≤ get_or weights k 0 * get_or totals k 0 → room < size → LeavesRoom rules weights totals k room → score_limit < sizes_of_totals (totaled rules weights totals)
too_great rules weights totals k room size each each' there most over so_far =
    let off = first_off rules weights totals k room each each' there so_far in
    omega (arith, off, most, over)

pub room_left : (rules : List RuleDef) (weights totals : List ℕ) (k room size : ℕ) → length weights ≡ length rules → length totals ≡ length rules → k < length rules
    → size ≡ get_or weights k 0 * get_or totals k 0 → size ≤ room → LeavesRoom rules weights totals k room → LeavesRoom rules weights totals (k + 1) (room - size)
room_left rules weights totals k room size each each' there is fits so_far =
    let off = first_off rules weights totals k room each each' there so_far in
    record { within = omega (arith, so_far.within); left = omega (arith, off, is, fits) }

-- where no rule is to come, the sum is small
pub small_at_end : (rules : List RuleDef) (weights totals : List ℕ) (k room : ℕ) → length rules ≤ k → LeavesRoom rules weights totals k room → sizes_of_totals (totaled rules weights totals) ≤ score_limit
small_at_end rules weights totals k room end so_far =
    let none : sizes_of_totals (totaled_from rules weights totals k) ≡ 0 = ap sizes_of_totals (totaled_end rules weights totals k end) in
    omega (arith, so_far.left, none)
