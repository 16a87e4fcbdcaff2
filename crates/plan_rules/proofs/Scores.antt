-- A score as the sum over its rules.
use Rattle.std.proofs.Common.{◌≡◌, ℕ, ◌+◌, ◌*◌, List, [], ◌∷◌, map, Bool, true, false, pos, neg_ℤ, if◌then◌else◌, refl, sym, ◌∙◌, ap, arith}
use Rattle.std.specs.Prelude.{sum_by, zip}
use Rattle.std.specs.List.{flat_map}
use Rattle.std.proofs.lemmas.List.Sums.{sum_by-cons}
use Rattle.plan_scores.specs.declared.level.Level.{Level}
use Rattle.plan_scores.specs.declared.score.Score.{Score}
use Rattle.plan_scores.specs.Sum.{add_scores, score_at, sum_of}
use Rattle.plan_scores.proofs.Summed.{sum_of-append, sum_of-penalties, sum_of-rewards}
use Rattle.plan_rules.specs.declared.row.Match.{Match}
use Rattle.plan_rules.specs.declared.row.Part.{Part}
use Rattle.plan_rules.specs.declared.rule.RuleDef.{RuleDef}
use Rattle.plan_rules.specs.Meaning.{Meaning}
use Rattle.plan_rules.specs.Rows.{Facts, rule_rows}
use Rattle.plan_rules.specs.Totals.{impact_of, match_weight, matches_of, score_of}
use Rattle.plan_rules.specs.Laws.{ScoresAreOfRules, rule_impact}

-- a weight that is the same for all comes out of the sum
sum_by-times : {X : Type 0} (n : ℕ) (f : X → ℕ) (xs : List X) → sum_by (λ x. n * f x) xs ≡ n * sum_by f xs
sum_by-times n f [] = omega arith
sum_by-times n f (x ∷ xs) =
    let rest = sum_by-times n f xs in
    sum_by-cons (λ x. n * f x) x xs ∙ ap (λ k. n * f x + k) rest ∙ sym (mul-add n (f x) (sum_by f xs)) ∙ ap (λ k. n * k) (sym (sum_by-cons f x xs))
  where
    mul-add : (n a b : ℕ) → n * (a + b) ≡ n * a + n * b
    mul-add n a b = omega arith

-- the impacts of rows add up, as rewards or as penalties
impacts_add_up : (reward : Bool) (level : Level) (weight : List Part → ℕ) (rows : List (List Part))
    → sum_of (map (λ row. score_at level (if reward then pos (weight row) else neg_ℤ (pos (weight row)))) rows) ≡ score_at level (if reward then pos (sum_by weight rows) else neg_ℤ (pos (sum_by weight rows)))
impacts_add_up true level weight rows = sum_of-rewards level weight rows
impacts_add_up false level weight rows = sum_of-penalties level weight rows

map-map : {X Y Z : Type 0} (g : Y → Z) (f : X → Y) (xs : List X) → map g (map f xs) ≡ map (λ x. g (f x)) xs
map-map g f [] = refl
map-map g f (x ∷ xs) = ap (λ zs. g (f x) ∷ zs) (map-map g f xs)

-- the impacts of some matches
abbrev impacts_of : List Match → List Score
impacts_of matches = map (λ one. one.impact) matches

-- what the matches of one rule add up to
of_rule : (m : Meaning) (facts : Facts) (rule : RuleDef) (weight : ℕ) → sum_of (impacts_of (matches_of m facts rule weight)) ≡ rule_impact m facts rule weight
of_rule m facts rule weight =
    let rows = rule_rows m facts rule in
    let weigh : List Part → ℕ = match_weight m rule in
    ap sum_of (map-map (λ (one : Match). one.impact) (λ (row : List Part). record { row = row; impact = impact_of m rule weight row }) rows)
    ∙ impacts_add_up rule.reward rule.level (λ (row : List Part). weight * weigh row) rows
    ∙ ap (λ (n : ℕ). score_at rule.level (if rule.reward then pos n else neg_ℤ (pos n))) (sum_by-times weight weigh rows)

of_rules : (m : Meaning) (facts : Facts) (pairs : List (RuleDef × ℕ)) → sum_of (flat_map impacts_of (map (λ pair. matches_of m facts pair.0 pair.1) pairs)) ≡ sum_of (map (λ pair. rule_impact m facts pair.0 pair.1) pairs)
of_rules m facts [] = refl
of_rules m facts (pair ∷ pairs) =
    let first = matches_of m facts (pair.0) (pair.1) in
    let others = map (λ (one : RuleDef × ℕ). matches_of m facts (one.0) (one.1)) pairs in
    sum_of-append (impacts_of first) (flat_map impacts_of others) ∙ (λ i. add_scores (of_rule m facts (pair.0) (pair.1) i) (of_rules m facts pairs i))

pub scores_are_of_rules : ScoresAreOfRules
unfolding score_of
scores_are_of_rules m facts rules weights = of_rules m facts (zip rules weights)
