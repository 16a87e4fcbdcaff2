-- Whole texts, from what was written line by line.
use Rattle.std.proofs.Common.{◌≡◌, ◌∙◌, ◌≤◌, ℕ, List, [], ◌∷◌, ◌++◌, length, zip, refl, ap, arith}
use Rattle.std.proofs.lemmas.List.{length-map}
use Rattle.std.proofs.lemmas.Slice.Zip.{length-zip}
use Rattle.plan_scores.specs.declared.plan_score.PlanScore.{PlanScore}
use Rattle.plan_facts.specs.declared.record.ClassDef.{ClassDef}
use Rattle.plan_facts.specs.Plan.{records_of}
use Rattle.plan_rules.specs.declared.row.Match.{Match}
use Rattle.plan_rules.specs.declared.rule.RuleDef.{RuleDef}
use Rattle.plan_rules.specs.Meaning.{Meaning}
use Rattle.plan_rules.specs.Rows.{Facts}
use Rattle.plan_rules.specs.Totals.{all_matches, matches_of, whole_score}
use Rattle.plan_reports.specs.declared.line.Line.{Line}
use Rattle.plan_reports.specs.declared.line.Line.TheVariants as line
use Rattle.plan_reports.specs.Lines.{lines_text}
use Rattle.plan_search.specs.Posed.{Posed, plan_score, state_score}
use Rattle.plan_search.specs.RunLines.{matches_in, score_lines, score_text, sums_lines}
use Rattle.plan_session.proofs.Grown.{written_more}

-- there are at most as many lists of matches as rules
pub few_matches : (m : Meaning) (facts : Facts) (rules : List RuleDef) (weights : List ℕ) (matches : List (List Match)) (most : ℕ) → matches ≡ all_matches m facts rules weights → length rules ≤ most → length matches ≤ most
few_matches m facts rules weights matches most are few =
    omega (arith, ap length are, length-map (zip rules weights) (λ (pair : RuleDef × ℕ). matches_of m facts pair.0 pair.1), length-zip rules weights)

-- three groups of lines are written one behind the other
pub written_three : (classes : List ClassDef) (rules : List RuleDef) (first second third : List Line) (empty one two all : List ℕ) → empty ≡ []
    → one ≡ empty ++ lines_text classes rules first → two ≡ one ++ lines_text classes rules second → all ≡ two ++ lines_text classes rules third
    → all ≡ lines_text classes rules ((first ++ second) ++ third)
written_three classes rules first second third empty one two all none wrote_one wrote_two wrote_three =
    let begun : one ≡ [] ++ lines_text classes rules first = written_more classes rules [] first first [] empty one refl none wrote_one in
    let more : two ≡ [] ++ lines_text classes rules (first ++ second) = written_more classes rules first second (first ++ second) [] one two refl begun wrote_two in
    written_more classes rules (first ++ second) third ((first ++ second) ++ third) [] two all refl more wrote_three

-- the score and each rule are written, as judged under these weights
pub score_written : (posed : Posed) (rules : List RuleDef) (weights : List ℕ) (score : PlanScore) (matches : List (List Match)) (empty one two all : List ℕ) → empty ≡ []
    → one ≡ empty ++ lines_text posed.classes rules (line.Total score ∷ [])
    → two ≡ one ++ lines_text posed.classes rules (sums_lines matches)
    → all ≡ two ++ lines_text posed.classes rules (line.End ∷ [])
    → rules ≡ posed.rules → weights ≡ posed.origin.weights
    → score ≡ whole_score posed.meaning posed.rules weights posed.origin.plan
    → matches ≡ all_matches posed.meaning (records_of posed.origin.plan) posed.rules weights
    → all ≡ score_text posed
unfolding score_text plan_score
score_written posed rules weights score matches empty one two all none wrote_one wrote_two wrote_three rules_are weights_are score_is matches_are =
    let score_at : score ≡ state_score posed posed.origin = score_is ∙ (λ i. whole_score posed.meaning posed.rules (weights_are i) posed.origin.plan) in
    let matches_at : matches ≡ matches_in posed posed.origin = matches_are ∙ ap (all_matches posed.meaning (records_of posed.origin.plan) posed.rules) weights_are in
    written_three posed.classes rules (line.Total score ∷ []) (sums_lines matches) (line.End ∷ []) empty one two all none wrote_one wrote_two wrote_three
    ∙ (λ i. lines_text posed.classes (rules_are i) (score_lines (score_at i) (matches_at i)))
