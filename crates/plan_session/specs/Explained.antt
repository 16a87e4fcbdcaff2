-- The text of `explain`.
use Rattle.std.specs.Prelude.{◌==◌, ℕ, List, ◌∷◌, ◌++◌, [], length, map, if◌then◌else◌}
use Rattle.plan_scores.specs.declared.plan_score.PlanScore.{PlanScore}
use Rattle.plan_facts.specs.Plan.{PlanView}
use Rattle.plan_rules.specs.declared.row.Match.{Match}
use Rattle.plan_rules.specs.Totals.{impact_sum}
use Rattle.plan_reports.specs.declared.line.Line.{Line}
use Rattle.plan_reports.specs.declared.line.Line.TheVariants as line
use Rattle.plan_search.specs.Posed.{Posed, state_score}
use Rattle.plan_search.specs.RunLines.{matches_in, matches_lines, text_of}
use Rattle.indictments.specs.declared.tally.Tally.{Tally}
use Rattle.indictments.specs.Indicts.{Named, all_of, indicted_of, matches_with}

-- the line of a fact: of how many of these matches it is a part, and the sum of their impacts
abbrev pub indict_line : List Match → Named → Line
indict_line matches fact =
    let those = matches_with fact.class fact.id matches in
    line.Indict fact.class fact.id (length those) (impact_sum those)

-- the lines of a fact with this tally: none where it is that of no match
abbrev pub tally_lines : ℕ → ℕ → Tally → List Line
tally_lines class id tally =
    if tally.count == 0 then [] else line.Indict class id tally.count tally.impact ∷ []

-- a line for each fact of a plan that is a part of some of these matches
abbrev pub indict_lines : List Match → PlanView → List Line
indict_lines matches plan = map (indict_line matches) (indicted_of matches plan)

-- the lines that explain a plan: its score, each rule with its matches, each fact that is a part of some
abbrev pub explain_lines : PlanScore → PlanView → List (List Match) → List Line
explain_lines score plan matches =
    line.Total score ∷ matches_lines matches ++ indict_lines (all_of matches) plan ++ line.End ∷ []

-- what `explain` prints: the score of the plan as read, each rule with its matches, and each fact that is a part of some
unfoldable pub explain_text : Posed → List ℕ
explain_text posed =
    let state = posed.origin in
    text_of posed (explain_lines (state_score posed state) state.plan (matches_in posed state))
