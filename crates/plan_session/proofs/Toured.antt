-- The sum of a run, from what its search came to.
use Rattle.std.proofs.Common.{◌≡◌, ◌∙◌, ◌++◌, ℕ, Bool, cond, is_some, Option, List, [], ◌∷◌, length, map, sym, ap}
use Rattle.std.specs.List.{count_by}
use Rattle.std.proofs.lemmas.List.{length-map}
use Rattle.plan_rules.specs.declared.rule.RuleDef.{RuleDef}
use Rattle.plan_rules.proofs.Sums.{sum_by-map}
use Rattle.plan_reports.specs.declared.line.Line.{Line}
use Rattle.plan_reports.specs.declared.line.Line.TheVariants as line
use Rattle.plan_reports.specs.Lines.{lines_text}
use Rattle.plan_search.specs.Leg.{Stepped}
use Rattle.plan_search.specs.Posed.{Posed, State}
use Rattle.plan_search.specs.Quiet.{game, leg_after}
use Rattle.plan_search.specs.Run.{best_in, winners}
use Rattle.plan_search.specs.RunLines.{text_of}
use Rattle.plan_search.proofs.Quiet.{one_leg}
use Rattle.plan_session.specs.declared.searching.Searched.{Searched}
use Rattle.plan_session.specs.Searched.{HasSearched}
use Rattle.plan_session.specs.Toured.{fact_count, tour_lines, tour_text}
use Rattle.plan_session.proofs.Won.{steps_done}

-- the lines that sum up a search of so many steps in one leg
abbrev pub sum_lines : ℕ → ℕ → ℕ → Searched → List Line
sum_lines number size steps searched =
    line.Tour number size ∷ line.Facts (fact_count searched.best) ∷ line.Legs 1 ∷ line.Steps steps
    ∷ line.Wins searched.wins ∷ line.Best searched.score ∷ line.End ∷ []

-- to count what passes of what is made of each member is to count the members of which that passes
count_by-map : {X Y : Type 0} (p : Y → Bool) (f : X → Y) (xs : List X) → count_by p (map f xs) ≡ count_by (λ x. p (f x)) xs
count_by-map p f xs = sum_by-map (λ y. cond (p y) 1 0) f xs

-- what a search of all steps came to sums up as the run does
sums_up : (posed : Posed) (number size : ℕ) (searched : Searched) → HasSearched posed posed.settings.steps searched
    → text_of posed (sum_lines number size posed.settings.steps searched) ≡ tour_text number size posed
unfolding tour_text
sums_up posed number size searched has =
    let n = posed.settings.steps in
    let leg = leg_after posed n in
    let winner : Stepped State → Option ℕ = λ step. step.winner in
    let steps : n ≡ length (winners (leg ∷ [])) = sym (steps_done posed n) ∙ sym (length-map leg.steps winner) in
    let wins : searched.wins ≡ count_by is_some (winners (leg ∷ [])) = has.wins ∙ sym (count_by-map is_some winner leg.steps) in
    (λ i. text_of posed
    (line.Tour number size ∷ line.Facts (fact_count (has.best i)) ∷ line.Legs 1 ∷ line.Steps (steps i)
    ∷ line.Wins (wins i) ∷ line.Best (has.score i) ∷ line.End ∷ []))
    ∙ ap (λ legs. text_of posed (tour_lines number size posed (best_in (game posed) legs) legs)) (sym (one_leg posed n))

-- these lines are written into an empty text
pub sum_written : (posed : Posed) (rules : List RuleDef) (number size : ℕ) (searched : Searched) (empty all : List ℕ) → empty ≡ []
    → all ≡ empty ++ lines_text posed.classes rules (sum_lines number size posed.settings.steps searched) → rules ≡ posed.rules
    → HasSearched posed posed.settings.steps searched → all ≡ tour_text number size posed
sum_written posed rules number size searched empty all none wrote rules_are has =
    wrote
    ∙ (λ i. none i ++ lines_text posed.classes (rules_are i) (sum_lines number size posed.settings.steps searched))
    ∙ sums_up posed number size searched has
