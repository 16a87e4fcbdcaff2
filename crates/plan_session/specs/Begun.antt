-- How a search begins, and what is printed of the plan that it ends with.
use Rattle.std.specs.Prelude.{◌≡◌, ℕ, List, ◌∷◌, ◌++◌, []}
use Rattle.plan_scores.specs.declared.plan_score.PlanScore.{PlanScore}
use Rattle.plan_facts.specs.Plan.{PlanView, records_of}
use Rattle.plan_settings.specs.declared.settings.Settings.{Settings}
use Rattle.plan_rules.specs.Meaning.{Meaning}
use Rattle.plan_rules.specs.Totals.{all_matches, whole_score}
use Rattle.move_selectors.specs.Candidates.{Made}
use Rattle.plan_json.specs.Domains.{DomainView}
use Rattle.plan_reports.specs.Lines.{lines_text}
use Rattle.plan_reports.specs.declared.line.Line.{Line}
use Rattle.score_director.specs.View.{DirectorView, at_rest}
use Rattle.plan_search.specs.Leg.{state_of}
use Rattle.plan_search.specs.Posed.{Posed}
use Rattle.plan_search.specs.Quiet.{leg_after}
use Rattle.plan_search.specs.RunLines.{best_lines, placing_lines}
use Rattle.construction.specs.declared.next.Course.{Course}
use Rattle.plan_reports.specs.declared.line.Line.TheVariants as line
use Rattle.search_core.specs.declared.event.Event.TheVariants.{Cut, Start}
use Rattle.search_core.specs.declared.machine.Core.{Core}
use Rattle.search_core.specs.Keeps.{StandsFor}
use Rattle.plan_session.specs.Course.{IsDecider, IsQuiet}

-- a problem is posed by a domain whose closures mean this and whose makers make these moves, and by settings
pub record IsPosedBy (m : Meaning) (makers : List Made) (domain : DomainView) (settings : Settings) (posed : Posed)
    : Type 0 where
  pub means : m ≡ posed.meaning
  pub makers_are : makers ≡ posed.makers
  pub name : domain.name ≡ posed.name
  pub classes : domain.classes ≡ posed.classes
  pub rules : domain.rules ≡ posed.rules
  pub harder : domain.harder ≡ posed.harder
  pub settings_are : settings ≡ posed.settings

-- the problem's plan as read, and its weights
pub record IsOrigin (plan : PlanView) (weights : List ℕ) (posed : Posed) : Type 0 where
  pub plan_is : plan ≡ posed.origin.plan
  pub weights_are : weights ≡ posed.origin.weights

-- a core that asks so many candidates at once stands for the first cut and the start of a leg with this score
abbrev pub BeginsLeg : Settings → ℕ → PlanScore → Core → Type 0
BeginsLeg settings buffer score core =
    StandsFor (record { settings = settings; buffer = buffer }) core (Start score ∷ Cut 0 ∷ [])

-- a director is at the placed plan, and a core before the first step
pub record IsBegun (posed : Posed) (director : DirectorView) (core : Core) : Type 0 where
  pub stands : director ≡ at_rest posed.rules posed.origin.weights (state_of (leg_after posed 0)).plan
  pub decides : IsDecider posed 1 (leg_after posed 0) core
  pub quiet : IsQuiet core

-- the text of a best plan under weights
abbrev pub best_text : Meaning → DomainView → PlanView → List ℕ → List ℕ
best_text m domain plan weights =
    lines_text domain.classes domain.rules
    (best_lines (whole_score m domain.rules weights plan) plan (all_matches m (records_of plan) domain.rules weights))

-- the text of a run's first line
abbrev pub run_line_of : DomainView → List ℕ
run_line_of domain = lines_text domain.classes domain.rules (line.Run domain.name ∷ [])

-- the lines of a leg up to its start score: its boundary, what became of the lines that it took, and its placing
abbrev pub leg_opening : ℕ → List Line → Course → PlanScore → List Line
leg_opening boundary told course start =
    line.Leg boundary ∷ told ++ placing_lines course.placed course.stuck ++ line.Start start ∷ []

-- their text
abbrev pub opening_of : DomainView → ℕ → List Line → Course → PlanScore → List ℕ
opening_of domain boundary told course start =
    lines_text domain.classes domain.rules (leg_opening boundary told course start)
