-- A problem as a search sees it.
use Rattle.std.specs.Prelude.{ℕ, Bool, true, false, List, Option, Some, None, if◌then◌else◌, option_map}
use Rattle.std.specs.Option.{option_and_then}
use Rattle.plan_scores.specs.declared.plan_score.PlanScore.{PlanScore}
use Rattle.plan_facts.specs.Plan.{PlanView}
use Rattle.plan_facts.specs.declared.record.ClassDef.{ClassDef}
use Rattle.plan_settings.specs.declared.setting.Construction.{Construction}
use Rattle.plan_settings.specs.declared.setting.Construction.TheVariants.{Decreasing, FirstFit}
use Rattle.plan_settings.specs.declared.setting.Selector.{Selector}
use Rattle.plan_settings.specs.declared.settings.Settings.{Settings}
use Rattle.plan_rules.specs.declared.rule.Harder.{Harder}
use Rattle.plan_rules.specs.declared.rule.RuleDef.{RuleDef}
use Rattle.plan_rules.specs.Meaning.{Meaning}
use Rattle.plan_rules.specs.Totals.{whole_score}
use Rattle.plan_draws.specs.Draws.{words}
use Rattle.plan_moves.specs.declared.edit.Set.{Set}
use Rattle.plan_moves.specs.declared.edit.Touch.{Touch}
use Rattle.plan_moves.specs.Edits.{applied, is_doable, touched_by}
use Rattle.move_selectors.specs.Candidates.{Made, candidate_of}
use Rattle.plan_search.specs.Game.{Game, Move}
use Rattle.plan_search.specs.Placing.{Placing, placing_of}
use Rattle.plan_search.specs.Todo.{todo_by}

-- what a search and a feed change: the plan, the names that stand in it, and the weight of each rule
pub record State : Type 0 where
  pub plan : PlanView
  pub names : List (List ℕ)
  pub weights : List ℕ

-- the domain's name and classes, its rules and harder keys with what their closures mean, its makers of moves, how the problem is
-- to be searched, and the state as read
pub record Posed : Type 0 where
  pub name : List ℕ
  pub classes : List ClassDef
  pub rules : List RuleDef
  pub harder : List Harder
  pub meaning : Meaning
  pub makers : List Made
  pub settings : Settings
  pub origin : State

-- the state with another plan
abbrev pub with_plan : State → PlanView → State
with_plan state plan = record state { plan = plan }

-- what a plan is worth under these weights
unfoldable pub plan_score : Posed → List ℕ → PlanView → PlanScore
plan_score posed weights plan = whole_score posed.meaning posed.rules weights plan

-- what a state is worth
abbrev pub state_score : Posed → State → PlanScore
state_score posed state = plan_score posed state.weights state.plan

-- harder entities are placed first
abbrev pub is_decreasing : Construction → Bool
is_decreasing FirstFit = false
is_decreasing Decreasing = true

-- what is to be placed in a plan of a posed problem, in its order
unfoldable pub todo_of : Posed → PlanView → List Touch
todo_of posed plan = todo_by posed.meaning posed.harder (is_decreasing posed.settings.construction) plan

-- the placing of a state: of what is to be placed in its plan, once
abbrev pub placing_from : Posed → State → Placing
placing_from posed state = placing_of (plan_score posed state.weights) state.plan (todo_of posed state.plan)

-- an edit where it is doable
abbrev pub doable_only : PlanView → List Set → Option (List Set)
doable_only plan sets = if is_doable plan sets then Some sets else None

-- the edit that selectors and makers make of a plan by a candidate's eight words under a seed; none where they make none or it
-- isn't doable
unfoldable pub candidate_by : ℕ → List Selector → List Made → ℕ → ℕ → PlanView → Option (List Set)
candidate_by seed selectors makers step number plan =
    option_and_then (doable_only plan) (candidate_of plan selectors makers (words seed step number))

-- the same under the settings and the makers of a posed problem
abbrev pub candidate_at : Posed → ℕ → ℕ → PlanView → Option (List Set)
candidate_at posed = candidate_by posed.settings.seed posed.settings.selectors posed.makers

-- the move of an edit
abbrev pub move_of : State → List Set → Move State
move_of state sets = record { after = with_plan state (applied state.plan sets); touched = touched_by sets }

-- the search of a posed problem, where this is what a line of a feed makes of a state
abbrev pub game_of : {Line : Type 0} → (State → Line → State) → Posed → Game State Line
game_of handle posed = record {
  origin = posed.origin;
  handle = handle;
  place = λ state. with_plan state (placing_from posed state).plan;
  score = state_score posed;
  candidate = λ step number state. option_map (move_of state) (candidate_at posed step number state.plan);
}
