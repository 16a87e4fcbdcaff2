-- The lines that a command prints.
use Rattle.std.specs.Prelude.{ℕ, List, [], ◌∷◌, ◌++◌, Option, Some, None, map, flat_map, fold, length, replicate}
use Rattle.std.specs.List.{enumerate_from}
use Rattle.plan_scores.specs.declared.plan_score.PlanScore.{PlanScore}
use Rattle.plan_facts.specs.declared.record.Raw.{Raw}
use Rattle.plan_facts.specs.Plan.{PlanView, records_of}
use Rattle.plan_rules.specs.declared.row.Match.{Match}
use Rattle.plan_rules.specs.Totals.{all_matches, impact_sum}
use Rattle.plan_moves.specs.declared.edit.Touch.{Touch}
use Rattle.plan_moves.specs.Entities.{entities_of, values_of}
use Rattle.plan_search.specs.declared.placed.Placed.{Placed}
use Rattle.plan_search.specs.Leg.{Leg, Stepped}
use Rattle.plan_search.specs.Posed.{Posed, State, game_of, placing_from, state_score}
use Rattle.plan_search.specs.Run.{best_in, run_to_cut}
use Rattle.plan_reports.specs.declared.line.Line.{Line}
use Rattle.plan_reports.specs.declared.line.Line.TheVariants as line
use Rattle.plan_reports.specs.Lines.{lines_text}

-- the line of an entity that was placed
abbrev pub place_line : Placed → Line
place_line one = line.Place one.class one.id one.values one.score

-- the line of the entity at which a placing was stuck
abbrev pub stuck_lines : Option Touch → List Line
stuck_lines None = []
stuck_lines (Some entity) = line.Stuck entity.class entity.id ∷ []

-- the lines of a placing: each entity that was placed, and the one at which it was stuck, if any
abbrev pub placing_lines : List Placed → Option Touch → List Line
placing_lines placed stuck = map place_line placed ++ stuck_lines stuck

-- the line of a step: its winner, if any, and the score after it
abbrev pub step_line : Posed → Stepped State → Line
step_line posed step = line.Step step.step step.winner (state_score posed step.after) step.is_best

-- what a feed's lines are to a search: what one makes of a state, and the lines that say so
pub record Feed (Change : Type 0) : Type 0 where
  pub handle : State → Change → State
  pub tells : State → Change → List Line

-- no feed
abbrev pub no_feed : Feed ⊥
no_feed = record { handle = λ state change. state; tells = λ state change. [] }

-- the lines that say what became of a feed's lines, handled in order
abbrev pub handled_lines : {Change : Type 0} → Feed Change → State → List Change → List Line
handled_lines feed state [] = []
handled_lines feed state (change ∷ rest) =
    feed.tells state change ++ handled_lines feed (feed.handle state change) rest

-- the state of a leg after its feed's lines, before its placing
abbrev pub handled_in : {Change : Type 0} → Feed Change → Leg State Change → State
handled_in feed leg = fold feed.handle leg.origin leg.lines

-- the lines of a leg up to its start score: its boundary, what became of its feed's lines, and its placing
abbrev pub opening_lines : {Change : Type 0} → Feed Change → Posed → Leg State Change → List Line
opening_lines feed posed leg =
    let placing = placing_from posed (handled_in feed leg) in
    line.Leg leg.boundary ∷ handled_lines feed leg.origin leg.lines
    ++ placing_lines placing.placed placing.stuck ++ line.Start (state_score posed leg.start) ∷ []

-- the lines of a leg so far
abbrev pub leg_lines : {Change : Type 0} → Feed Change → Posed → Leg State Change → List Line
leg_lines feed posed leg = opening_lines feed posed leg ++ map (step_line posed) leg.steps

-- the lines of some legs, the newest first, in their order
abbrev pub legs_lines : {Change : Type 0} → Feed Change → Posed → List (Leg State Change) → List Line
legs_lines feed posed [] = []
legs_lines feed posed (leg ∷ older) = legs_lines feed posed older ++ leg_lines feed posed leg

-- the line of an entity of a plan
abbrev pub entity_line : PlanView → Touch → Line
entity_line plan entity = line.Entity entity.class entity.id (values_of plan entity)

-- the line of an entity of a class, by its record
abbrev pub record_line : ℕ → Raw → Line
record_line class raw = line.Entity class raw.id raw.values

-- a line for each entity of a plan, in entity order
abbrev pub entity_lines : PlanView → List Line
entity_lines plan = map (entity_line plan) (entities_of plan)

-- the line of a rule: how many matches it has, and the sum of their impacts
abbrev pub rule_line : ℕ → List Match → Line
rule_line rule matches = line.Rule rule (length matches) (impact_sum matches)

-- the line of a match
abbrev pub match_line : Match → Line
match_line one = line.Match one.impact one.row

-- the line of a rule, then one for each of its matches
abbrev pub rule_lines : ℕ → List Match → List Line
rule_lines rule matches = rule_line rule matches ∷ map match_line matches

-- the lines of all rules with their matches
abbrev pub matches_lines : List (List Match) → List Line
matches_lines matches = flat_map (λ pair. rule_lines pair.0 pair.1) (enumerate_from 0 matches)

-- the lines of all rules alone
abbrev pub sums_lines : List (List Match) → List Line
sums_lines matches = map (λ pair. rule_line pair.0 pair.1) (enumerate_from 0 matches)

-- the matches of each rule in a state
abbrev pub matches_in : Posed → State → List (List Match)
matches_in posed state = all_matches posed.meaning (records_of state.plan) posed.rules state.weights

-- the lines of a best plan: its score, its entities, its rules with their matches
abbrev pub best_lines : PlanScore → PlanView → List (List Match) → List Line
best_lines score plan matches = line.Best score ∷ entity_lines plan ++ matches_lines matches ++ line.End ∷ []

-- the lines of a posed problem's best state
abbrev pub best_lines_of : Posed → State → List Line
best_lines_of posed state = best_lines (state_score posed state) state.plan (matches_in posed state)

-- the lines of a run with these legs, the newest first
abbrev pub run_lines : {Change : Type 0} → Feed Change → Posed → List (Leg State Change) → List Line
run_lines feed posed legs =
    line.Run posed.name ∷ legs_lines feed posed legs ++ best_lines_of posed (best_in (game_of feed.handle posed) legs)

-- the text of some lines under the posed problem's names
abbrev pub text_of : Posed → List Line → List ℕ
text_of posed lines = lines_text posed.classes posed.rules lines

-- the legs of a run of all steps whose boundaries took these lines, the newest first
abbrev pub legs_of : {Change : Type 0} → Feed Change → Posed → List (List Change) → List (Leg State Change)
legs_of feed posed cuts = run_to_cut (game_of feed.handle posed) posed.settings cuts

-- what the boundaries of a run of so many steps take where there is no feed: nothing, that before the first step too
abbrev pub quiet_cuts : ℕ → List (List ⊥)
quiet_cuts steps = [] ∷ replicate steps []

-- what `solve` prints without a feed
unfoldable pub solve_text : Posed → List ℕ
solve_text posed =
    text_of posed (run_lines no_feed posed (legs_of no_feed posed (quiet_cuts posed.settings.steps)))

-- the lines of a plan's score: the score, and each rule
abbrev pub score_lines : PlanScore → List (List Match) → List Line
score_lines score matches = line.Total score ∷ sums_lines matches ++ line.End ∷ []

-- what `score` prints: the score of the plan as read, and each rule
unfoldable pub score_text : Posed → List ℕ
score_text posed = text_of posed (score_lines (state_score posed posed.origin) (matches_in posed posed.origin))
