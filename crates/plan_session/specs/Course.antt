-- Where a leg of a search stands before a step.
use Rattle.std.specs.Prelude.{◌≡◌, ◌≤◌, ◌<◌, ℕ, suc, Bool, false, List, [], ◌∷◌, Option, length, option_map}
use Rattle.acceptors.specs.History.{History}
use Rattle.plan_scores.specs.Order.{is_better_plan}
use Rattle.foragers.specs.Forage.{number_of}
use Rattle.plan_settings.specs.declared.setting.Selector.{Selector}
use Rattle.plan_rules.specs.Meaning.{Meaning}
use Rattle.plan_rules.specs.Range.{sizes_of}
use Rattle.move_selectors.specs.Candidates.{Made}
use Rattle.plan_reports.specs.declared.line.Line.{Line}
use Rattle.plan_search.specs.declared.found.Found.{Found}
use Rattle.plan_search.specs.Game.{found_at}
use Rattle.plan_search.specs.Judging.{winning}
use Rattle.plan_search.specs.Leg.{Leg, Stepped, best_of, history_of, next_step, state_of, stepped}
use Rattle.plan_search.specs.Posed.{Posed, State, state_score}
use Rattle.plan_search.specs.Quiet.{game, leg_after, lines_after}
use Rattle.plan_search.specs.RunLines.{step_line, text_of}
use Rattle.move_workers.specs.Judging.{WorkerView}
use Rattle.move_workers.specs.Laws.{worker_on}
use Rattle.search_core.specs.declared.event.Event.{Event}
use Rattle.search_core.specs.declared.machine.Core.{Core}
use Rattle.search_core.specs.Desk.{Terms, desk}
use Rattle.search_core.specs.Keeps.{StandsFor}
use Rattle.search_core.specs.OneThread.{BeginsAt, BeginsStep, EndsStep}
use Rattle.search_core.specs.Truth.{IsTaken}
use Rattle.plan_ports.specs.Outside.{LaterSink, SinkState, Wrote}
use Rattle.plan_session.specs.declared.best.BestSoFar.{BestSoFar}
use Rattle.plan_session.specs.Toured.{win_count}
use Rattle.plan_session.specs.WayBack.{IsWayBack}

-- a leg as its steps see it, without the lines that it took
abbrev pub BareLeg : Type 0
BareLeg = Leg State ⊥

-- the best state of a leg so far
abbrev pub best_in : Posed → BareLeg → State
best_in posed leg = best_of (game posed) leg

-- what the acceptor remembers of it
abbrev pub history_in : Posed → BareLeg → History
history_in posed leg = history_of (game posed) leg

-- what is found of each candidate of its step under this number
abbrev pub found_in_step : Posed → ℕ → BareLeg → ℕ → Option Found
found_in_step posed k leg = found_at (game posed) k (state_of leg)

-- the number of the candidate that wins the step
abbrev pub winner_in : Posed → ℕ → BareLeg → Option ℕ
winner_in posed k leg =
    option_map number_of (winning posed.settings (history_in posed leg) (found_in_step posed k leg))

-- the step, and the leg with it
abbrev pub step_in : Posed → ℕ → BareLeg → Stepped State
step_in posed k leg = next_step (game posed) posed.settings k leg

abbrev pub gone_on : Posed → ℕ → BareLeg → BareLeg
gone_on posed k leg = stepped (game posed) posed.settings k leg

-- the closures mean what the problem's do, and candidates are drawn by its seed, selectors and makers
pub record Plays (m : Meaning) (seed : ℕ) (selectors : List Selector) (makers : List Made) (posed : Posed)
    : Type 0 where
  pub means : m ≡ posed.meaning
  pub seed_is : seed ≡ posed.settings.seed
  pub selectors_are : selectors ≡ posed.settings.selectors
  pub makers_are : makers ≡ posed.makers

-- a worker stays under its rules, weights and seed, on a plan of the same sizes
pub record SameTerms (old new : WorkerView) : Type 0 where
  pub rules : new.director.rules ≡ old.director.rules
  pub weights : new.director.weights ≡ old.director.weights
  pub seed : new.seed ≡ old.seed
  pub sizes : sizes_of new.director.plan ≡ sizes_of old.director.plan

-- the worker is at the state of the leg, and knows the best one, than which the state isn't better, the way back, and how many
-- steps had a winner
pub record IsAt (posed : Posed) (leg : BareLeg) (worker : WorkerView) (best : BestSoFar) : Type 0 where
  pub stands : worker ≡ worker_on posed (state_of leg)
  pub score : best.score ≡ state_score posed (best_in posed leg)
  pub greatest : is_better_plan (state_score posed (state_of leg)) best.score ≡ false
  pub back : IsWayBack (best_in posed leg).plan best.back.items (state_of leg).plan
  pub wins : best.wins ≡ win_count leg.steps

-- the step under this number was played, and is the best or not
pub record WentOn (posed : Posed) (k : ℕ) (leg : BareLeg) (worker : WorkerView) (best : BestSoFar) (is_best : Bool)
    : Type 0 where
  pub at : IsAt posed (gone_on posed k leg) worker best
  pub tells : is_best ≡ (step_in posed k leg).is_best

-- how a posed problem is searched: by its settings, so many candidates at once
abbrev pub terms : Posed → ℕ → Terms
terms posed buffer = record { settings = posed.settings; buffer = buffer }

-- a core took an event: whatever list it stood for, it stands for the list with the event
abbrev pub TakesEvent : Core → Event → Core → Type 0
TakesEvent old event new = (t : Terms) (events : List Event) → StandsFor t old events → StandsFor t new (event ∷ events)

-- nothing was posted since the last cut
abbrev pub IsQuiet : Core → Type 0
IsQuiet core = core.posts ≡ 0

-- a core stands for events that were all taken, after which a step begins
pub record IsReady (core : Core) (step : ℕ) : Type 0 where
  pub begins : BeginsAt core step
  pub taken : IsTaken begins.terms begins.events

-- the core stands for events that were all taken, after which the leg's step under this number begins, if there is one
pub record IsDecider (posed : Posed) (k : ℕ) (leg : BareLeg) (core : Core) : Type 0 where
  pub buffer : ℕ
  pub events : List Event
  pub stands : StandsFor (terms posed buffer) core events
  pub taken : IsTaken (terms posed buffer) events
  pub begins : k ≤ posed.settings.steps
      → BeginsStep (terms posed buffer) (desk (terms posed buffer) events) k (history_in posed leg)

-- a leg is in course before its step under this number: the core decides and the worker is at the leg's state
pub record IsInCourse (core : Core) (worker : WorkerView) (best : BestSoFar) (posed : Posed) (k : ℕ) (leg : BareLeg)
    : Type 0 where
  pub decides : IsDecider posed k leg core
  pub at : IsAt posed leg worker best
  pub few : length leg.steps < k

-- a core stands for events that were all taken, after which a boundary is to be cut, where so many lines were posted
pub record IsEndedAfter (core : Core) (k posts : ℕ) : Type 0 where
  pub terms : Terms
  pub events : List Event
  pub history : History
  pub stands : StandsFor terms core events
  pub taken : IsTaken terms events
  pub ends : EndsStep terms (desk terms events) k posts history

-- the same where nothing was posted
abbrev pub IsEnded : Core → ℕ → Type 0
IsEnded core k = IsEndedAfter core k 0

-- the same, where a leg's step under this number was the last one, and the leg is this one with it
pub record HasEnded (posed : Posed) (k : ℕ) (leg : BareLeg) (core : Core) : Type 0 where
  pub buffer : ℕ
  pub events : List Event
  pub stands : StandsFor (terms posed buffer) core events
  pub taken : IsTaken (terms posed buffer) events
  pub ends : EndsStep (terms posed buffer) (desk (terms posed buffer) events) k 0 (history_in posed leg)

-- a step was made: the boundary behind it is to be cut, and the worker is at the state of the leg with it
pub record IsMade (core : Core) (worker : WorkerView) (best : BestSoFar) (posed : Posed) (k : ℕ) (leg : BareLeg)
    : Type 0 where
  pub ended : HasEnded posed k leg core
  pub at : IsAt posed leg worker best
  pub few : length leg.steps ≤ k

-- so many steps of a run without a feed were printed since the sink was as at the start
pub record HasPrinted (posed : Posed) (n : ℕ) (start now : SinkState) : Type 0 where
  pub wrote : Wrote (text_of posed (lines_after posed n)) start now
  pub later : LaterSink start now

-- the line of a leg's step under this number, and its text
abbrev pub line_in : Posed → ℕ → BareLeg → Line
line_in posed k leg = step_line posed (step_in posed k leg)

abbrev pub step_text : Posed → ℕ → BareLeg → List ℕ
step_text posed k leg = text_of posed (line_in posed k leg ∷ [])

-- a run without a feed is in course after so many steps
abbrev pub IsAfter : Core → WorkerView → BestSoFar → Posed → ℕ → Type 0
IsAfter core worker best posed n = IsInCourse core worker best posed (suc n) (leg_after posed n)
