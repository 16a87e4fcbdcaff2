-- A run whose boundaries take lines of a feed, leg by leg: where it stands before a step, and what a step and the boundary behind
-- it make of it.
use Rattle.std.specs.Prelude.{◌≡◌, ◌++◌, ℕ, suc, List, [], ◌∷◌, map}
use Rattle.plan_changes.specs.Fits.{IsOfSchema, Shape, shape_in}
use Rattle.plan_reports.specs.declared.line.Line.{Line}
use Rattle.plan_search.specs.Leg.{Leg, leg_from, state_of}
use Rattle.plan_search.specs.Posed.{Posed, State, game_of}
use Rattle.plan_search.specs.RunLines.{Feed, opening_lines, text_of}
use Rattle.score_director.specs.View.{DirectorView, at_rest}
use Rattle.move_workers.specs.Judging.{WorkerView}
use Rattle.search_core.specs.declared.machine.Core.{Core}
use Rattle.plan_session.specs.declared.best.BestSoFar.{BestSoFar}
use Rattle.plan_session.specs.Course.{BareLeg, IsDecider, IsInCourse, IsMade, best_in, gone_on, line_in, step_text}
use Rattle.plan_session.specs.Fed.{bare, legs_to, lines_so_far, newest}

-- what the steps of a leg leave alone: names, weights, and the shapes of classes
pub record Frame : Type 0 where
  pub names : List (List ℕ)
  pub weights : List ℕ
  pub shapes : List Shape

-- the frame of a state
abbrev pub frame_of : State → Frame
frame_of state =
    record { names = state.names; weights = state.weights; shapes = map shape_in state.plan.classes }

-- the state of a leg, and its best one, are in the frame of its start
pub record StaysInFrame (posed : Posed) (leg : BareLeg) : Type 0 where
  pub now : frame_of (state_of leg) ≡ frame_of leg.start
  pub best : frame_of (best_in posed leg) ≡ frame_of leg.start

-- these are the names of a leg, whose plans are of the problem's schema
pub record IsFramed (posed : Posed) (leg : BareLeg) (names : List (List ℕ)) : Type 0 where
  pub names_are : names ≡ leg.start.names
  pub schema : IsOfSchema posed.classes leg.start.plan
  pub stays : StaysInFrame posed leg

-- a leg was begun at a boundary: the director is at the placed plan, and the core decides the leg's first step
pub record IsOpened (core : Core) (director : DirectorView) (names : List (List ℕ)) (posed : Posed) (k : ℕ)
    (leg : BareLeg) : Type 0 where
  pub decides : IsDecider posed (suc k) leg core
  pub stands : director ≡ at_rest posed.rules leg.start.weights leg.start.plan
  pub names_are : names ≡ leg.start.names
  pub schema : IsOfSchema posed.classes leg.start.plan

-- a leg is in course before its step under this number, with these names
pub record IsLive (core : Core) (worker : WorkerView) (best : BestSoFar) (names : List (List ℕ)) (posed : Posed) (k : ℕ)
    (leg : BareLeg) : Type 0 where
  pub course : IsInCourse core worker best posed k leg
  pub framed : IsFramed posed leg names

-- a step was made: the boundary behind it is to be cut, and the leg with it stands so
pub record IsLiveMade (core : Core) (worker : WorkerView) (best : BestSoFar) (names : List (List ℕ)) (posed : Posed)
    (k : ℕ) (leg : BareLeg) : Type 0 where
  pub made : IsMade core worker best posed k leg
  pub framed : IsFramed posed leg names

module _ {Change : Type 0} (feed : Feed Change) (posed : Posed) where
  -- the leg that begins at a boundary where a state takes lines
  abbrev pub leg_begun : ℕ → List Change → State → Leg State Change
  leg_begun k lines state = leg_from (game_of feed.handle posed) k lines state

  -- what is printed where a leg begins
  abbrev pub opening_text : ℕ → List Change → State → List ℕ
  opening_text k lines state = text_of posed (opening_lines feed posed (leg_begun k lines state))

  -- the leg behind a boundary: the same where it takes no lines, else one that begins with the best state
  abbrev pub leg_behind : ℕ → List Change → BareLeg → BareLeg
  leg_behind k [] leg = leg
  leg_behind k (first ∷ lines) leg = bare (leg_begun k (first ∷ lines) (best_in posed leg))

  -- the lines that are printed at a boundary
  abbrev pub lines_behind : ℕ → List Change → BareLeg → List Line
  lines_behind k [] leg = []
  lines_behind k (first ∷ lines) leg = opening_lines feed posed (leg_begun k (first ∷ lines) (best_in posed leg))

  -- the leg behind its step under a number, and the boundary there
  abbrev pub next_leg : ℕ → List Change → BareLeg → BareLeg
  next_leg k lines leg = leg_behind k lines (gone_on posed k leg)

  -- the lines of that step and that boundary
  abbrev pub next_lines : ℕ → List Change → BareLeg → List Line
  next_lines k lines leg = line_in posed k leg ∷ lines_behind k lines (gone_on posed k leg)

  -- the texts of both
  abbrev pub text_behind : ℕ → List Change → BareLeg → List ℕ
  text_behind k lines leg = text_of posed (lines_behind k lines leg)

  abbrev pub next_text : ℕ → List Change → BareLeg → List ℕ
  next_text k lines leg = text_of posed (next_lines k lines leg)

  -- the text of a run up to a boundary, by what each boundary takes
  abbrev pub text_to : (ℕ → List Change) → ℕ → List ℕ
  text_to takes n = text_of posed (lines_so_far feed posed (legs_to feed posed takes n))

  -- the newest leg with the step behind a boundary
  abbrev pub made_leg : (ℕ → List Change) → ℕ → BareLeg
  made_leg takes n = gone_on posed (suc n) (newest posed (legs_to feed posed takes n))

  -- the text of a run up to that step
  abbrev pub text_made : (ℕ → List Change) → ℕ → List ℕ
  text_made takes n = text_to takes n ++ step_text posed (suc n) (newest posed (legs_to feed posed takes n))
