-- The events that one thread makes of a run. Lists of events and of cuts have the newest first.
use Rattle.std.specs.Prelude.{◌+◌, if◌then◌else◌, nat_le, List, [], ◌∷◌, ◌++◌, length}
use Rattle.plan_search.specs.Game.{Game, found_at}
use Rattle.plan_search.specs.Run.{run_to_cut, state_in}
use Rattle.search_core.specs.declared.event.Event.{Event}
use Rattle.search_core.specs.declared.event.Event.TheVariants.{Post, Cut, Start}
use Rattle.search_core.specs.Desk.{Terms, begins_leg}
use Rattle.search_core.specs.OneThread.{step_events}
use Rattle.search_core.specs.Truth.{post_count}

-- a Post for each line
abbrev pub post_events : {Line : Type 0} → List Line → List Event → List Event
post_events [] before = before
post_events (line ∷ lines) before = post_events lines (Post 0 (post_count before) ∷ before)

-- all lines that some cuts took, in order
abbrev pub posted : {Line : Type 0} → List (List Line) → List Line
posted [] = []
posted (lines ∷ older) = posted older ++ lines

module _ {State Line : Type 0} where
  -- the state that a run stands at after the newest of these cuts
  abbrev pub state_after : Game State Line → Terms → List (List Line) → State
  state_after g t cuts = state_in g (run_to_cut g t.settings cuts)

  -- the next cut takes these lines: they are posted and the Cut is made, and where it begins a leg that starts
  abbrev pub cut_events : Game State Line → Terms → List (List Line) → List Line → List Event → List Event
  cut_events g t older lines before =
      let cut = Cut (length older) ∷ post_events lines before in
      if begins_leg (length older) (length lines) then Start (g.score (state_after g t (lines ∷ older))) ∷ cut else cut

  -- the step after the newest cut, up to the step limit
  abbrev pub step_on : Game State Line → Terms → List (List Line) → List Event → List Event
  step_on g t [] before = before
  step_on g t (lines ∷ older) before =
      let k = length older + 1 in
      if nat_le k t.settings.steps then step_events t k (found_at g k (state_after g t (lines ∷ older))) before
      else before

  -- a run up to its newest cut
  abbrev pub events_to_cut : Game State Line → Terms → List (List Line) → List Event
  events_to_cut g t [] = []
  events_to_cut g t (lines ∷ older) = cut_events g t older lines (step_on g t older (events_to_cut g t older))

  -- a run with the step after its newest cut
  abbrev pub events_of : Game State Line → Terms → List (List Line) → List Event
  events_of g t cuts = step_on g t cuts (events_to_cut g t cuts)
