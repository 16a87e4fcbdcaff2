-- Which lists of events are true of a search, and what a core chose on them. Lists of events and of cuts have the newest first.
use Rattle.std.specs.Prelude.{◌≡◌, ℕ, ◌+◌, ◌<◌, ◌==◌, if◌then◌else◌, List, [], ◌∷◌, ◌++◌, length, slice_get, option_to_list, Option, None}
use Rattle.plan_search.specs.Game.{Game, found_at}
use Rattle.plan_search.specs.Leg.{Leg as TheLeg}
use Rattle.plan_search.specs.Run.{run_to_cut, run_to_step, state_in}
use Rattle.search_core.specs.declared.event.Event.{Event}
use Rattle.search_core.specs.declared.event.Event.TheVariants.{Post, Cut, Start, Judge}
use Rattle.search_core.specs.declared.event.Reply.{Reply}
use Rattle.search_core.specs.declared.event.Reply.TheVariants.{Chosen}
use Rattle.search_core.specs.Desk.{Terms, desk, fault_of, reply_to}

-- each event is taken where those before it left the core
abbrev pub IsTaken : Terms → List Event → Type 0
IsTaken t [] = Unit {0}
IsTaken t (event ∷ older) = IsTaken t older × (fault_of t (desk t older) event ≡ None)

-- the winner that a reply tells
abbrev pub chosen_by : Reply → List (Option ℕ)
chosen_by (Chosen winner) = winner ∷ []
chosen_by reply = []

-- the winners that were chosen, in order
abbrev pub choices : Terms → List Event → List (Option ℕ)
choices t [] = []
choices t (event ∷ older) = choices t older ++ chosen_by (reply_to t (desk t older) event)

-- the number of Posts
abbrev pub post_count : List Event → ℕ
post_count [] = 0
post_count (Post seat number ∷ older) = post_count older + 1
post_count (event ∷ older) = post_count older

module _ {Line : Type 0} where
  -- the lines posted since the newest Cut, in order, where these lines were posted in all
  abbrev pub pending : List Line → List Event → List Line
  pending lines [] = []
  pending lines (Post seat number ∷ older) =
      pending lines older ++ option_to_list (slice_get lines (post_count older))
  pending lines (Cut boundary ∷ older) = []
  pending lines (event ∷ older) = pending lines older

  -- the lines that each Cut took
  abbrev pub cuts_in : List Line → List Event → List (List Line)
  cuts_in lines [] = []
  cuts_in lines (Cut boundary ∷ older) = pending lines older ∷ cuts_in lines older
  cuts_in lines (event ∷ older) = cuts_in lines older

module _ {State Line : Type 0} where
  -- the state that the one-thread search stands at after the newest Cut
  abbrev pub state_at : Game State Line → Terms → List Line → List Event → State
  state_at g t lines events = state_in g (run_to_cut g t.settings (cuts_in lines events))

  -- an event tells what holds in the one-thread search: there is a line for each Post, a leg starts with the score of its placed
  -- state, and what was found of a candidate is so
  abbrev pub IsTrueNext : Game State Line → Terms → List Line → List Event → Event → Type 0
  IsTrueNext g t lines older (Post seat number) = post_count older < length lines
  IsTrueNext g t lines older (Start score) = score ≡ g.score (state_at g t lines older)
  IsTrueNext g t lines older (Judge worker step number found) =
      found ≡ found_at g step (state_at g t lines older) number
  IsTrueNext g t lines older event = Unit {0}

  -- all events tell what holds
  abbrev pub AreTrue : Game State Line → Terms → List Line → List Event → Type 0
  AreTrue g t lines [] = Unit {0}
  AreTrue g t lines (event ∷ older) = AreTrue g t lines older × IsTrueNext g t lines older event

  -- the one-thread search as far as the events go: with the step after the newest Cut, once it is chosen
  abbrev pub legs_by : Game State Line → Terms → List Line → List Event → List (TheLeg State Line)
  legs_by g t lines events =
      if length (choices t events) == length (cuts_in lines events)
      then run_to_step g t.settings (cuts_in lines events)
      else run_to_cut g t.settings (cuts_in lines events)
