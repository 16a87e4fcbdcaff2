-- Laws of the core as a machine: what holds of every list of events.
use Rattle.std.specs.Prelude.{◌≡◌, ◌≤◌, ◌+◌, ℕ, List, length, Option}
use Rattle.plan_settings.specs.Settings.{IsInRange}
use Rattle.acceptors.specs.History.{History}
use Rattle.plan_search.specs.declared.found.Found.{Found}
use Rattle.plan_search.specs.Game.{Game}
use Rattle.plan_search.specs.Run.{winners}
use Rattle.search_core.specs.declared.event.Event.{Event}
use Rattle.search_core.specs.declared.event.Event.TheVariants.{Choose}
use Rattle.search_core.specs.ByNumber.{AreSame}
use Rattle.search_core.specs.Desk.{Desk, Terms, answer, desk}
use Rattle.search_core.specs.EventsOf.{events_of, events_to_cut, posted}
use Rattle.search_core.specs.OneThread.{BeginsStep, EndsStep, step_events, won_history}
use Rattle.search_core.specs.Truth.{AreTrue, IsTaken, choices, cuts_in, legs_by}

-- the settings are in range, and at least one candidate is asked at once
pub record AreInRange (t : Terms) : Type 0 where
  pub settings : IsInRange t.settings
  pub buffer : 1 ≤ t.buffer

-- where a list of events is taken and true, each choice is the winner of its step in the one-thread search
abbrev pub ChoosesAsInOneThread : Type 0 → Type 0 → Type 0
ChoosesAsInOneThread State Line = (g : Game State Line) (t : Terms) (lines : List Line) (events : List Event)
    → IsTaken t events → AreTrue g t lines events → choices t events ≡ winners (legs_by g t lines events)

-- who claimed the numbers, and in which order they were claimed and judged, makes no difference to a choice
abbrev pub OrderMakesNoDifference : Type 0
OrderMakesNoDifference =
    (t : Terms) (d : Desk) (claims : ℕ → Option ℕ) (verdicts : ℕ → Option (Option Found)) (step : ℕ)
    → AreSame d.verdicts verdicts
    → answer t d (Choose step) ≡ answer t (record d { claims = claims; verdicts = verdicts }) (Choose step)

-- the events of a step are taken, and it ends with its winner
pub record EndsWithWinner (t : Terms) (k : ℕ) (h : History) (found : ℕ → Option Found) (before : List Event)
    : Type 0 where
  pub taken : IsTaken t (step_events t k found before)
  pub ends : EndsStep t (desk t (step_events t k found before)) k (desk t before).posts (won_history t h found)

-- where a step begins, one thread's events end it with its winner, whatever is found
abbrev pub StepsEndWithWinner : Type 0
StepsEndWithWinner = (t : Terms) (k : ℕ) (h : History) (found : ℕ → Option Found) (before : List Event)
    → AreInRange t → IsTaken t before → BeginsStep t (desk t before) k h → EndsWithWinner t k h found before

module _ {State Line : Type 0} where
  -- some events are taken and true where all lines of these cuts are posted, and their Cuts take those lines
  pub record AreOfRun (g : Game State Line) (t : Terms) (cuts : List (List Line)) (events : List Event) : Type 0 where
    pub taken : IsTaken t events
    pub holds : AreTrue g t (posted cuts) events
    pub took : cuts_in (posted cuts) events ≡ cuts

-- the events that one thread makes of a run are so, up to its newest cut
abbrev pub EventsToCutAreOfRun : Type 0 → Type 0 → Type 0
EventsToCutAreOfRun State Line = (g : Game State Line) (t : Terms) (cuts : List (List Line))
    → AreInRange t → length cuts ≤ t.settings.steps + 1 → AreOfRun g t cuts (events_to_cut g t cuts)

-- and with the step after it
abbrev pub EventsAreOfRun : Type 0 → Type 0 → Type 0
EventsAreOfRun State Line = (g : Game State Line) (t : Terms) (cuts : List (List Line))
    → AreInRange t → length cuts ≤ t.settings.steps + 1 → AreOfRun g t cuts (events_of g t cuts)
