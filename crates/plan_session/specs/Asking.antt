-- A step that a team judges, batch by batch.
use Rattle.std.specs.Prelude.{◌≡◌, ◌+◌, ℕ, List, Option, length, map}
use Rattle.std.specs.List.{range_with_len}
use Rattle.acceptors.specs.History.{History}
use Rattle.plan_search.specs.declared.found.Found.{Found}
use Rattle.search_core.specs.declared.event.Event.{Event}
use Rattle.search_core.specs.declared.machine.Core.{Core}
use Rattle.search_core.specs.Desk.{Terms, desk}
use Rattle.search_core.specs.Keeps.{StandsFor}
use Rattle.search_core.specs.OneThread.{InStep}

-- a core stands for events after which a step is in course and so many numbers are asked from the first one on, where one thread
-- judged all numbers before that
pub record AsksAt (core : Core) (step : ℕ) (found : ℕ → Option Found) (first count : ℕ) : Type 0 where
  pub terms : Terms
  pub events : List Event
  pub history : History
  pub since : ℕ
  pub stands : StandsFor terms core events
  pub inside : InStep (desk terms events) step history found (first + count) since first

-- these are what is found of the numbers that are asked from the first one on, in order
pub record HasAsked (core : Core) (step first : ℕ) (all : List (Option Found)) : Type 0 where
  pub found : ℕ → Option Found
  pub at : AsksAt core step found first (length all)
  pub all_is : all ≡ map found (range_with_len first (length all))
