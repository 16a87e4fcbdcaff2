-- Cores of which it is known how many posts they were told.
use Rattle.std.specs.Prelude.{◌≤◌, ℕ, List}
use Rattle.search_core.specs.declared.event.Event.{Event}
use Rattle.search_core.specs.declared.machine.Core.{Core}
use Rattle.search_core.specs.Desk.{Terms, desk}
use Rattle.search_core.specs.Keeps.{StandsFor}

-- a core stands for some events, with at most so many posts since the last cut
pub record HasFewPosts (core : Core) (most : ℕ) : Type 0 where
  pub terms : Terms
  pub events : List Event
  pub stands : StandsFor terms core events
  pub few : (desk terms events).posts ≤ most
