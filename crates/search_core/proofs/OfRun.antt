-- The events that one thread makes of a run are events of it.
use Rattle.std.proofs.Common.{◌≤◌, ◌+◌, List, [], ◌++◌, length, subst, append-nil}
use Rattle.plan_search.specs.Game.{Game}
use Rattle.search_core.specs.declared.event.Event.{Event}
use Rattle.search_core.specs.Desk.{Terms}
use Rattle.search_core.specs.EventsOf.{events_of, events_to_cut, posted}
use Rattle.search_core.specs.Laws.{AreInRange, AreOfRun}
use Rattle.search_core.specs.Truth.{IsTaken}
use Rattle.search_core.proofs.Taken.{events_of-taken, to_cut-taken}
use Rattle.search_core.proofs.Told.{IsTold, events_of-told, to_cut-told}

module _ {State Line : Type 0} (g : Game State Line) (t : Terms) (cuts : List (List Line)) where
  told-are : (events : List Event) → IsTaken t events → IsTold g t (posted cuts ++ []) cuts events → AreOfRun g t cuts events
  told-are events taken told =
      let told : IsTold g t (posted cuts) cuts events = subst (λ (all : List Line). IsTold g t all cuts events) (append-nil (posted cuts)) told in
      record { taken = taken; holds = told.holds; took = told.taken }

  pub to_cut-are : AreInRange t → length cuts ≤ t.settings.steps + 1 → AreOfRun g t cuts (events_to_cut g t cuts)
  to_cut-are range few =
      told-are (events_to_cut g t cuts) (to_cut-taken g t cuts range.buffer range.settings.select_limit.least few) (to_cut-told g t cuts [])

  pub events_of-are : AreInRange t → length cuts ≤ t.settings.steps + 1 → AreOfRun g t cuts (events_of g t cuts)
  events_of-are range few =
      told-are (events_of g t cuts) (events_of-taken g t cuts range.buffer range.settings.select_limit.least few).taken (events_of-told g t cuts [])
