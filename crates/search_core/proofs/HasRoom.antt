-- Room for an event.
use Rattle.std.proofs.Common.{◌+◌, ◌<◌, ◌^◌}
use Rattle.search_core.specs.declared.event.Event.{Event}
use Rattle.search_core.specs.declared.event.Event.TheVariants.{Post}
use Rattle.search_core.specs.declared.machine.Core.{Core}
use Rattle.search_core.specs.Keeps.{HasRoomFor}

-- where one Post more may be taken, any event may be
pub has_room : (core : Core) (event : Event) → core.posts + 1 < 2 ^ 32 → HasRoomFor core event
has_room core (Post seat number) room = room
has_room core event room = tt
