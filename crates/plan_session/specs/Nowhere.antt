-- A sink that keeps nothing.
use Rattle.std.specs.Prelude.{false, []}
use Rattle.plan_ports.specs.Outside.{SinkState}
use Rattle.plan_session.specs.declared.nowhere.Nowhere.{Nowhere}

-- it tells nothing, and never counts a fault
abbrev pub told_nothing : Nowhere → SinkState
told_nothing _ = record { tells = false; written = []; faults = 0 }
