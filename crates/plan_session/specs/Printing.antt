-- What a call that prints a text leaves of it.
use Rattle.std.specs.Prelude.{ℕ, List, Result, OnErr, OnOk, IsErrOf}
use Rattle.plan_ports.specs.declared.fault.PortFault.{PortFault}
use Rattle.plan_ports.specs.declared.fault.PortFault.TheVariants as port
use Rattle.plan_ports.specs.Outside.{LaterSink, SinkFails, SinkState, Wrote, WroteFront}
use Rattle.plan_session.specs.declared.fault.PrintFault.{PrintFault}
use Rattle.plan_session.specs.declared.fault.PrintFault.TheVariants.{Memory, Write}

-- what a fault of a sink is to a text that is printed
abbrev pub print_fault : PortFault → PrintFault
print_fault port.Memory = Memory
print_fault port.Failed = Write

-- the text was written whole, or else a front of it, and the sink failed unless memory was wanting
pub record Prints {A : Type 0} (result : Result A PrintFault) (text : List ℕ) (old new : SinkState) : Type 0 where
  pub whole : OnOk result (Wrote text old new)
  pub front : OnErr result (WroteFront text old new)
  pub failed : IsErrOf result Write → SinkFails old new
  pub later : LaterSink old new
