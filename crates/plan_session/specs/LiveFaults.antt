-- Why a live run ends early.
use Rattle.std.specs.Prelude.{ℕ, Result, Ok, Err}
use Rattle.plan_changes.specs.declared.line.StopCause.{StopCause}
use Rattle.plan_changes.specs.declared.line.StopCause.TheVariants as cause
use Rattle.plan_session.specs.declared.fault.PrintFault.{PrintFault}
use Rattle.plan_session.specs.declared.fault.PrintFault.TheVariants as printing
use Rattle.plan_session.specs.declared.live_fault.LiveFault.{LiveFault}
use Rattle.plan_session.specs.declared.live_fault.LiveFault.TheVariants.{Memory, Write, Stopped}
use Rattle.plan_session.specs.declared.status.Status.{Status}
use Rattle.plan_session.specs.declared.status.Status.TheVariants as status

-- what a fault of printing is to a live run
abbrev pub live_fault : PrintFault → LiveFault
live_fault printing.Memory = Memory
live_fault printing.Write = Write

-- the status of a run whose feed ended early
abbrev pub status_of_stop : StopCause → Status
status_of_stop cause.Memory = status.Memory
status_of_stop cause.ReadFault = status.Feed
status_of_stop cause.Overrun = status.FeedTooLong

-- the status of a live run that ended early
abbrev pub status_of_fault : LiveFault → Status
status_of_fault Memory = status.Memory
status_of_fault Write = status.Write
status_of_fault (Stopped cause) = status_of_stop cause

-- the status of a live run that ended so
abbrev pub status_of_end : Result Unit LiveFault → Status
status_of_end (Ok _) = status.Ok
status_of_end (Err fault) = status_of_fault fault

-- how often the searching half shuts the inbox where it ends so: once, but not where the feed stopped by itself
abbrev pub shuts_for : LiveFault → ℕ
shuts_for Memory = 1
shuts_for Write = 1
shuts_for (Stopped cause) = 0
