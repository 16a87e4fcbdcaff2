use Rattle.std.proofs.Common.{◌≤◌, ◌-◌, length, take}
use Rattle.plan_ports.specs.Outside.{LaterSink, Wrote}
use Rattle.plan_ports.proofs.stream.put_all.Given as goal

abbrev pub invariant-put : goal.invariant-put
invariant-put g l = record {
  within : l.done ≤ length l.text;
  wrote : Wrote (take l.done l.text) (g.K.Sink.state l.fn.sink) (g.K.Sink.state l.sink);
  later : LaterSink (g.K.Sink.state l.fn.sink) (g.K.Sink.state l.sink);
}

abbrev pub decreases-put : goal.decreases-put
decreases-put g l = length l.text - l.done
