use Rattle.std.proofs.Common.{◌-◌, ◌≤◌, length, take}
use Rattle.std.specs.HashMap.{spare}
use Rattle.acceptors.specs.Recent.{AreNoted}
use Rattle.acceptors.proofs.recent.LastSteps.note.Given as goal

-- the entities so far are noted, and there is room for the rest
abbrev pub invariant-loop-touch : goal.invariant-loop-touch
invariant-loop-touch l = record {
  room : length l.touched - l.touch-index ≤ spare l.self-inside.steps;
  noted : AreNoted l.initial.self-inside.steps.entries (take l.touch-index l.touched) l.step l.self-inside.steps.entries;
}
