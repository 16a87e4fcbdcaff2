use Rattle.std.proofs.Common.{◌≡◌, take}
use Rattle.stream_group.specs.Keyed.{numbers_coming}
use Rattle.stream_group.specs.Tally.{TalliesMore}
use Rattle.stream_group.proofs.turn.tally_come.Given as goal

-- the numbers of those so far that come were taken
abbrev pub invariant-loop-change : goal.invariant-loop-change
invariant-loop-change l = record {
  tallies : TalliesMore l.initial.tally l.tally (numbers_coming l.width (take l.change-index l.run));
  collect : l.tally.collect ≡ l.initial.tally.collect;
}
