use Rattle.std.proofs.Common.{◌≡◌, map, take}
use Rattle.std.specs.FinMap as finmap
use Rattle.std.specs.List.{filter_map}
use Rattle.stream_group.specs.Keyed.{number_in, numbers_staying}
use Rattle.stream_group.specs.Tally.{TalliesMore}
use Rattle.stream_group.proofs.turn.tally_places.Given as goal

-- the numbers of the rows at the places so far were taken, and those of the rows that stay
abbrev pub invariant-loop-place : goal.invariant-loop-place
invariant-loop-place l =
    let there = filter_map (finmap.get l.members.rows.now) (take l.place-index l.places) in
    record {
      before : TalliesMore l.initial.before l.before (map (number_in l.width) there);
      after : TalliesMore l.initial.after l.after (numbers_staying l.width l.run there);
      collect_before : l.before.collect ≡ l.initial.before.collect;
      collect_after : l.after.collect ≡ l.initial.after.collect;
    }
