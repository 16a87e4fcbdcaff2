use Rattle.std.proofs.Common.{map, take}
use Rattle.std.specs.FinMap as finmap
use Rattle.std.specs.List.{filter_map}
use Rattle.stream_group.specs.Collected.{MakesMore}
use Rattle.stream_group.specs.Keyed.{number_in, numbers_staying}
use Rattle.stream_group.proofs.made.add_places.Given as goal

-- it is in hand what is made of the rows at the places so far besides, and of those of them that stay
abbrev pub invariant-loop-place : goal.invariant-loop-place
invariant-loop-place l =
    let there = filter_map (finmap.get l.members.rows.now) (take l.place-index l.places) in
    record {
      before : MakesMore l.collect l.before.made l.made.before (map (number_in l.width) there);
      after : MakesMore l.collect l.after.made l.made.after (numbers_staying l.width l.run there);
    }
