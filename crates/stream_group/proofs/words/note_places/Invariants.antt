use Rattle.std.proofs.Common.{map, take}
use Rattle.std.specs.FinMap as finmap
use Rattle.std.specs.List.{filter_map}
use Rattle.stream_group.specs.Keyed.{number_in, numbers_staying}
use Rattle.stream_group.specs.Words.{WordTakes}
use Rattle.stream_group.proofs.words.note_places.Given as goal

-- the words took the numbers of the rows at the places so far, and of those of them that stay
abbrev pub invariant-loop-place : goal.invariant-loop-place
invariant-loop-place l =
    let there = filter_map (finmap.get l.members.rows.now) (take l.place-index l.places) in
    record {
      before : WordTakes l.fn.words.before l.so_far.before (map (number_in l.width) there);
      after : WordTakes l.fn.words.after l.so_far.after (numbers_staying l.width l.run there);
    }
