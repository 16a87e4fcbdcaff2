use Rattle.std.proofs.Common.{ℕ, List, ap, map, subst, sym, take}
use Rattle.std.specs.FinMap as finmap
use Rattle.std.specs.List.{filter_map}
use Rattle.std.proofs.lemmas.List.{take_all}
use Rattle.stream_group.specs.Keyed.{number_in, numbers_staying}
use Rattle.stream_group.specs.Words.{WordTakes}
use Rattle.stream_group.proofs.Listed.{numbers_more, staying_more}
use Rattle.stream_group.proofs.Takes.{takes_on}
use Rattle.stream_group.proofs.words.note_places.Goals as goal

pub loop-place-preserved : goal.loop-place-preserved
loop-place-preserved c =
    let width = c.args.width in
    let run = c.args.run.now in
    let at = finmap.get c.args.members.now.rows.now in
    let i = c.loop-place.place-index in
    let there = filter_map at (take i c.args.places.now) in
    let old = c.args.words in
    let was = c.loop-place.so_far in
    let new = c.in_ok-so_far.so_far in
    record {
      before = subst (WordTakes old.before new.before) (sym (numbers_more width at c.args.places.now i c.loop-place-test.true))
          (takes_on old.before was.before new.before (map (number_in width) there) _ c.loop-place.invariant.before c.in_ok-so_far.ensures.before);
      after = subst (WordTakes old.after new.after) (sym (staying_more width run at c.args.places.now i c.loop-place-test.true))
          (takes_on old.after was.after new.after (numbers_staying width run there) _ c.loop-place.invariant.after c.in_ok-so_far.ensures.after);
    }

pub returns-clause-before : goal.returns-clause-before
returns-clause-before c =
    let at = finmap.get c.args.members.now.rows.now in
    subst (WordTakes c.args.words.before c.loop-place.so_far.before) (ap (λ (ps : List ℕ). map (number_in c.args.width) (filter_map at ps)) (take_all c.loop-place.place-index c.args.places.now c.loop-place-test.false)) c.loop-place.invariant.before

pub returns-clause-after : goal.returns-clause-after
returns-clause-after c =
    let at = finmap.get c.args.members.now.rows.now in
    subst (WordTakes c.args.words.after c.loop-place.so_far.after) (ap (λ (ps : List ℕ). numbers_staying c.args.width c.args.run.now (filter_map at ps)) (take_all c.loop-place.place-index c.args.places.now c.loop-place-test.false)) c.loop-place.invariant.after
