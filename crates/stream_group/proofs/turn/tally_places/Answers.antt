use Rattle.std.proofs.Common.{◌∙◌, ℕ, List, ap, map, sym, subst, take}
use Rattle.std.specs.FinMap as finmap
use Rattle.std.specs.List.{filter_map}
use Rattle.std.proofs.lemmas.List.{take_all}
use Rattle.stream_group.specs.Keyed.{number_in, numbers_staying}
use Rattle.stream_group.specs.Tally.{TalliesMore}
use Rattle.stream_group.proofs.Listed.{numbers_more, staying_more}
use Rattle.stream_group.proofs.Tallied.{tallies_on}
use Rattle.stream_group.proofs.turn.tally_places.Goals as goal

pub loop-place-preserved : goal.loop-place-preserved
loop-place-preserved c =
    let at = finmap.get c.args.members.now.rows.now in
    let places = c.args.places.now in
    let i = c.loop-place.place-index in
    let there = filter_map at (take i places) in
    let invariant = c.loop-place.invariant in
    let more = numbers_more c.args.width at places i c.loop-place-test.true in
    let more_stay = staying_more c.args.width c.args.run.now at places i c.loop-place-test.true in
    record {
      before = subst (TalliesMore c.args.before.now c.tally_place.new.before) (sym more) (tallies_on c.args.before.now c.loop-place.before c.tally_place.new.before (map (number_in c.args.width) there) _ invariant.before c.in_ok-tally_place.ensures.before);
      after = subst (TalliesMore c.args.after.now c.tally_place.new.after) (sym more_stay) (tallies_on c.args.after.now c.loop-place.after c.tally_place.new.after (numbers_staying c.args.width c.args.run.now there) _ invariant.after c.in_ok-tally_place.ensures.after);
      collect_before = c.tally_place.ensures.collect_before ∙ invariant.collect_before;
      collect_after = c.tally_place.ensures.collect_after ∙ invariant.collect_after;
    }

pub returns-clause-before : goal.returns-clause-before
returns-clause-before c =
    let at = finmap.get c.args.members.now.rows.now in
    subst (TalliesMore c.args.before.now c.loop-place.before)
    (ap (λ (ps : List ℕ). map (number_in c.args.width) (filter_map at ps)) (take_all c.loop-place.place-index c.args.places.now c.loop-place-test.false)) c.loop-place.invariant.before

pub returns-clause-after : goal.returns-clause-after
returns-clause-after c =
    let at = finmap.get c.args.members.now.rows.now in
    subst (TalliesMore c.args.after.now c.loop-place.after)
    (ap (λ (ps : List ℕ). numbers_staying c.args.width c.args.run.now (filter_map at ps)) (take_all c.loop-place.place-index c.args.places.now c.loop-place-test.false)) c.loop-place.invariant.after
