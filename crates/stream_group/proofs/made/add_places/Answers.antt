use Rattle.std.proofs.Common.{◌∙◌, ℕ, List, ap, map, refl, subst, sym, take}
use Rattle.std.specs.FinMap as finmap
use Rattle.std.specs.List.{filter_map}
use Rattle.std.proofs.lemmas.List.{take_all}
use Rattle.stream_group.specs.declared.tally.Tally.{Tally}
use Rattle.stream_group.specs.Collected.{MakesMore, counts_different}
use Rattle.stream_group.specs.Keyed.{number_in, numbers_staying}
use Rattle.stream_group.specs.Tally.{TalliesMore}
use Rattle.stream_group.proofs.Listed.{numbers_more, staying_more}
use Rattle.stream_group.proofs.Tallied.{makes_on, tallied_each}
use Rattle.stream_group.proofs.made.add_places.Goals as goal

pub loop-place-preserved : goal.loop-place-preserved
loop-place-preserved c =
    let collect = c.args.before.now.collect in
    let width = c.args.width in
    let run = c.args.run.now in
    let at = finmap.get c.args.members.now.rows.now in
    let i = c.loop-place.place-index in
    let there = filter_map at (take i c.args.places.now) in
    let old_before = c.args.before.now.made in
    let old_after = c.args.after.now.made in
    let was = c.loop-place.made in
    let made = c.add_place-made.result in
    record {
      before = subst (MakesMore collect old_before made.before) (sym (numbers_more width at c.args.places.now i c.loop-place-test.true))
          (makes_on collect old_before was.before made.before (map (number_in width) there) _ c.loop-place.invariant.before c.add_place-made.ensures.before);
      after = subst (MakesMore collect old_after made.after) (sym (staying_more width run at c.args.places.now i c.loop-place-test.true))
          (makes_on collect old_after was.after made.after (numbers_staying width run there) _ c.loop-place.invariant.after c.add_place-made.ensures.after);
    }

pub returns-clause-before : goal.returns-clause-before
returns-clause-before c =
    let at = finmap.get c.args.members.now.rows.now in
    let old = c.args.before.now in
    let new : Tally = record { collect = old.collect; made = c.loop-place.made.before; noted = old.noted } in
    subst (TalliesMore old new) (ap (λ (ps : List ℕ). map (number_in c.args.width) (filter_map at ps)) (take_all c.loop-place.place-index c.args.places.now c.loop-place-test.false))
    (tallied_each old new _ refl c.requires.each c.loop-place.invariant.before)

pub returns-clause-after : goal.returns-clause-after
returns-clause-after c =
    let at = finmap.get c.args.members.now.rows.now in
    let old = c.args.after.now in
    let new : Tally = record { collect = old.collect; made = c.loop-place.made.after; noted = old.noted } in
    let there = filter_map at (take c.loop-place.place-index c.args.places.now) in
    let numbers = numbers_staying c.args.width c.args.run.now there in
    subst (TalliesMore old new) (ap (λ (ps : List ℕ). numbers_staying c.args.width c.args.run.now (filter_map at ps)) (take_all c.loop-place.place-index c.args.places.now c.loop-place-test.false))
    (tallied_each old new numbers refl (ap counts_different c.requires.same ∙ c.requires.each)
    (subst (λ collect. MakesMore collect old.made new.made numbers) (sym c.requires.same) c.loop-place.invariant.after))
