use Rattle.std.proofs.Common.{◌≡◌, ◌∙◌, Option, Some, List, ℕ, slice_index, ap, sym}
use Rattle.std.specs.Option.{option_and_then}
use Rattle.plan_draws.specs.Picks.{picked}
use Rattle.plan_moves.specs.declared.edit.Set.{Set}
use Rattle.move_selectors.specs.Pillars.{same_values, pillars_of}
use Rattle.move_selectors.specs.Links.{values_at}
use Rattle.move_selectors.specs.Movables.{entities_in}
use Rattle.move_selectors.specs.Candidates.{pillar_exchange_of, pillar_swap_among}
use Rattle.move_selectors.specs.declared.movables.Movables.{Movables}
use Rattle.move_selectors.proofs.Exchanging.{exchange-none, exchange-some}
use Rattle.move_selectors.proofs.swaps.pillar_swap_among.Goals as goal

-- what two pillars that were picked make
picked_two : (m : Movables) (words : List ℕ) (one other : List (Option ℕ)) → Some one ≡ picked (slice_index words 2) (pillars_of m.nullables.now (entities_in m)) → Some other ≡ picked (slice_index words 3) (pillars_of m.nullables.now (entities_in m))
    → pillar_swap_among m.class m.nullables.now (entities_in m) words ≡ pillar_exchange_of m.class (entities_in m) one other
picked_two m words one other first second =
    ap (option_and_then (λ (v : List (Option ℕ)). option_and_then (pillar_exchange_of m.class (entities_in m) v) (picked (slice_index words 3) (pillars_of m.nullables.now (entities_in m))))) (sym first)
    ∙ ap (option_and_then (pillar_exchange_of m.class (entities_in m) one)) (sym second)

pub returns-then-same_values : goal.returns-then-same_values
returns-then-same_values c =
    let m = c.args.movables.now in
    let one = values_at (entities_in m) c.in-Some.one in
    let other = values_at (entities_in m) c.in-Some-picked_pillar.other in
    picked_two m c.args.words.now one other c.in-Some.ensures.pillar c.in-Some-picked_pillar.ensures.pillar
    ∙ exchange-none m.class (entities_in m) one other
    (ap (λ (v : List (Option ℕ)). same_values v other) (sym c.values.ensures) ∙ ap (same_values c.values.result.now) (sym c.values-2.ensures) ∙ sym c.same_values.ensures ∙ c.if-same_values.true)

pub returns : goal.returns
returns c =
    let m = c.args.movables.now in
    let one = values_at (entities_in m) c.in-Some.one in
    let other = values_at (entities_in m) c.in-Some-picked_pillar.other in
    picked_two m c.args.words.now one other c.in-Some.ensures.pillar c.in-Some-picked_pillar.ensures.pillar
    ∙ exchange-some m.class (entities_in m) one other
    (ap (λ (v : List (Option ℕ)). same_values v other) (sym c.values.ensures) ∙ ap (same_values c.values.result.now) (sym c.values-2.ensures) ∙ sym c.same_values.ensures ∙ c.if-same_values.false)
    ∙ ap (λ (edit : List Set). Some edit) (sym c.in_ok-exchange_members.ensures)
