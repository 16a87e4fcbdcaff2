use Rattle.std.proofs.Common.{◌∙◌, ℕ, List, Option, slice_index, ap, sym, subst}
use Rattle.std.specs.Option.{option_and_then}
use Rattle.plan_moves.specs.declared.edit.Set.{Set}
use Rattle.plan_facts.specs.declared.record.Raw.{Raw}
use Rattle.move_selectors.specs.Candidates.{swap_among, swap_in}
use Rattle.move_selectors.specs.Puts.{Puts}
use Rattle.move_selectors.proofs.PoolLaws.{picked-no-class, picked-class, part-at}
use Rattle.move_selectors.proofs.swaps.swap.Goals as goal

pub returns-in_default : goal.returns-in_default
returns-in_default c =
    ap (option_and_then (λ (class : ℕ). swap_in c.args.plan.now class c.args.words.now))
    (picked-no-class c.args.plan.now c.args.pool.now (slice_index c.args.words.now 1) c.requires.pool c.in_default.ensures.place)

pub movables-movables-requires : goal.movables-movables-requires
movables-movables-requires c = part-at c.args.plan.now c.args.pool.now c.in-Some.place c.class_at.result.now c.requires.pool c.class_at.ensures

pub returns : goal.returns
returns c =
    let plan = c.args.plan.now in
    let words = c.args.words.now in
    let made = λ (class : ℕ). swap_in plan class words in
    let picked_is = picked-class plan c.args.pool.now (slice_index words 1) c.in-Some.place c.class_at.result.now c.requires.pool c.in-Some.ensures.place c.class_at.ensures in
    subst (λ (due : Option (List Set)). Puts c.swap_among.result due c.swap_among.new.into)
    (sym (ap (option_and_then made) picked_is
    ∙ ap made (sym c.movables-movables.ensures.class)
    ∙ ap (λ (entities : List Raw). swap_among c.movables-movables.result.class entities words) (sym c.movables-movables.ensures.of.entities)))
    c.swap_among.ensures
