use Rattle.std.proofs.Common.{◌∙◌, ℕ, List, Option, slice_index, ap, sym, subst}
use Rattle.std.specs.Option.{option_and_then}
use Rattle.plan_draws.specs.Picks.{picked_place}
use Rattle.plan_moves.specs.declared.edit.Set.{Set}
use Rattle.move_selectors.specs.Candidates.{pillar_change_in}
use Rattle.move_selectors.specs.Puts.{Puts}
use Rattle.move_selectors.proofs.PoolLaws.{picked-no-class, picked-class, part-at}
use Rattle.move_selectors.proofs.changes.pillar_change.Goals as goal

pub returns-in_default-clause-edit : goal.returns-in_default-clause-edit
returns-in_default-clause-edit c =
    ap (option_and_then (λ (class : ℕ). pillar_change_in c.args.plan.now class c.args.words.now))
    (picked-no-class c.args.plan.now c.args.pool.now (slice_index c.args.words.now 1) c.requires.pool c.in_default.ensures.place)

pub movables-movables-requires : goal.movables-movables-requires
movables-movables-requires c =
    part-at c.args.plan.now c.find_pillars.new.self c.in-Some.place c.class_at.result.now c.in_ok-find_pillars.ensures.pool c.class_at.ensures

pub returns-clause-edit : goal.returns-clause-edit
returns-clause-edit c =
    let plan = c.args.plan.now in
    let words = c.args.words.now in
    let made = λ (class : ℕ). pillar_change_in plan class words in
    let picked_is = picked-class plan c.find_pillars.new.self (slice_index words 1) c.in-Some.place c.class_at.result.now c.in_ok-find_pillars.ensures.pool
    (c.in-Some.ensures.place ∙ ap (picked_place (slice_index words 1)) (sym c.in_ok-find_pillars.ensures.count)) c.class_at.ensures in
    subst (λ (due : Option (List Set)). Puts c.pillar_change_in.result due c.pillar_change_in.new.into)
    (sym (ap (option_and_then made) picked_is ∙ ap made (sym c.movables-movables.ensures.class)))
    c.pillar_change_in.ensures
