use Rattle.std.proofs.Common.{◌∙◌, option_map, ap, sym}
use Rattle.plan_draws.specs.Picks.{picked}
use Rattle.move_selectors.specs.Links.{IsHead, values_at}
use Rattle.move_selectors.specs.Movables.{entities_in}
use Rattle.move_selectors.proofs.Pillared.{picked-map, picked-holds}
use Rattle.move_selectors.proofs.pillars.picked_pillar.Goals as goal

pub returns-in_err-head-clause-pillar : goal.returns-in_err-head-clause-pillar
returns-in_err-head-clause-pillar c =
    let values = values_at (entities_in c.args.movables.now) in
    let heads = c.args.movables.now.links.now.heads.items in
    ap (option_map values) (c.from_residual.ensures ∙ c.in_err-head.ensures ∙ ap (picked c.args.word) c.deref.ensures.value)
    ∙ sym (picked-map values c.args.word heads)
    ∙ ap (picked c.args.word) c.requires.links.heads

pub returns-clause-pillar : goal.returns-clause-pillar
returns-clause-pillar c =
    let values = values_at (entities_in c.args.movables.now) in
    let heads = c.args.movables.now.links.now.heads.items in
    ap (option_map values) (c.in_ok-head.ensures ∙ ap (picked c.args.word) c.deref.ensures.value)
    ∙ sym (picked-map values c.args.word heads)
    ∙ ap (picked c.args.word) c.requires.links.heads

pub returns-clause-head : goal.returns-clause-head
returns-clause-head c =
    let heads = c.args.movables.now.links.now.heads.items in
    picked-holds (IsHead c.args.movables.now.nullables.now (entities_in c.args.movables.now)) heads c.args.word c.in_ok-head.head.now c.requires.links.firsts
    (sym (c.in_ok-head.ensures ∙ ap (picked c.args.word) c.deref.ensures.value))
