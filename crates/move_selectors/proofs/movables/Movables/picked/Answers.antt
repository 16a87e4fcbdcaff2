use Rattle.std.proofs.Common.{◌∙◌, Some, length, option_copied, ap, sym, arith}
use Rattle.plan_facts.specs.declared.record.Raw.{Raw}
use Rattle.move_selectors.specs.Links.{no_record}
use Rattle.move_selectors.specs.Movables.{entities_in}
use Rattle.move_selectors.proofs.Placed.{length-at_places}
use Rattle.move_selectors.proofs.Pillared.{picked-none, picked-at}
use Rattle.move_selectors.proofs.movables.Movables.picked.Goals as goal

pub returns-in_err-at : goal.returns-in_err-at
returns-in_err-at c =
    let m = c.args.self.now in
    ap (λ found. option_copied found) c.from_residual.ensures
    ∙ sym (picked-none c.args.word (length m.places.now) (entities_in m) (length-at_places m.facts.now m.places.now) c.in_err-at.ensures.place)

pub returns : goal.returns
returns c =
    let m = c.args.self.now in
    let long = length-at_places m.facts.now m.places.now in
    let below = c.in_ok-at.ensures.below in
    ap (λ (raw : Raw). Some raw) c.entity.ensures
    ∙ sym (picked-at c.args.word (length m.places.now) c.in_ok-at.at (entities_in m) no_record long c.in_ok-at.ensures.place (omega arith))
