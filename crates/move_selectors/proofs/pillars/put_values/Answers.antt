use Rattle.std.proofs.Common.{◌∙◌, ap, fold, arith}
use Rattle.std.proofs.lemmas.List.{take_all}
use Rattle.plan_moves.specs.Edits.{with_new, sets_of}
use Rattle.move_selectors.proofs.SetLists.{length-sets_of}
use Rattle.move_selectors.proofs.pillars.put_values.Goals as goal

pub returns : goal.returns
returns c =
    let long = length-sets_of c.args.class c.args.id c.args.values.now in
    c.loop-var.invariant ∙ ap (fold with_new c.args.into.now) (take_all c.loop-var.var (sets_of c.args.class c.args.id c.args.values.now) (omega arith))
