use Rattle.std.proofs.Common.{◌∙◌, ap, arith, zip, get_or, false, None, count_by}
use Rattle.std.proofs.lemmas.List.{take_all}
use Rattle.std.proofs.lemmas.Slice.Zip.{length-zip}
use Rattle.plan_facts.specs.Plan.{is_missing}
use Rattle.plan_facts.proofs.Sound.{missing_more, missing_le}
use Rattle.plan_facts.proofs.table.count_missing.Goals as goal

pub loop-var-preserved : goal.loop-var-preserved
loop-var-preserved c =
    let more = missing_more c.args.nullables.now c.args.values.now c.loop-var.var (omega arith) (omega arith) in
    let one = missing_le (get_or c.args.nullables.now c.loop-var.var false, get_or c.args.values.now c.loop-var.var None) in
    record { counted = omega arith; few = omega arith }

pub returns : goal.returns
returns c =
    let long = length-zip c.args.nullables.now c.args.values.now in
    c.loop-var.invariant.counted ∙ ap (count_by is_missing) (take_all c.loop-var.var (zip c.args.nullables.now c.args.values.now) (omega arith))
