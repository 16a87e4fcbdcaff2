use Rattle.std.proofs.Common.{◌∙◌, ◌||◌, sym, arith}
use Rattle.indictments.proofs.PartLaws.{found_more}
use Rattle.indictments.proofs.tallies.is_before.Goals as goal

pub loop-place-preserved : goal.loop-place-preserved
loop-place-preserved c =
    let more = found_more c.args.row.now c.loop-place.place c.args.class c.args.id (omega arith) in
    (λ i. c.loop-place.invariant i || c.is_fact_at-found.ensures i) ∙ sym more
