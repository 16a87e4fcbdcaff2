use Rattle.std.proofs.Common.{pos, arith}
use Rattle.std.proofs.lemmas.Int.{ints, to_z-of_z}
use Rattle.std.proofs.lemmas.List.Sums.{fold_more}
use Rattle.plan_recalc.proofs.collect.sum_of.Goals as goal

pub loop-number-preserved : goal.loop-number-preserved
loop-number-preserved c =
    let key = c.requires.keys c.loop-number.number-index (pos 0) c.loop-number-test.true in
    record { sum = grind (arith, ints, to_z-of_z, fold_more); low = omega (arith, ints); high = omega (arith, ints) }
