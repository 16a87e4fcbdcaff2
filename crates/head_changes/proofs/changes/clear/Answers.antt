use Rattle.std.proofs.Common.{◌<◌, length, arith}
use Rattle.std.proofs.lemmas.List.Elements.{AllWithin-more_set}
use Rattle.head_changes.specs.Changes.{IsNoChange}
use Rattle.head_changes.proofs.changes.clear.Goals as goal

pub loop-change-preserved : goal.loop-change-preserved
loop-change-preserved c =
    let within : c.loop-change.change-index < length c.loop-change.changes = omega arith in
    AllWithin-more_set c.loop-change.changes c.loop-change.change-index _ within IsNoChange c.loop-change.invariant c.clear.ensures

pub returns-clause-none : goal.returns-clause-none
returns-clause-none c = λ k d within. c.loop-change.invariant k d (omega arith) (omega arith)
