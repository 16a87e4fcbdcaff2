use Rattle.std.proofs.Common.{arith}
use Rattle.stream_group.proofs.Counting.{all_changes}
use Rattle.stream_group.proofs.count.count_after.Goals as goal

pub returns : goal.returns
returns c = λ stay is few.
    let all = all_changes c.args.changes.now in
    let gone = c.gone_count-gone.ensures.count in
    let left = c.saturating_sub.ensures in
    let whole = c.saturating_add.ensures in
    omega (arith, is, few, all, gone, left, whole)
