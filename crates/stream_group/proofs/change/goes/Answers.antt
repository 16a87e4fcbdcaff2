use Rattle.std.proofs.Common.{sym}
use Rattle.stream_group.proofs.Listed.{comes_alone, gone_at, not_gone_more, other_alone}
use Rattle.stream_group.proofs.change.goes.Goals as goal
use Rattle.stream_group.proofs.change.goes.Goals.{else-not-change-via-then-not-change+else-same, else-not-change-via-else-not-change}

pub returns-then-same : goal.returns-then-same
returns-then-same c = sym (gone_at c.args.changes.now c.loop-change.change-index c.change-item.result c.args.member.now c.loop-change-test.true c.change-item.is c.if-not-change.true (c.same.ensures.0 c.if-same.true))

pub loop-change-preserved : goal.loop-change-preserved
loop-change-preserved c =
    not_gone_more c.args.changes.now c.loop-change.change-index c.change-item.result c.args.member.now c.loop-change-test.true c.change-item.is c.loop-change.invariant
    (elim c.else-not-change.branch [
      | else-not-change-via-then-not-change+else-same w ↦ other_alone c.change-item.result c.args.member.now (λ is. let yes = w.same.ensures.1 is in let no = w.if-same.false in cc)
      | else-not-change-via-else-not-change w ↦ comes_alone c.change-item.result c.args.member.now w.if-not-change.false
    ])
