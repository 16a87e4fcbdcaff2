use Rattle.stream_heads.specs.MemberEquality.{numbers_decide}
use Rattle.stream_heads.proofs.member.MemberPlaced.same.Goals as goal

pub returns-then-same : goal.returns-then-same
returns-then-same c = numbers_decide c.args.self.now c.args.other.now c.eq.result (c.same.ensures.0 c.if-same.true) c.eq.ensures
