use Rattle.std.proofs.Common.{ap, length, sym, ◌∙◌}
use Rattle.stream_heads.proofs.HeadLaws.{one_part}
use Rattle.stream_heads.proofs.heads.Heads.head.Goals as goal

pub returns-in-Some-clause-one : goal.returns-in-Some-clause-one
returns-in-Some-clause-one c =
    ap length c.row.ensures ∙ one_part c.self.inside.rows.now c.self.invariant.now c.args.place c.in-Some.head.now (sym c.in-Some.ensures)
