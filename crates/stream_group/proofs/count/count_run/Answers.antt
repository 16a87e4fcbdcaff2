use Rattle.std.proofs.Common.{◌≡◌, ◌∙◌, arith, length, sym}
use Rattle.stream_group.specs.Turns.{rows_under}
use Rattle.stream_group.proofs.count.count_run.Goals as goal

pub returns-clause-after : goal.returns-clause-after
returns-clause-after c = λ stay is numbers long few.
    let rows : length c.under-rows.result.now ≡ rows_under c.args.members.now c.args.key.now = c.under-rows.ensures.as_many in
    let short = few.few in
    c.counted-after.ensures numbers (long ∙ sym (c.count_after.ensures stay (rows ∙ is) (omega (arith, long, short)))) few
