use Rattle.std.proofs.Common.{◌∙◌, arith}
use Rattle.std.proofs.lemmas.Result.{err_from_is_err_and}
use Rattle.problem_records.proofs.Refused.{refused_first, passed_first}
use Rattle.problem_records.proofs.Places.{record_at, records_end}
use Rattle.problem_records.proofs.shape.check_records.Goals as goal

pub returns-in_err-check_record : goal.returns-in_err-check_record
returns-in_err-check_record c =
    let p = err_from_is_err_and c.from_residual.result c.from_residual.ensures.1 in
    let at = record_at c.args.class.now c.args.records.now c.loop-place.place c.index-records-place.result c.loop-place-test.true c.index-records-place.is in
    rw (p.1, p.2) (refused_first _ _ _ c.in_err-check_record.field-0.0 (c.loop-place.invariant ∙ at) c.in_err-check_record.ensures)

pub loop-place-preserved : goal.loop-place-preserved
loop-place-preserved c =
    let at = record_at c.args.class.now c.args.records.now c.loop-place.place c.index-records-place.result c.loop-place-test.true c.index-records-place.is in
    passed_first _ _ _ (c.loop-place.invariant ∙ at) c.in_ok-check_record.ensures

pub returns : goal.returns
returns c = c.loop-place.invariant ∙ records_end c.args.class.now c.args.records.now c.loop-place.place (omega arith)
