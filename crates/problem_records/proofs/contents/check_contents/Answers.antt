use Rattle.std.proofs.Common.{◌∙◌, arith, sym, ap}
use Rattle.std.proofs.lemmas.Result.{err_from_is_err_and}
use Rattle.serde_json.specs.View.{view}
use Rattle.problem_records.specs.RecordFaults.{list_fault, class_fault}
use Rattle.problem_records.proofs.Refused.{refused_first, passed_first, refused_by}
use Rattle.problem_records.proofs.Places.{class_at}
use Rattle.problem_records.proofs.contents.check_contents.Goals as goal

pub returns-in_err-check_class : goal.returns-in_err-check_class
returns-in_err-check_class c =
    let p = err_from_is_err_and c.from_residual.result c.from_residual.ensures.1 in
    let at = class_at (class_fault (view c.args.facts.now)) c.args.schema.now c.loop-n.n c.in-Some.class.now (omega arith) (sym c.in-Some.ensures.class) in
    let refused = refused_by _ _ c.in_err-check_class.field-0.0 (ap (list_fault c.in-Some.class.now) (sym c.records_of.ensures)) c.in_err-check_class.ensures in
    rw (p.1, p.2) (refused_first _ _ _ c.in_err-check_class.field-0.0 (c.loop-n.invariant ∙ at) refused)

pub loop-n-preserved : goal.loop-n-preserved
loop-n-preserved c =
    let at = class_at (class_fault (view c.args.facts.now)) c.args.schema.now c.loop-n.n c.in-Some.class.now (omega arith) (sym c.in-Some.ensures.class) in
    passed_first _ _ _ (c.loop-n.invariant ∙ at) (ap (list_fault c.in-Some.class.now) (sym c.records_of.ensures) ∙ c.in_ok-check_class.ensures)
