use Rattle.std.proofs.Common.{◌∙◌, ◌≤◌, inr, sym, ap, length, arith}
use Rattle.std.proofs.lemmas.Result.{err_from_is_err_and}
use Rattle.serde_json.specs.View.{view}
use Rattle.problem_records.proofs.Refused.{refused_first}
use Rattle.problem_records.proofs.Answered.{IsGiven, shape_counts, number_counts, contents_count, no_fault, same_plan, refused_by_name}
use Rattle.problem_records.proofs.records.read_records.Goals as goal

pub returns-in_err-check_shapes-clause-refusal : goal.returns-in_err-check_shapes-clause-refusal
returns-in_err-check_shapes-clause-refusal c =
    let p = err_from_is_err_and c.from_residual.result c.from_residual.ensures.1 in
    rw (p.1, p.2) (refused_first _ _ _ c.in_err-check_shapes.field-0.0 (shape_counts c.args.schema.now (view c.args.facts.now)) c.in_err-check_shapes.ensures)

pub returns-then-has_too_many-clause-refusal : goal.returns-then-has_too_many-clause-refusal
returns-then-has_too_many-clause-refusal c =
    inr (number_counts c.args.schema.now (view c.args.facts.now) c.in_ok-check_shapes.ensures (sym c.has_too_many.ensures ∙ c.if-has_too_many.true))

pub returns-in_err-check_contents-clause-refusal : goal.returns-in_err-check_contents-clause-refusal
returns-in_err-check_contents-clause-refusal c =
    let p = err_from_is_err_and c.from_residual-in_err-check_contents.result c.from_residual-in_err-check_contents.ensures.1 in
    rw (p.1, p.2) (refused_first _ _ _ c.in_err-check_contents.field-0.0 (contents_count c.args.schema.now (view c.args.facts.now) c.in_ok-check_shapes.ensures (sym c.has_too_many.ensures ∙ c.if-has_too_many.false)) c.in_err-check_contents.ensures)

pub returns-in-Ok-clause-plan : goal.returns-in-Ok-clause-plan
returns-in-Ok-clause-plan c =
    let small : length c.in_ok-names.names ≤ 1000000000 = omega (arith, ap length c.names.view_is, c.names.invariant.few) in
    let given : IsGiven c.args.schema.now (view c.args.facts.now) c.in_ok-names.names c.in_ok-lists.lists = record {
      shape = c.in_ok-check_shapes.ensures;
      few = sym c.has_too_many.ensures ∙ c.if-has_too_many.false;
      good = c.in_ok-check_contents.ensures;
      named = c.in_ok-names.ensures;
      small = small;
      listed = c.in_ok-lists.ensures;
    } in
    c.in-Ok.ensures.plan ∙ same_plan _ _ _ _ given

pub returns-in-Ok-clause-refusal : goal.returns-in-Ok-clause-refusal
returns-in-Ok-clause-refusal c =
    let small : length c.in_ok-names.names ≤ 1000000000 = omega (arith, ap length c.names.view_is, c.names.invariant.few) in
    let given : IsGiven c.args.schema.now (view c.args.facts.now) c.in_ok-names.names c.in_ok-lists.lists = record {
      shape = c.in_ok-check_shapes.ensures;
      few = sym c.has_too_many.ensures ∙ c.if-has_too_many.false;
      good = c.in_ok-check_contents.ensures;
      named = c.in_ok-names.ensures;
      small = small;
      listed = c.in_ok-lists.ensures;
    } in
    no_fault _ _ _ _ given c.in-Ok.ensures.ok

pub returns-in_ok-named_fault-in-Err-clause-refusal : goal.returns-in_ok-named_fault-in-Err-clause-refusal
returns-in_ok-named_fault-in-Err-clause-refusal c =
    let small : length c.in_ok-names.names ≤ 1000000000 = omega (arith, ap length c.names.view_is, c.names.invariant.few) in
    let given : IsGiven c.args.schema.now (view c.args.facts.now) c.in_ok-names.names c.in_ok-lists.lists = record {
      shape = c.in_ok-check_shapes.ensures;
      few = sym c.has_too_many.ensures ∙ c.if-has_too_many.false;
      good = c.in_ok-check_contents.ensures;
      named = c.in_ok-names.ensures;
      small = small;
      listed = c.in_ok-lists.ensures;
    } in
    rw c.in_ok-named_fault-in-Err.ensures (refused_by_name _ _ _ _ c.in-Err.fault given c.in-Err.ensures.err)
