use Rattle.std.proofs.Common.{◌∙◌, sym, arith}
use Rattle.std.proofs.lemmas.Result.{err_from_is_err_and}
use Rattle.plan_facts.proofs.ListFaults.{class_values_at, zip_end, refused_first, refused_by, passed_first}
use Rattle.plan_facts.proofs.listed.check_all_values.Goals as goal

pub returns-in_err-check_values_of-clause-err : goal.returns-in_err-check_values_of-clause-err
returns-in_err-check_values_of-clause-err g c =
    let p = err_from_is_err_and c.from_residual-in_err-check_values_of.result c.from_residual-in_err-check_values_of.ensures.1 in
    let at = class_values_at (g.L.LiveFacts.live c.args.facts.now) c.args.schema.now c.args.lists.now c.loop-class.class c.in-Some.def.now c.index-lists-class.result (omega arith) c.requires (sym c.in-Some.ensures.class) c.index-lists-class.is in
    rw (p.1, p.2) (refused_first _ _ _ c.in_err-check_values_of.field-0.0 (c.loop-class.invariant ∙ at) (refused_by _ c.in_err-check_values_of.field-0.0 (rw (c.as_slice-raws.ensures, c.as_slice.ensures, c.in_ok-ranges.ensures) at (sym c.in_err-check_values_of.ensures))))

pub loop-class-preserved : goal.loop-class-preserved
loop-class-preserved g c =
    let at = class_values_at (g.L.LiveFacts.live c.args.facts.now) c.args.schema.now c.args.lists.now c.loop-class.class c.in-Some.def.now c.index-lists-class.result (omega arith) c.requires (sym c.in-Some.ensures.class) c.index-lists-class.is in
    passed_first _ _ _ (c.loop-class.invariant ∙ at) (rw (c.as_slice-raws.ensures, c.as_slice.ensures, c.in_ok-ranges.ensures) at (sym c.in_ok-check_values_of.ensures))

pub returns-clause-ok : goal.returns-clause-ok
returns-clause-ok g c = c.loop-class.invariant ∙ zip_end _ c.args.schema.now c.args.lists.now c.loop-class.class (omega arith)
