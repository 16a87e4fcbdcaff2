use Rattle.std.proofs.Common.{◌∙◌, sym, arith}
use Rattle.std.proofs.lemmas.Result.{err_from_is_err_and}
use Rattle.plan_facts.proofs.ListFaults.{class_at, zip_end, refused_first, passed_first, have_more}
use Rattle.plan_facts.proofs.listed.all_listed_ids.Goals as goal

pub returns-in_err-ids-clause-err : goal.returns-in_err-ids-clause-err
returns-in_err-ids-clause-err c =
    let p = err_from_is_err_and c.from_residual.result c.from_residual.ensures.1 in
    let raws = c.index-lists-class.result in
    let at = class_at c.args.schema.now c.args.lists.now c.loop-class.class c.in-Some.def.now raws (omega arith) c.requires (sym c.in-Some.ensures.class) c.index-lists-class.is in
    rw (p.1, p.2) (refused_first _ _ _ c.in_err-ids.field-0.0 (c.loop-class.invariant.so_far ∙ at) (rw (c.len.ensures, c.as_slice-raws.ensures) at c.in_err-ids.ensures.err))

pub loop-class-preserved : goal.loop-class-preserved
loop-class-preserved c =
    let raws = c.index-lists-class.result in
    let at = class_at c.args.schema.now c.args.lists.now c.loop-class.class c.in-Some.def.now raws (omega arith) c.requires (sym c.in-Some.ensures.class) c.index-lists-class.is in
    record {
      so_far = passed_first _ _ _ (c.loop-class.invariant.so_far ∙ at) (rw (c.len.ensures, c.as_slice-raws.ensures) at c.in_ok-ids.ensures.ok);
      ids = rw c.in_ok-push.ensures.items (have_more c.args.lists.now c.loop-class.classes.items c.loop-class.class raws c.in_ok-ids.ids (omega arith) c.index-lists-class.is c.loop-class.invariant.ids (rw c.as_slice-raws.ensures at c.in_ok-ids.ensures.ids));
    }

pub returns-clause-ok : goal.returns-clause-ok
returns-clause-ok c = c.loop-class.invariant.so_far ∙ zip_end _ c.args.schema.now c.args.lists.now c.loop-class.class (omega arith)
