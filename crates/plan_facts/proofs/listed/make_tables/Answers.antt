use Rattle.std.proofs.Common.{◌≡◌, ◌∙◌, List, sym, subst, arith, nat_eq, get_or}
use Rattle.std.specs.List.{IsDistinct}
use Rattle.std.proofs.lemmas.List.{length-set}
use Rattle.plan_facts.specs.declared.record.Raw.{Raw}
use Rattle.plan_facts.specs.Plan.{ids_in}
use Rattle.plan_facts.specs.PlanFaults.{table_of}
use Rattle.plan_facts.proofs.Tables.{read_left, left_more, tables_more, tables_all}
use Rattle.plan_facts.proofs.listed.make_tables.Goals as goal

pub of-requires : goal.of-requires
of-requires c =
    let raws = c.replace-raws.result in
    let read = read_left c.loop-class.rest.items c.args.lists c.loop-class.class raws c.loop-class.invariant.left (subst (λ (r : List Raw). r ≡ get_or c.loop-class.rest.items c.loop-class.class r) (sym c.replace-raws.ensures.value) c.index_mut.ensures.value) in
    subst (λ (r : List Raw). IsDistinct nat_eq (ids_in r)) (sym read) (c.requires.distinct c.loop-class.class raws (omega arith))

pub loop-class-preserved : goal.loop-class-preserved
loop-class-preserved c =
    let raws = c.replace-raws.result in
    let read = read_left c.loop-class.rest.items c.args.lists c.loop-class.class raws c.loop-class.invariant.left (subst (λ (r : List Raw). r ≡ get_or c.loop-class.rest.items c.loop-class.class r) (sym c.replace-raws.ensures.value) c.index_mut.ensures.value) in
    let table = c.in_ok-of.ensures ∙ (λ i. table_of (c.len.ensures i) (c.in_ok-ranges.ensures i) (c.in_ok-nullables.ensures i) raws) in
    record {
      made = c.in_ok-push.ensures.items ∙ tables_more c.args.schema.now c.args.lists c.loop-class.class c.in-Some.def.now raws c.loop-class.tables.items c.in_ok-of.field-0 (omega arith) c.requires.count (sym c.in-Some.ensures.class) read c.loop-class.invariant.made table;
      count = length-set c.loop-class.rest.items c.loop-class.class _ ∙ c.loop-class.invariant.count;
      left = left_more c.loop-class.rest.items c.args.lists c.loop-class.class _ c.loop-class.invariant.left;
    }

pub returns : goal.returns
returns c = tables_all c.args.schema.now c.args.lists c.loop-class.class c.loop-class.tables.items (omega arith) c.loop-class.invariant.made
