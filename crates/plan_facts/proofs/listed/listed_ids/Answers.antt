use Rattle.std.proofs.Common.{◌∙◌, sym, arith}
use Rattle.plan_facts.proofs.ListedLaws.{listed_more, good_record, good_record_at}
use Rattle.plan_facts.proofs.listed.listed_ids.Goals as goal

pub loop-place-preserved : goal.loop-place-preserved
loop-place-preserved c =
    let raw = c.index-raws-place.result in
    let good = good_record c.args.class c.args.count _ raw (omega arith) (omega arith) (sym (c.loop-place.invariant.ids raw.id) ∙ sym c.if-contains.ensures) (rw c.as_slice.ensures at c.in_ok-check_fields.ensures) in
    record {
      so_far = c.loop-place.invariant.so_far ∙ good_record_at c.args.class c.args.count c.args.raws.now c.loop-place.place raw c.loop-place-test.true c.index-raws-place.is good;
      ids = listed_more c.args.raws.now c.loop-place.place raw c.loop-place.ids c.insert.new.self c.loop-place-test.true c.index-raws-place.is c.loop-place.invariant.ids c.in_ok-insert.ensures.updates.0;
    }
