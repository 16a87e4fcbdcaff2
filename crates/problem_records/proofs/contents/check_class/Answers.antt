use Rattle.std.proofs.Common.{◌≡◌, ◌∙◌, ◌<◌, ◌+◌, length, take, drop, map, get_or, true, false, sym, ap, arith}
use Rattle.std.proofs.lemmas.List.{length-map, get_or-map}
use Rattle.std.proofs.lemmas.Result.{err_from_is_err_and}
use Rattle.serde_json.specs.View.{view}
use Rattle.plan_facts.specs.First.{first_fault}
use Rattle.problem_records.specs.RecordFaults.{has_id, record_fault, list_fault}
use Rattle.problem_records.proofs.Refused.{refused_first, passed_first, refused_by}
use Rattle.problem_records.proofs.Places.{entry_at}
use Rattle.problem_records.proofs.IdLoop.{id_double, id_new, ids_more}
use Rattle.problem_records.proofs.contents.check_class.Goals as goal

pub returns-then-contains : goal.returns-then-contains
returns-then-contains c =
    let at = entry_at (record_fault c.args.class.now) c.args.entries.now c.loop-place.place c.index-entries-place.result c.loop-place-test.true c.index-entries-place.is in
    let has : has_id (take c.loop-place.place (map view c.args.entries.now)) c.id_of-id.result ≡ true = sym (c.loop-place.invariant.ids c.id_of-id.result) ∙ sym c.contains.ensures ∙ c.if-contains.true in
    let seen = map view c.args.entries.now in
    let rest = first_fault (record_fault c.args.class.now) (take (c.loop-place.place + 1) seen) (drop (c.loop-place.place + 1) seen) in
    let double = id_double c.args.class.now (take c.loop-place.place seen) (view c.index-entries-place.result) c.id_of-id.result (list_fault c.args.class.now seen) rest c.id_of-id.ensures has (c.loop-place.invariant.so_far ∙ at) in
    refused_by _ _ c.double_id.result double c.double_id.ensures

pub returns-in_err-check_fields : goal.returns-in_err-check_fields
returns-in_err-check_fields c =
    let p = err_from_is_err_and c.from_residual.result c.from_residual.ensures.1 in
    let at = entry_at (record_fault c.args.class.now) c.args.entries.now c.loop-place.place c.index-entries-place.result c.loop-place-test.true c.index-entries-place.is in
    let has : has_id (take c.loop-place.place (map view c.args.entries.now)) c.id_of-id.result ≡ false = sym (c.loop-place.invariant.ids c.id_of-id.result) ∙ sym c.contains.ensures ∙ c.if-contains.false in
    rw (p.1, p.2) (refused_first _ _ _ c.in_err-check_fields.field-0.0 (id_new c.args.class.now _ _ c.id_of-id.result _ _ c.id_of-id.ensures has (c.loop-place.invariant.so_far ∙ at)) c.in_err-check_fields.ensures)

pub loop-place-preserved : goal.loop-place-preserved
loop-place-preserved c =
    let long = length-map c.args.entries.now view in
    let at = entry_at (record_fault c.args.class.now) c.args.entries.now c.loop-place.place c.index-entries-place.result c.loop-place-test.true c.index-entries-place.is in
    let has : has_id (take c.loop-place.place (map view c.args.entries.now)) c.id_of-id.result ≡ false = sym (c.loop-place.invariant.ids c.id_of-id.result) ∙ sym c.contains.ensures ∙ c.if-contains.false in
    let there : view c.index-entries-place.result ≡ get_or (map view c.args.entries.now) c.loop-place.place (view c.index-entries-place.result) =
    sym (get_or-map view c.args.entries.now c.loop-place.place c.index-entries-place.result (view c.index-entries-place.result) c.loop-place-test.true ∙ ap view (sym c.index-entries-place.is)) in
    let within : c.loop-place.place < length (map view c.args.entries.now) = omega (arith, long, c.loop-place-test.true) in
    record {
      so_far = passed_first _ _ _ (id_new c.args.class.now _ _ c.id_of-id.result _ _ c.id_of-id.ensures has (c.loop-place.invariant.so_far ∙ at)) c.in_ok-check_fields.ensures;
      ids = ids_more (map view c.args.entries.now) c.loop-place.place (view c.index-entries-place.result) c.id_of-id.result c.loop-place.ids c.insert.new.self within there c.id_of-id.ensures c.loop-place.invariant.ids c.in_ok-insert.ensures.updates.0;
    }
