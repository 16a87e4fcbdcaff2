use Rattle.std.proofs.Common.{◌≡◌, ◌∙◌, ◌+◌, length, fold, [], ap, sym, arith}
use Rattle.std.specs.List.{flat_map}
use Rattle.std.proofs.lemmas.List.{length-map, take_all}
use Rattle.std.proofs.lemmas.List.Sums.{sum_by-take-le}
use Rattle.serde_json.specs.View.{view}
use Rattle.plan_facts.specs.Names.{with_name}
use Rattle.problem_records.specs.Records.{records_of}
use Rattle.problem_records.specs.Facts.{record_texts, class_texts, names_of}
use Rattle.problem_records.proofs.Steps.{count_more, names_more}
use Rattle.problem_records.proofs.names.names_of.Goals as goal

pub number_class-requires-clause-room : goal.number_class-requires-clause-room
number_class-requires-clause-room c =
    let facts = view c.args.facts.now in
    let more = count_more c.args.schema.now facts c.loop-n.n c.in-Some.class.now (omega arith) (sym c.in-Some.ensures.class) in
    let le = sum_by-take-le (λ class. length (records_of facts class)) c.args.schema.now (c.loop-n.n + 1) in
    let long : length c.records_of.result.now ≡ length (records_of facts c.in-Some.class.now) = sym (length-map c.records_of.result.now view) ∙ ap length c.records_of.ensures in
    omega arith

pub loop-n-preserved : goal.loop-n-preserved
loop-n-preserved c =
    let facts = view c.args.facts.now in
    let more = count_more c.args.schema.now facts c.loop-n.n c.in-Some.class.now (omega arith) (sym c.in-Some.ensures.class) in
    let long : length c.records_of.result.now ≡ length (records_of facts c.in-Some.class.now) = sym (length-map c.records_of.result.now view) ∙ ap length c.records_of.ensures in
    let few = c.in_ok-number_class.ensures.few in
    record {
      names = c.in_ok-number_class.ensures.names
          ∙ (λ i. fold with_name (c.loop-n.invariant.names i) (flat_map (record_texts c.in-Some.class.now) (c.records_of.ensures i)))
          ∙ sym (names_more c.args.schema.now facts c.loop-n.n c.in-Some.class.now (omega arith) (sym c.in-Some.ensures.class));
      few = omega arith;
    }

pub returns : goal.returns
unfolding names_of
returns c = c.loop-n.invariant.names ∙ ap (λ classes. fold with_name [] (flat_map (class_texts (view c.args.facts.now)) classes)) (take_all c.loop-n.n c.args.schema.now (omega arith))
