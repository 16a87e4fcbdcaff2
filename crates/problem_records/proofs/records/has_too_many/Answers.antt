use Rattle.std.proofs.Common.{◌≡◌, ◌∙◌, ◌+◌, length, ap, sym, arith}
use Rattle.std.proofs.lemmas.List.{length-map}
use Rattle.std.proofs.lemmas.List.Sums.{sum_by-take-le}
use Rattle.serde_json.specs.View.{view}
use Rattle.problem_records.specs.Records.{records_of}
use Rattle.problem_records.specs.RecordFaults.{count_of}
use Rattle.problem_records.proofs.Steps.{count_more, is_above}
use Rattle.problem_records.proofs.records.has_too_many.Goals as goal

pub returns-then-count-left : goal.returns-then-count-left
returns-then-count-left c =
    let facts = view c.args.facts.now in
    let more = count_more c.args.schema.now facts c.loop-n.n c.in-Some.class.now (omega arith) (sym c.in-Some.ensures.class) in
    let le = sum_by-take-le (λ class. length (records_of facts class)) c.args.schema.now (c.loop-n.n + 1) in
    let long : length c.records_of-count.result.now ≡ length (records_of facts c.in-Some.class.now) = sym (length-map c.records_of-count.result.now view) ∙ ap length c.records_of-count.ensures in
    is_above 100000 (count_of c.args.schema.now facts) (omega arith)

pub loop-n-preserved : goal.loop-n-preserved
loop-n-preserved c =
    let facts = view c.args.facts.now in
    let more = count_more c.args.schema.now facts c.loop-n.n c.in-Some.class.now (omega arith) (sym c.in-Some.ensures.class) in
    let long : length c.records_of-count.result.now ≡ length (records_of facts c.in-Some.class.now) = sym (length-map c.records_of-count.result.now view) ∙ ap length c.records_of-count.ensures in
    omega arith
