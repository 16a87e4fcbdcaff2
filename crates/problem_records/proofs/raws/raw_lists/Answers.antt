use Rattle.std.proofs.Common.{◌∙◌, ◌++◌, ◌∷◌, [], map, sym, arith}
use Rattle.serde_json.specs.View.{view}
use Rattle.problem_records.specs.Facts.{raw_of}
use Rattle.problem_records.proofs.Steps.{lists_more}
use Rattle.problem_records.proofs.raws.raw_lists.Goals as goal

pub loop-n-preserved : goal.loop-n-preserved
loop-n-preserved c =
    c.in_ok-push.ensures.ok
    ∙ (λ i. c.loop-n.invariant i ++ (c.in_ok-class_raws.ensures ∙ (λ j. map (raw_of c.args.names.now c.in-Some.class.now) (c.records_of.ensures j))) i ∷ [])
    ∙ sym (lists_more c.args.names.now c.args.schema.now (view c.args.facts.now) c.loop-n.n c.in-Some.class.now (omega arith) (sym c.in-Some.ensures.class))
