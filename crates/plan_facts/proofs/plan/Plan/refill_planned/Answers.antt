use Rattle.std.proofs.Common.{◌∙◌, ◌++◌, ◌∷◌, [], None, get_or, sym, arith}
use Rattle.std.proofs.lemmas.List.{length-set, take_more_set, take_all}
use Rattle.plan_facts.specs.Plan.{held_value}
use Rattle.plan_facts.proofs.Held.{held_more, held_all, written_back-whole}
use Rattle.plan_facts.proofs.plan.Plan.refill_planned.Goals as goal

pub loop-var-preserved : goal.loop-var-preserved
loop-var-preserved c =
    let long = c.loop-var.invariant.long in
    let held = held_value c.args.self.now (get_or c.args.ranges.now c.loop-var.var 0) (get_or c.args.values.now c.loop-var.var None) in
    record {
      filled = take_more_set c.loop-var.planned c.loop-var.var c.refill_variable.new.held (omega arith)
          ∙ (λ i. c.loop-var.invariant.filled i ++ c.in_ok-refill_variable.ensures i ∷ [])
          ∙ held_more c.args.self.now c.args.ranges.now c.args.values.now c.loop-var.var c.loop-var-test.true (omega arith);
      long = length-set c.loop-var.planned c.loop-var.var c.refill_variable.new.held ∙ long;
    }

pub returns : goal.returns
returns c =
    let long = c.loop-var.invariant.long in
    written_back-whole c.args.planned.now c.loop-var.planned (omega arith)
    ∙ sym (take_all c.loop-var.var c.loop-var.planned (omega arith))
    ∙ c.loop-var.invariant.filled
    ∙ held_all c.args.self.now c.args.ranges.now c.args.values.now c.loop-var.var (omega arith) (omega arith)
