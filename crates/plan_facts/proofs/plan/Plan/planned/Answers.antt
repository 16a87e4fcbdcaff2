use Rattle.std.proofs.Common.{◌∙◌, Option, None, List, [], ◌∷◌, ◌++◌, get_or, ap, arith}
use Rattle.plan_facts.specs.declared.record.Value.{Value}
use Rattle.plan_facts.specs.Plan.{held_value}
use Rattle.plan_facts.proofs.Held.{held_more, held_all}
use Rattle.plan_facts.proofs.plan.Plan.planned.Goals as goal

pub loop-var-preserved : goal.loop-var-preserved
loop-var-preserved c =
    c.in_ok-push.ensures.ok ∙ ap (λ (v : Option Value). c.loop-var.planned ++ v ∷ []) c.in_ok-held.ensures ∙ ap (λ (vs : List (Option Value)). vs ++ held_value c.args.self.now (get_or c.args.ranges.now c.loop-var.var 0) (get_or c.args.values.now c.loop-var.var None) ∷ []) c.loop-var.invariant
    ∙ held_more c.args.self.now c.args.ranges.now c.args.values.now c.loop-var.var c.loop-var-test.true (omega arith)

pub returns : goal.returns
returns c =
    c.loop-var.invariant ∙ held_all c.args.self.now c.args.ranges.now c.args.values.now c.loop-var.var (omega arith) (omega arith)
