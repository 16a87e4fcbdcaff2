use Rattle.std.proofs.Common.{◌∙◌, ◌∷◌, [], ◌++◌, Option, is_none, option_map, sym, ap, subst}
use Rattle.json_values.specs.Views.{view_at}
use Rattle.plan_rules.specs.declared.rule.RuleDef.{RuleDef}
use Rattle.plan_facts.specs.Refusal.{IsRefusal}
use Rattle.problem_faults.specs.declared.fault.ProblemFault.TheVariants.{Memory}
use Rattle.problem_settings.specs.Weights.{weight_of, unweighed_fault}
use Rattle.problem_settings.proofs.Lists.{filter_map-given, find-passed, find-here}
use Rattle.problem_settings.proofs.weights.rule_weights.Goals as goal

pub returns-in-None-clause-refusal : goal.returns-in-None-clause-refusal
returns-in-None-clause-refusal c =
    let weight = weight_of (view_at c.args.weights) in
    let here = find-here (λ rule. is_none (weight rule)) c.args.rules.now c.loop-rule.rule-index c.rule-item.result c.loop-rule-test.true c.rule-item.is c.loop-rule.invariant.all (ap is_none (sym c.in-None.ensures)) in
    subst (λ (found : Option RuleDef). IsRefusal Memory (option_map unweighed_fault found) c.unweighed.result) (sym here) c.unweighed.ensures

pub loop-rule-preserved : goal.loop-rule-preserved
loop-rule-preserved c =
    let weight = weight_of (view_at c.args.weights) in
    record {
      weights = c.in_ok-push-in-Some.ensures.ok ∙ ap (λ read. read ++ c.in-Some.weight ∷ []) c.loop-rule.invariant.weights
          ∙ sym (filter_map-given weight c.args.rules.now c.loop-rule.rule-index c.rule-item.result _ c.loop-rule-test.true c.rule-item.is (sym c.in-Some.ensures));
      all = find-passed (λ rule. is_none (weight rule)) c.args.rules.now c.loop-rule.rule-index c.rule-item.result c.loop-rule-test.true c.rule-item.is c.loop-rule.invariant.all (ap is_none (sym c.in-Some.ensures));
    }
