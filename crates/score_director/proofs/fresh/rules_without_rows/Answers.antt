use Rattle.std.proofs.Common.{◌<◌, ◌+◌, List, arith, length, subst, sym, take}
use Rattle.std.specs.List.{AllZip}
use Rattle.score_director.specs.declared.rule.RuleNet.{RuleNet}
use Rattle.score_director.specs.Fresh.{IsFreshRule}
use Rattle.score_director.proofs.FreshLaws.{zip_found}
use Rattle.score_director.proofs.fresh.rules_without_rows.Goals as goal

pub loop-rule-preserved : goal.loop-rule-preserved
loop-rule-preserved g c =
    let defs = c.args.rules.now.defs in
    let within : c.loop-rule.rule < length defs = omega (arith, c.loop-rule-test.true, c.count-rule-end.ensures.count) in
    subst (λ (nets : List RuleNet). AllZip IsFreshRule (take (c.loop-rule.rule + 1) defs) nets) (sym c.in_ok-push.ensures.items)
    (zip_found IsFreshRule defs c.loop-rule.nets.items c.loop-rule.rule c.in_ok-rule_without_rows.field-0 within c.loop-rule.invariant c.in_ok-rule_without_rows.ensures)
