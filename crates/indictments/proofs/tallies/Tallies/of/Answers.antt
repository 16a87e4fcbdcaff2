use Rattle.std.proofs.Common.{◌∙◌, List, take, sym, subst}
use Rattle.plan_rules.specs.declared.row.Match.{Match}
use Rattle.indictments.specs.Indicts.{all_of}
use Rattle.indictments.specs.Tallies.{AreTallies}
use Rattle.indictments.proofs.TallyLaws.{next_rule, next_rule_few}
use Rattle.indictments.proofs.tallies.Tallies.of.Goals as goal

pub add_all-requires : goal.add_all-requires
add_all-requires c =
    let all = c.args.matches.now in
    let k = c.loop-of_rule.of_rule-index in
    (all_of (take k all), c.loop-of_rule.invariant, next_rule_few all k c.as_slice.result.now c.of_rule-item.result c.loop-of_rule-test.true (c.as_slice.ensures ∙ c.of_rule-item.is) c.requires)

pub loop-of_rule-preserved : goal.loop-of_rule-preserved
loop-of_rule-preserved c =
    let all = c.args.matches.now in
    let k = c.loop-of_rule.of_rule-index in
    let P : List Match → Type 0 = AreTallies c.add_all.new.self in
    subst P (sym (next_rule all k c.as_slice.result.now c.of_rule-item.result c.loop-of_rule-test.true (c.as_slice.ensures ∙ c.of_rule-item.is)))
    (c.in_ok-add_all.ensures (all_of (take k all)) c.loop-of_rule.invariant)
