use Rattle.std.proofs.Common.{◌∙◌, Option, ap, length, slice_get}
use Rattle.std.specs.Option.{option_and_then}
use Rattle.plan_rules.specs.declared.rule.RuleDef.{RuleDef}
use Rattle.trial_bench.proofs.Handed.{closures_at}
use Rattle.trial_bench.proofs.school_rules.node_in.Goals as goal

pub returns-clause-is : goal.returns-clause-is
returns-clause-is g c =
    c.in-Some-get.ensures ∙ ap (λ (o : Option RuleDef). option_and_then (λ (d : RuleDef). slice_get d.nodes 0) o) c.in-Some.ensures.found

pub returns-clause-closures : goal.returns-clause-closures
returns-clause-closures g c =
    let rules = c.args.rules.now in
    closures_at (length rules.schema) rules.numbers c.in-Some.def.now 0 c.in-Some-get.node.now c.in-Some.ensures.sound c.in-Some-get.ensures
