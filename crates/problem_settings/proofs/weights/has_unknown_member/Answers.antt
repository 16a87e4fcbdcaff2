use Rattle.std.proofs.Common.{◌≡◌, ◌∙◌, rules, sym}
use Rattle.std.specs.List.{list_any}
use Rattle.std.specs.Str.{bytes_eq}
use Rattle.json_values.proofs.Reading.{list_any-map}
use Rattle.plan_rules.specs.declared.rule.RuleDef.{RuleDef}
use Rattle.problem_settings.specs.Weights.{rule_names}
use Rattle.problem_settings.proofs.weights.has_unknown_member.Goals as goal

pub returns : goal.returns
returns c = c.has_other.ensures (rule_names c.args.rules.now) (record {
  answers = λ name known said.
      let is : known ≡ list_any (λ rule. bytes_eq name rule.name) c.args.rules.now = search rules in
      is ∙ sym (list_any-map (λ (rule : RuleDef). rule.name) (bytes_eq name) c.args.rules.now);
})
