use Rattle.std.proofs.Common.{◌≡◌, None, take}
use Rattle.json_values.specs.Views.{view_at}
use Rattle.problem_settings.specs.Weights.{weights_of, first_unweighed}
use Rattle.problem_settings.proofs.weights.rule_weights.Given as goal

-- the weights of the rules so far are read, and each of these rules gets one
abbrev pub invariant-loop-rule : goal.invariant-loop-rule
invariant-loop-rule l = record {
  weights : l.read ≡ weights_of (take l.rule-index l.rules) (view_at l.weights);
  all : first_unweighed (view_at l.weights) (take l.rule-index l.rules) ≡ None;
}
