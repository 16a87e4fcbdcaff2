use Rattle.std.proofs.Common.{◌∙◌, ℕ, ◌≤◌, List, All, length, sym, ap, subst}
use Rattle.json_values.specs.Views.{view_at}
use Rattle.problem_settings.specs.Weights.{weight_of, unweighed_fault}
use Rattle.problem_settings.proofs.Lists.{nothing_mapped, length-filter_map, list_all-given}
use Rattle.problem_settings.proofs.Ranges.{weights-in_range}
use Rattle.problem_settings.proofs.weights.read_weights.Goals as goal

pub returns-clause-each : goal.returns-clause-each
returns-clause-each c =
    let weight = weight_of (view_at c.args.weights) in
    ap length c.in_ok-read.ensures.weights ∙ length-filter_map weight c.args.rules.now (list_all-given weight c.args.rules.now (nothing_mapped unweighed_fault _ c.in_ok-read.ensures.refusal))

pub returns-clause-in_range : goal.returns-clause-in_range
returns-clause-in_range c own =
    subst (λ (read : List ℕ). All (λ weight. weight ≤ 1000000) read) (sym c.in_ok-read.ensures.weights) (weights-in_range (view_at c.args.weights) c.args.rules.now own)
