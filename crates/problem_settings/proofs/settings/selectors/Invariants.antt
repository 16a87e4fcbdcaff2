use Rattle.std.proofs.Common.{◌≡◌, take}
use Rattle.std.specs.List.{filter_map}
use Rattle.serde_json.specs.View.{view}
use Rattle.problem_settings.specs.Words.{selector_of}
use Rattle.problem_settings.proofs.settings.selectors.Given as goal

-- the selectors so far are listed
abbrev pub invariant-loop-value : goal.invariant-loop-value
invariant-loop-value l = l.list ≡ filter_map (λ value. selector_of (view value)) (take l.value-index l.values)
