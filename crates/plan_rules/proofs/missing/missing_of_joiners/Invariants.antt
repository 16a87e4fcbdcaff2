use Rattle.std.proofs.Common.{◌≡◌, drop}
use Rattle.std.specs.Prelude.{find}
use Rattle.std.specs.List.{flat_map}
use Rattle.plan_rules.specs.Faults.{is_missing}
use Rattle.plan_rules.specs.Named.{joiner_closures}
use Rattle.plan_rules.proofs.missing.missing_of_joiners.Given as goal

-- none so far is missing
abbrev pub invariant-loop-joiner : goal.invariant-loop-joiner
invariant-loop-joiner l =
    find (is_missing l.numbers) (flat_map joiner_closures l.joiners) ≡ find (is_missing l.numbers) (flat_map joiner_closures (drop l.joiner-index l.joiners))
