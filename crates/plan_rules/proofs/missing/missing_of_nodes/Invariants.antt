use Rattle.std.proofs.Common.{◌≡◌, drop}
use Rattle.std.specs.Prelude.{find}
use Rattle.std.specs.List.{flat_map}
use Rattle.plan_rules.specs.Faults.{is_missing}
use Rattle.plan_rules.specs.Named.{node_closures}
use Rattle.plan_rules.proofs.missing.missing_of_nodes.Given as goal

-- none so far is missing
abbrev pub invariant-loop-node : goal.invariant-loop-node
invariant-loop-node l =
    find (is_missing l.numbers) (flat_map node_closures l.nodes) ≡ find (is_missing l.numbers) (flat_map node_closures (drop l.node-index l.nodes))
