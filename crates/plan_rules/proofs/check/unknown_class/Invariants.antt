use Rattle.std.proofs.Common.{◌≡◌, drop}
use Rattle.std.specs.Prelude.{find, nat_le}
use Rattle.std.specs.List.{filter_map}
use Rattle.plan_rules.specs.Named.{node_class}
use Rattle.plan_rules.specs.Faults.{unknown_class}
use Rattle.plan_rules.proofs.check.unknown_class.Given as goal

-- the classes so far are known
abbrev pub invariant-loop-node : goal.invariant-loop-node
invariant-loop-node l =
    unknown_class l.classes l.rule ≡ find (λ class. nat_le l.classes class) (filter_map node_class (drop l.node-index l.rule.nodes))
