use Rattle.std.proofs.Common.{◌≡◌, take}
use Rattle.plan_rules.proofs.copies.copy_nodes.Given as goal

-- the nodes so far
abbrev pub invariant-loop-node : goal.invariant-loop-node
invariant-loop-node l = l.copies ≡ take l.node-index l.nodes
