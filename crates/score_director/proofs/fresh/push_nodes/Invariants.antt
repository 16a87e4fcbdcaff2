use Rattle.std.proofs.Common.{◌≡◌, ◌++◌, map, take}
use Rattle.score_director.specs.Fresh.{fresh_node}
use Rattle.score_director.proofs.fresh.push_nodes.Given as goal

-- those of the nodes so far were appended
abbrev pub invariant-loop-place : goal.invariant-loop-place
invariant-loop-place g l = l.nodes.items ≡ l.initial.nodes.items ++ map fresh_node (take l.place l.def.nodes)
