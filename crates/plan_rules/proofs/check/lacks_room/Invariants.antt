use Rattle.std.proofs.Common.{◌≡◌, ◌≤◌, false, drop}
use Rattle.std.specs.List.{list_any}
use Rattle.plan_rules.specs.Named.{head_parts}
use Rattle.plan_rules.specs.Faults.{lacks_room, has_bad_key_count}
use Rattle.plan_rules.proofs.check.lacks_room.Given as goal

-- there was room so far
abbrev pub invariant-loop-node : goal.invariant-loop-node
invariant-loop-node l = record {
  room : lacks_room (head_parts l.rule.head) l.rule.nodes ≡ lacks_room l.parts (drop l.node-index l.rule.nodes);
  keys : list_any has_bad_key_count (drop l.node-index l.rule.nodes) ≡ false;
  few : l.parts ≤ 4;
}
