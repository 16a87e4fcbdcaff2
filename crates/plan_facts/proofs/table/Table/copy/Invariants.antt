use Rattle.std.proofs.Common.{◌≡◌, take}
use Rattle.plan_facts.proofs.table.Table.copy.Given as goal

-- what was copied so far
abbrev pub invariant-loop-raw : goal.invariant-loop-raw
invariant-loop-raw l = l.facts.items ≡ take l.raw-index l.raw-items
