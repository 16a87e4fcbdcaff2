use Rattle.std.proofs.Common.{◌≡◌, take, map}
use Rattle.plan_changes.specs.Performed.{number_given}
use Rattle.plan_changes.proofs.perform.numbers_given.Given as goal

-- what the fields so far hold
abbrev pub invariant-loop-item : goal.invariant-loop-item
invariant-loop-item l = l.numbers ≡ map (number_given l.names) (take l.item-index l.items)
