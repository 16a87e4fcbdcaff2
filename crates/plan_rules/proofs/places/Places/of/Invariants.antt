use Rattle.std.proofs.Common.{◌≡◌, take, drop}
use Rattle.plan_facts.specs.First.{first_fault}
use Rattle.plan_rules.specs.Faults.{double_closure, number_fault}
use Rattle.plan_rules.proofs.places.Places.of.Given as goal

-- the numbers so far are entered, and none of them stands earlier too
abbrev pub invariant-loop-number : goal.invariant-loop-number
invariant-loop-number l = record {
  entered : l.places ≡ take l.number-index l.numbers;
  distinct : double_closure l.kind l.numbers ≡ first_fault (number_fault l.kind) (take l.number-index l.numbers) (drop l.number-index l.numbers);
}
