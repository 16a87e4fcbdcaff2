use Rattle.std.proofs.Common.{◌≡◌, take, drop, []}
use Rattle.plan_facts.specs.First.{first_fault}
use Rattle.plan_rules.specs.Faults.{rule_fault}
use Rattle.plan_rules.proofs.check.check_rules.Given as goal

-- no rule so far has a fault
abbrev pub invariant-loop-place : goal.invariant-loop-place
invariant-loop-place l =
    first_fault (rule_fault l.classes l.numbers) [] l.rules ≡ first_fault (rule_fault l.classes l.numbers) (take l.place l.rules) (drop l.place l.rules)
