use Rattle.std.proofs.Common.{◌≡◌, [], take, drop}
use Rattle.plan_facts.specs.First.{first_fault}
use Rattle.plan_rules.specs.Faults.{harder_fault}
use Rattle.plan_rules.proofs.harder.check_harder.Given as goal

-- none so far is bad
abbrev pub invariant-loop-place : goal.invariant-loop-place
invariant-loop-place l =
    first_fault (harder_fault l.schema l.numbers) [] l.harders ≡ first_fault (harder_fault l.schema l.numbers) (take l.place l.harders) (drop l.place l.harders)
