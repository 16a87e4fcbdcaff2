use Rattle.std.proofs.Common.{take}
use Rattle.std.specs.List.{AllZip}
use Rattle.score_director.specs.Fresh.{IsFreshRule}
use Rattle.score_director.proofs.fresh.rules_without_rows.Given as goal

-- those of the rules so far
abbrev pub invariant-loop-rule : goal.invariant-loop-rule
invariant-loop-rule g l = AllZip IsFreshRule (take l.rule l.rules.defs) l.nets.items
