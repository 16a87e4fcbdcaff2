use Rattle.std.specs.List.{AllWithin}
use Rattle.head_changes.specs.Changes.{IsNoChange}
use Rattle.head_changes.proofs.changes.clear.Given as goal

-- the changes so far are cleared
abbrev pub invariant-loop-change : goal.invariant-loop-change
invariant-loop-change l = AllWithin IsNoChange l.changes 0 l.change-index
