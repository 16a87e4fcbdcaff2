use Rattle.std.proofs.Common.{◌≡◌, take, length}
use Rattle.plan_changes.specs.Performed.{numbered, texts_in}
use Rattle.plan_changes.proofs.perform.number_names.Given as goal

-- the names with those of the fields so far
abbrev pub invariant-loop-item : goal.invariant-loop-item
invariant-loop-item l = l.names ≡ numbered l.fn.names (texts_in (take l.item-index l.items))
