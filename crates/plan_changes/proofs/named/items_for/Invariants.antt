use Rattle.std.proofs.Common.{◌≡◌, take, map}
use Rattle.plan_changes.specs.Named.{item_for}
use Rattle.plan_changes.proofs.named.items_for.Given as goal

-- what the items give the fields so far
abbrev pub invariant-loop-field : goal.invariant-loop-field
invariant-loop-field l = l.given ≡ map (item_for l.items) (take l.field-index l.field-items)
