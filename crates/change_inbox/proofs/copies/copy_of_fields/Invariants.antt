use Rattle.std.proofs.Common.{◌≡◌, take}
use Rattle.change_inbox.proofs.copies.copy_of_fields.Given as goal

-- what was copied so far
abbrev pub invariant-loop-given : goal.invariant-loop-given
invariant-loop-given l = l.copy ≡ take l.given-index l.items
