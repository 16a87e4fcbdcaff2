use Rattle.std.proofs.Common.{◌≡◌, false, take}
use Rattle.stream_group.specs.Keyed.{gone_in, is_one_of}
use Rattle.stream_group.proofs.change.goes.Given as goal

-- the row is none of those so far that go
abbrev pub invariant-loop-change : goal.invariant-loop-change
invariant-loop-change l = is_one_of (gone_in (take l.change-index l.changes)) l.member ≡ false
