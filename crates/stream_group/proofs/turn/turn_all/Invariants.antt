use Rattle.std.proofs.Common.{length}
use Rattle.stream_heads.specs.Sides.{members_of}
use Rattle.stream_group.proofs.Turning.{Turned}
use Rattle.stream_group.proofs.turn.turn_all.Given as goal

-- the groups of the changes so far have turned
abbrev pub invariant-loop-change : goal.invariant-loop-change
invariant-loop-change l = Turned l.by (members_of l.members) l.changes l.rest l.initial.out l.out

abbrev pub decreases-loop-change : goal.decreases-loop-change
decreases-loop-change l = length l.rest
