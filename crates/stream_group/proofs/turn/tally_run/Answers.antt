use Rattle.std.proofs.Common.{ℕ, length, subst, take}
use Rattle.stream_heads.specs.Sides.{members_of}
use Rattle.stream_group.specs.Keyed.{under}
use Rattle.stream_group.specs.Turns.{MakesCount, MakesCountAfter}
use Rattle.stream_group.proofs.Counting.{counted_later, counted_under}
use Rattle.stream_group.proofs.turn.tally_run.Goals as goal

pub returns-in-Count-clause-before : goal.returns-in-Count-clause-before
returns-in-Count-clause-before c =
    let by = c.args.by.now in
    let kept = members_of c.args.members.now in
    let made = c.count_run.new.before.made in
    counted_under by kept (take (length by.keys) c.args.key.now) made c.in-Count.is
    (subst (λ (w : ℕ). MakesCount (length (under w (take w c.args.key.now) kept)) made) c.requires.width c.count_run.ensures.before)

pub returns-in-Count-clause-after : goal.returns-in-Count-clause-after
returns-in-Count-clause-after c =
    let by = c.args.by.now in
    let kept = members_of c.args.members.now in
    let made = c.count_run.new.after.made in
    counted_later by kept c.args.run.now (take (length by.keys) c.args.key.now) made c.in-Count.is c.requires.run
    (subst (λ (w : ℕ). MakesCountAfter (length (under w (take w c.args.key.now) kept)) c.args.run.now made) c.requires.width c.count_run.ensures.after)
