use Rattle.std.proofs.Common.{Err, sym, ap}
use Rattle.plan_json.specs.Accepted.{problem_view}
use Rattle.plan_json.specs.Seen.{domain_view}
use Rattle.plan_session.specs.declared.status.Status.TheVariants as status
use Rattle.plan_session.specs.DueReplay.{feed_line}
use Rattle.plan_session.specs.Sources.{HoldsFeed}
use Rattle.plan_session.proofs.EndingLaws.{ended_saying, ended_silent}
use Rattle.plan_session.proofs.ReplayLaws.{due_no_feed, due_overlong}
use Rattle.plan_session.proofs.ShelfLaws.{feed_before, spans_on}
use Rattle.plan_session.proofs.replay_files.replay_problem.Goals as goal

pub returns-in-Ok-clause-ended : goal.returns-in-Ok-clause-ended
returns-in-Ok-clause-ended g c = λ run ready spans.
    let shelf = g.S.Shelf.state c.args.shelf.now in
    let fed : HoldsFeed shelf c.args.files.now.feed c.deref.result.now =
    rw (sym c.as_slice.ensures, c.deref.ensures.value) c.in-Ok.ensures.feed in
    c.replay_lines.ensures.ended run ready
    (feed_before run.shelf shelf c.args.files.now.feed c.deref.result.now spans.later fed)
    (spans_on run shelf _ _ spans c.in-Ok.ensures.later)

pub returns-in-Err-Memory-clause-ended : goal.returns-in-Err-Memory-clause-ended
returns-in-Err-Memory-clause-ended g c = λ run ready spans. ended_silent _ _

pub returns-in-Err-ReadFault-clause-ended : goal.returns-in-Err-ReadFault-clause-ended
returns-in-Err-ReadFault-clause-ended g c = λ run ready spans.
    let fails = c.in-Err-ReadFault.ensures.failed (ap (λ fault. Err fault) c.in-Err-ReadFault.field-0-is) in
    ended_saying _ status.Feed feed_line _ _ _
    (due_no_feed run c.args.files.now g.B.Book.meaning _ (domain_view c.args.domain.now) (problem_view c.args.problem) ready _ _
    spans (rw (sym c.as_slice.ensures) fails))
    c.say.ensures.ended

pub returns-clause-ended : goal.returns-clause-ended
returns-clause-ended g c = λ run ready spans.
    let overlong = c.in-Err-Overrun.ensures.overlong (ap (λ fault. Err fault) c.in-Err-Overrun.field-0-is) in
    ended_saying _ status.FeedTooLong feed_line _ _ _
    (due_overlong run c.args.files.now g.B.Book.meaning _ (domain_view c.args.domain.now) (problem_view c.args.problem) ready _ _
    spans (rw (sym c.as_slice.ensures) overlong))
    c.say-in-Err-Overrun.ensures.ended
