use Rattle.std.proofs.Common.{◌∙◌, Some, Err, sym, ap}
use Rattle.plan_ports.specs.Outside.{Holds}
use Rattle.plan_json.specs.Accepted.{problem_view}
use Rattle.plan_json.specs.Seen.{domain_view}
use Rattle.plan_session.specs.declared.status.Status.TheVariants as status
use Rattle.plan_session.specs.DueReplay.{journal_line, source_line}
use Rattle.plan_session.proofs.EndingLaws.{ended_saying, ended_silent}
use Rattle.plan_session.proofs.ReplayLaws.{due_journal, due_no_journal}
use Rattle.plan_session.proofs.ShelfLaws.{held_before, journal_long}
use Rattle.plan_session.proofs.replay_files.replay_lines.Goals as goal

pub returns-in-Ok-clause-ended : goal.returns-in-Ok-clause-ended
returns-in-Ok-clause-ended g c = λ run ready fed spans.
    let shelf = g.S.Shelf.state c.args.shelf.now in
    let held : Holds shelf c.args.journal.now c.deref.result.now =
    λ told.
    ap (λ name. shelf.bytes_of name) (sym c.as_slice.ensures) ∙ c.in-Ok.ensures.bytes told
    ∙ ap (λ bytes. Some bytes) (sym c.deref.ensures.value) in
    c.replay_journal.ensures.ended run c.args.files.now c.args.journal.now ready c.requires.again fed
    (held_before run.shelf shelf c.args.journal.now c.deref.result.now spans.later held)

pub returns-in-Err-Memory-clause-ended : goal.returns-in-Err-Memory-clause-ended
returns-in-Err-Memory-clause-ended g c = λ run ready fed spans. ended_silent _ _

pub returns-in-Err-Failed-clause-ended : goal.returns-in-Err-Failed-clause-ended
returns-in-Err-Failed-clause-ended g c = λ run ready fed spans.
    let fails = c.in-Err-Failed.ensures.failed (ap (λ fault. Err fault) c.in-Err-Failed.field-0-is) in
    ended_saying _ status.Source source_line _ _ _
    (due_no_journal run c.args.files.now g.B.Book.meaning _ (domain_view c.args.domain.now) (problem_view c.args.problem) ready
    c.args.journal.now c.args.posts.now _ _ c.requires.again fed spans (rw (sym c.as_slice.ensures) fails))
    c.say.ensures.ended

pub returns-clause-ended : goal.returns-clause-ended
returns-clause-ended g c = λ run ready fed spans.
    let shelf = g.S.Shelf.state c.args.shelf.now in
    let long = c.in-Err-TooLong.ensures.too_long (ap (λ fault. Err fault) c.in-Err-TooLong.field-0-is) in
    let held : Holds shelf c.args.journal.now long.0 =
    λ told. ap (λ name. shelf.bytes_of name) (sym c.as_slice.ensures) ∙ long.1 told in
    ended_saying _ status.Journal (journal_line 0) _ _ _
    (due_journal run c.args.files.now g.B.Book.meaning _ (domain_view c.args.domain.now) (problem_view c.args.problem) ready
    c.args.journal.now c.args.posts.now 0 c.requires.again fed
    (journal_long run.shelf c.args.journal.now long.0 _ _
    (held_before run.shelf shelf c.args.journal.now long.0 spans.later held) long.2))
    c.refuse_journal.ensures.ended
