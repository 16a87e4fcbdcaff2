use Rattle.std.proofs.Common.{◌∙◌, Ok, Err, length, sym, ap}
use Rattle.plan_json.specs.Accepted.{problem_view}
use Rattle.plan_json.specs.Seen.{domain_view}
use Rattle.plan_session.specs.declared.status.Status.TheVariants as status
use Rattle.plan_session.specs.DueReplay.{journal_line}
use Rattle.plan_session.proofs.EndingLaws.{ended_saying, ended_silent}
use Rattle.plan_session.proofs.ReplayLaws.{due_journal, due_replayed}
use Rattle.plan_session.proofs.ShelfLaws.{journal_says}
use Rattle.plan_session.proofs.replay_files.replay_journal.Goals as goal

pub returns-in-Ok-clause-ended : goal.returns-in-Ok-clause-ended
returns-in-Ok-clause-ended g c = λ run files journal ready again fed held.
    ended_saying _ status.Ok _ _ _ _
    (due_replayed run files g.B.Book.meaning _ (domain_view c.args.domain.now) (problem_view c.args.problem) ready
    journal c.args.posts.now c.as_slice-bounds.result.now again fed
    (journal_says run.shelf journal c.args.bytes.now (length c.args.posts.now) c.args.problem.settings.steps
    (Ok c.as_slice-bounds.result.now) held c.requires.short
    (c.in-Ok.ensures.bounds ∙ ap (λ bounds. Ok bounds) (sym c.as_slice-bounds.ensures))))
    (c.status_of.ensures _ _ _ c.replay.ensures)

pub returns-in-Err-Memory-clause-ended : goal.returns-in-Err-Memory-clause-ended
returns-in-Err-Memory-clause-ended g c = λ run files journal ready again fed held. ended_silent _ _

pub returns-clause-ended : goal.returns-clause-ended
returns-clause-ended g c = λ run files journal ready again fed held.
    ended_saying _ status.Journal (journal_line c.in-Err-Line.line) _ _ _
    (due_journal run files g.B.Book.meaning _ (domain_view c.args.domain.now) (problem_view c.args.problem) ready
    journal c.args.posts.now c.in-Err-Line.line again fed
    (journal_says run.shelf journal c.args.bytes.now (length c.args.posts.now) c.args.problem.settings.steps
    (Err c.in-Err-Line.line) held c.requires.short
    (c.in-Err-Line.ensures.line c.in-Err-Line.line (ap (λ fault. Err fault) c.in-Err-Line.field-0-is))))
    c.refuse_journal.ensures.ended
