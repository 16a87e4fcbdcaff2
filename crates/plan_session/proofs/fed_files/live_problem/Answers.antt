use Rattle.std.proofs.Common.{◌<◌, ◌^◌, sym, Err, ap, arith}
use Rattle.plan_json.specs.Accepted.{problem_view}
use Rattle.plan_json.specs.Seen.{domain_view}
use Rattle.plan_ports.specs.Outside.{IsOpened}
use Rattle.plan_session.specs.declared.status.Status.TheVariants as status
use Rattle.plan_session.specs.DueReplay.{feed_line}
use Rattle.plan_session.proofs.DueLiveLaws.{failed_file, live_ended}
use Rattle.plan_session.proofs.EndingLaws.{ended_saying, ended_silent}
use Rattle.plan_session.proofs.ReplayLaws.{due_no_feed}
use Rattle.plan_session.proofs.fed_files.live_problem.Goals as goal

pub returns-in-Err-Memory-clause-ended : goal.returns-in-Err-Memory-clause-ended
returns-in-Err-Memory-clause-ended g c = λ run ready spans. ended_silent _ _

pub returns-in-Err-Failed-clause-ended : goal.returns-in-Err-Failed-clause-ended
returns-in-Err-Failed-clause-ended g c = λ run ready spans.
    let fails = c.in-Err-Failed.ensures.failed (ap (λ fault. Err fault) c.in-Err-Failed.field-0-is) in
    ended_saying _ status.Feed feed_line _ _ _
    (due_no_feed run c.args.files.now g.B.Book.meaning _ (domain_view c.args.domain.now) (problem_view c.args.problem) ready _ _
    spans (rw (sym c.as_slice.ensures) fails))
    c.say.ensures.ended

pub returns-clause-ended : goal.returns-clause-ended
returns-clause-ended g c = λ run ready spans.
    let feed = c.args.files.now.feed in
    let shelf = g.S.Shelf.state c.args.shelf.now in
    let after = g.S.Shelf.state c.close.new.self in
    let file = g.S.File.Source.state c.in-Ok.file in
    let opened : IsOpened feed shelf file = rw (sym c.as_slice.ensures) c.in-Ok.ensures.opens in
    let small : c.args.problem.settings.steps < 2 ^ 64 = omega (arith, c.requires.in_range.steps) in
    live_ended run c.args.files.now c.args.hands g.B.Book.meaning _ (domain_view c.args.domain.now) (problem_view c.args.problem) ready c.requires.live
    shelf after spans file opened c.has_names.ensures c.args.domain.now.named small
    c.drive-driven.result.journal (g.S.File.Source.state c.drive-driven.new.feed) _ _ _
    (failed_file feed shelf (g.S.Shelf.state c.open.new.self) after file (g.S.File.Source.state c.drive-driven.new.feed) opened
    c.in-Ok.ensures.later c.close.ensures.rose)
    c.drive-driven.ensures.drove
