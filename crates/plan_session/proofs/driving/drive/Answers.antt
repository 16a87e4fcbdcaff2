use Rattle.std.proofs.Common.{◌≡◌, ◌∙◌, Err, None, Some, map, refl, sym, ap, subst}
use Rattle.change_inbox.specs.Entries.{shuts_in}
use Rattle.change_inbox.specs.Seats.{InboxView, own_of}
use Rattle.change_inbox.specs.declared.knowledge.Limits.{Limits}
use Rattle.live_posts.specs.Cuts.{taken_by, takes}
use Rattle.plan_json.specs.Accepted.{problem_view}
use Rattle.plan_json.specs.Seen.{domain_view}
use Rattle.plan_session.specs.LiveFaults.{live_fault, status_of_end}
use Rattle.plan_session.specs.LiveRuns.{Drove}
use Rattle.plan_session.specs.declared.live_fault.LiveFault.{LiveFault}
use Rattle.plan_session.specs.Posed.{posed_in}
use Rattle.plan_session.specs.Replayed.{grounds_of}
use Rattle.plan_session.proofs.DriveLaws.{drove, drove_first, drove_nowhere}
use Rattle.plan_session.proofs.LiveFronts.{front_none}
use Rattle.plan_session.proofs.Posing.{is_posed}
use Rattle.plan_session.proofs.driving.drive.Goals as goal

pub returns-in_default-clause-drove : goal.returns-in_default-clause-drove
returns-in_default-clause-drove g c =
    let makes = map (λ m. (goal.MoveMaker-dyn g (m.vtable, m.value)).made m.value) c.args.domain.now.makers.items in
    let domain = domain_view c.args.domain.now in
    let posed = posed_in g.B.Book.meaning makes domain (problem_view c.args.problem) in
    drove_nowhere (grounds_of domain) posed None refl (g.R.Source.state c.args.feed.now) (g.R.Source.state c.args.feed.now) (g.K.Sink.state c.args.out.now) (g.K.Sink.state c.args.out.now)
    (front_none _ (g.K.Sink.state c.args.out.now))

pub returns-in-Err-clause-drove : goal.returns-in-Err-clause-drove
returns-in-Err-clause-drove g c =
    let makes = map (λ m. (goal.MoveMaker-dyn g (m.vtable, m.value)).made m.value) c.args.domain.now.makers.items in
    let domain = domain_view c.args.domain.now in
    let posed = posed_in g.B.Book.meaning makes domain (problem_view c.args.problem) in
    let by = grounds_of domain in
    let journal = c.close_run.result in
    let feed = g.R.Source.state c.args.feed.now in
    let old = g.K.Sink.state c.args.out.now in
    let new = g.K.Sink.state c.print_run.new.out in
    let prints = c.in-Err.ensures.prints in
    let is : c.status_of_end.result ≡ status_of_end (Err (live_fault c.in-Err.fault)) =
    c.status_of_end.ensures ∙ ap (λ (fault : LiveFault). status_of_end (Err fault)) c.from.ensures in
    subst (Drove by posed (Some journal) feed feed old new) (sym is)
    (drove_first by posed (Some journal) (takes journal, refl) feed feed old new prints.front refl c.in-Err.fault (λ written. prints.failed (ap Err written)))

pub returns-clause-drove : goal.returns-clause-drove
returns-clause-drove g c =
    let makes = map (λ m. (goal.MoveMaker-dyn g (m.vtable, m.value)).made m.value) c.args.domain.now.makers.items in
    let domain = domain_view c.args.domain.now in
    let posed = posed_in g.B.Book.meaning makes domain (problem_view c.args.problem) in
    let by = grounds_of domain in
    let ran = c.run_live-ended in
    let closed = c.close_run-journal in
    let before = g.R.Source.state c.args.feed.now in
    let after = g.R.Source.state ran.new.feed in
    let old = g.K.Sink.state c.args.out.now in
    let new = g.K.Sink.state ran.new.out in
    let prints = c.in_default-print_run.ensures.prints in
    let ended = ran.ensures.ended posed old (is_posed g.B.Book.meaning makes domain (problem_view c.args.problem)) refl (record { wrote = prints.whole; later = prints.later }) in
    subst (Drove by posed (Some closed.result) before after old new) (sym c.status_of_end-2.ensures)
    (drove by posed (taken_by ran.new.cutter) (shuts_in (own_of ran.new.cutter)) ran.result.0 ran.new.feeder closed.result before after old new ran.ensures.fed (record {
      posts = closed.ensures.posts;
      takes_are = closed.ensures.takes;
      front = closed.ensures.front;
      all = closed.ensures.all;
      shuts_are = closed.ensures.shuts;
      seen = closed.ensures.feeder.0;
      room = ap (λ (inbox : InboxView). inbox.limits.posts) ran.ensures.feeder.0 ∙ ap (λ (limits : Limits). limits.posts) c.in-Ok.ensures.limits;
    }) ran.result.1 ended ran.ensures.all ran.ensures.unshut)
