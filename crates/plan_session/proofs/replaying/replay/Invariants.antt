use Rattle.std.proofs.Common.{◌≡◌, ◌≤◌, [], false, map, suc}
use Rattle.plan_rules.specs.Range.{MayJudge, sizes_of}
use Rattle.plan_json.specs.Accepted.{problem_view}
use Rattle.plan_json.specs.Seen.{domain_view}
use Rattle.plan_ports.specs.Outside.{LaterSink, Wrote}
use Rattle.plan_session.specs.Course.{IsQuiet}
use Rattle.plan_session.specs.Fed.{legs_to, newest}
use Rattle.plan_session.specs.Live.{IsLive, text_to}
use Rattle.plan_session.specs.Posed.{posed_in}
use Rattle.plan_session.specs.Replayed.{IsPlaceAt, feed_of, lines_at}
use Rattle.plan_session.proofs.replaying.replay.Given as goal

-- the run is in course behind the boundary after the steps so far, and what it prints up to there is printed
abbrev pub invariant-steps : goal.invariant-steps
invariant-steps g l =
    let makes = map (λ m. (goal.MoveMaker-dyn g (m.vtable, m.value)).made m.value) l.fn.domain.makers.items in
    let domain = domain_view l.fn.domain in
    let posed = posed_in g.B.Book.meaning makes domain (problem_view l.fn.problem) in
    let takes = lines_at l.fn.posts l.fn.bounds in
    record {
      place : IsPlaceAt l.fn.bounds (suc l.step) l.at;
      live : IsLive l.running.core l.running.team.worker l.running.best l.running.names posed (suc l.step) (newest posed (legs_to (feed_of domain) posed takes l.step));
      within : l.step ≤ l.fn.problem.settings.steps;
      judges : MayJudge l.fn.domain.rules.defs l.fn.domain.rules.caps l.running.team.worker.director.weights (sizes_of l.running.team.worker.director.plan);
      whole : l.running.team.is_torn ≡ false;
      quiet : IsQuiet l.running.core;
      workers : l.running.workers ≡ 1;
      empty : l.buffer.items ≡ [];
      wrote : Wrote (text_to (feed_of domain) posed takes l.step) (g.K.Sink.state l.fn.out) (g.K.Sink.state l.out);
      later : LaterSink (g.K.Sink.state l.fn.out) (g.K.Sink.state l.out);
    }
