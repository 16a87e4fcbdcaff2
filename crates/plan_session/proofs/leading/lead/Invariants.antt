use Rattle.std.proofs.Common.{◌≡◌, ◌≤◌, ◌-◌, [], false, length, map}
use Rattle.change_inbox.specs.Entries.{shuts_in}
use Rattle.change_inbox.specs.Seats.{own_of}
use Rattle.live_posts.specs.Cuts.{taken_by}
use Rattle.plan_json.specs.Seen.{domain_view}
use Rattle.plan_ports.specs.Outside.{LaterSink, SinkState, Wrote}
use Rattle.plan_rules.specs.Range.{MayJudge, sizes_of}
use Rattle.plan_search.specs.Posed.{Posed}
use Rattle.plan_session.specs.Begun.{IsPosedBy}
use Rattle.plan_session.specs.Course.{IsQuiet}
use Rattle.plan_session.specs.Fed.{legs_to, newest}
use Rattle.plan_session.specs.Live.{IsLive, text_to}
use Rattle.plan_session.specs.LiveRuns.{AreInOrder, ForCuts, HasNamed, HasNoStop}
use Rattle.plan_session.specs.Origins.{origin_state}
use Rattle.plan_session.specs.Replayed.{feed_of}
use Rattle.plan_session.proofs.leading.lead.Given as goal

-- so many boundaries were cut, the leg behind the last one is in course, and what a run prints up to there is printed
abbrev pub invariant-steps : goal.invariant-steps
invariant-steps g l =
    let makes = map (λ m. (goal.MoveMaker-dyn g (m.vtable, m.value)).made m.value) l.fn.domain.makers.items in
    let domain = domain_view l.fn.domain in
    let m = g.B.Book.meaning in
    let cuts = taken_by l.cutter in
    record {
      some : 1 ≤ l.step;
      within : l.step ≤ l.fn.settings.steps;
      count : length cuts ≡ l.step;
      in_order : AreInOrder cuts;
      no_stop : HasNoStop cuts;
      live : ForCuts cuts (λ takes. (posed : Posed) → IsPosedBy m makes domain l.fn.settings posed → origin_state l.fn.origin ≡ posed.origin
          → IsLive l.running.core l.running.team.worker l.running.best l.running.names posed l.step (newest posed (legs_to (feed_of domain) posed takes (l.step - 1))));
      wrote : ForCuts cuts (λ takes. (posed : Posed) (start : SinkState) → IsPosedBy m makes domain l.fn.settings posed → origin_state l.fn.origin ≡ posed.origin
          → HasNamed posed start (g.K.Sink.state l.fn.out) → Wrote (text_to (feed_of domain) posed takes (l.step - 1)) start (g.K.Sink.state l.out));
      later : LaterSink (g.K.Sink.state l.fn.out) (g.K.Sink.state l.out);
      judges : MayJudge l.fn.domain.rules.defs l.fn.domain.rules.caps l.running.team.worker.director.weights (sizes_of l.running.team.worker.director.plan);
      whole : l.running.team.is_torn ≡ false;
      quiet : IsQuiet l.running.core;
      workers : l.running.workers ≡ l.fn.hands.workers;
      empty : l.buffer.items ≡ [];
      shuts : shuts_in (own_of l.cutter) ≡ shuts_in (own_of l.fn.cutter);
      inbox : l.cutter.inbox ≡ l.fn.inbox;
      number : l.cutter.number ≡ l.fn.cutter.number;
    }
