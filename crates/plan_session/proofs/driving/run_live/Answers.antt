use Rattle.std.proofs.Common.{map}
use Rattle.live_posts.proofs.Looking.{met_all}
use Rattle.plan_session.proofs.Stepped.{on_ok}
use Rattle.plan_session.proofs.driving.run_live.Goals as goal

pub returns-clause-ended : goal.returns-clause-ended
returns-clause-ended g c = λ posed start by origin named.
    let makes = map (λ m. (goal.MoveMaker-dyn g (m.vtable, m.value)).made m.value) c.args.domain.now.makers.items in
    c.run_at_once-ended.ensures.ended makes posed start by origin named

pub returns-clause-all : goal.returns-clause-all
returns-clause-all g c =
    on_ok c.run_at_once-ended.result _
    (met_all c.feed_all-fed.new.seat c.meet.new.other c.meet.new.self c.run_at_once-ended.new.cutter c.meet.ensures.other c.meet.ensures.met c.run_at_once-ended.ensures.all)
