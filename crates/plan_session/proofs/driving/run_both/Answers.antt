use Rattle.std.proofs.Common.{◌≡◌, ◌∙◌, ◌-◌, Result, Ok, Err, IfOk, OnOk, ap, map, subst}
use Rattle.change_inbox.specs.Entries.{shuts_in}
use Rattle.live_posts.specs.Cuts.{taken_by}
use Rattle.live_posts.proofs.Looking.{met_all}
use Rattle.plan_json.specs.Seen.{domain_view}
use Rattle.plan_search.specs.Posed.{Posed}
use Rattle.plan_session.specs.Live.{made_leg}
use Rattle.plan_session.specs.LiveRuns.{AgreesWith, EndsLive, HasNamed, lines_cut}
use Rattle.plan_session.specs.Origins.{origin_state}
use Rattle.plan_session.specs.Posed.{posed_at}
use Rattle.plan_session.specs.Replayed.{feed_of, grounds_of}
use Rattle.plan_session.proofs.LiveLead.{agrees_itself, is_posed_at, led_at, led_breaks, posed_is}
use Rattle.plan_session.proofs.Printed.{later_goes_on}
use Rattle.plan_session.proofs.Stepped.{on_ok}
use Rattle.plan_session.proofs.driving.run_both.Goals as goal

-- what is said of a value where a call succeeded with it
of_ok : {A E : Type 0} (P : A → Type 0) (r : Result A E) (x : A) → r ≡ Ok x → IfOk r P → P x
of_ok {A = A} {E = E} P r x is = subst (λ (one : Result A E). IfOk one P) is

-- what is said where a call succeeded, and it did
met_of_ok : {A E : Type 0} (P : Type 0) (r : Result A E) (x : A) → r ≡ Ok x → OnOk r P → P
met_of_ok {A = A} {E = E} P r x is = subst (λ (one : Result A E). OnOk one P) is

pub returns-in-Err-clause-ended : goal.returns-in-Err-clause-ended
returns-in-Err-clause-ended g c = λ posed start by from named.
    let makes = map (λ m. (goal.MoveMaker-dyn g (m.vtable, m.value)).made m.value) c.args.domain.now.makers.items in
    let domain = domain_view c.args.domain.now in
    let state = origin_state c.args.origin in
    let m = g.B.Book.meaning in
    let settings = c.args.settings.now in
    let ground = grounds_of domain in
    let cuts = taken_by c.meet.new.self in
    let old = g.K.Sink.state c.args.out.now in
    let now = g.K.Sink.state c.halves-fed.new.out in
    let led = led_at ground (posed_at m makes domain settings state) (taken_by c.halves-fed.new.cutter) cuts old now c.halves-fed.result.1 (Err c.in-Err.fault)
    c.meet.ensures.took c.in-Err.is c.halves-fed.ensures.led in
    subst (λ (p : Posed). HasNamed p start old → EndsLive ground p cuts start now (Err c.in-Err.fault)) (posed_is m makes domain settings state posed by from)
    (led_breaks ground (posed_at m makes domain settings state) cuts start old now c.in-Err.fault led) named

pub end_live-ended-requires-clause-made : goal.end_live-ended-requires-clause-made
end_live-ended-requires-clause-made g c κs within =
    let makes = map (λ m. (goal.MoveMaker-dyn g (m.vtable, m.value)).made m.value) c.args.domain.now.makers.items in
    let domain = domain_view c.args.domain.now in
    let state = origin_state c.args.origin in
    let settings = c.args.settings.now in
    let posed = posed_at g.B.Book.meaning makes domain settings state in
    let cuts = taken_by c.halves-fed.new.cutter in
    let takes = lines_cut cuts in
    let steps = of_ok _ c.halves-fed.result.1 c.in-Ok.running c.in-Ok.is c.halves-fed.ensures.steps in (
      makes,
      posed,
      made_leg (feed_of domain) posed takes (settings.steps - 1),
      is_posed_at g.B.Book.meaning makes domain settings state,
      steps takes (agrees_itself cuts),
    )

pub end_live-ended-requires-clause-no_stop : goal.end_live-ended-requires-clause-no_stop
end_live-ended-requires-clause-no_stop g c κs within =
    let makes = map (λ m. (goal.MoveMaker-dyn g (m.vtable, m.value)).made m.value) c.args.domain.now.makers.items in
    let domain = domain_view c.args.domain.now in
    let posed = posed_at g.B.Book.meaning makes domain c.args.settings.now (origin_state c.args.origin) in
    let led = led_at (grounds_of domain) posed (taken_by c.halves-fed.new.cutter) (taken_by c.meet.new.self) (g.K.Sink.state c.args.out.now) (g.K.Sink.state c.halves-fed.new.out)
    c.halves-fed.result.1 (Ok c.in-Ok.running) c.meet.ensures.took c.in-Ok.is c.halves-fed.ensures.led in
    led.no_stop

pub returns-clause-ended : goal.returns-clause-ended
returns-clause-ended g c = λ posed start by from named.
    let makes = map (λ m. (goal.MoveMaker-dyn g (m.vtable, m.value)).made m.value) c.args.domain.now.makers.items in
    let domain = domain_view c.args.domain.now in
    let state = origin_state c.args.origin in
    let m = g.B.Book.meaning in
    let settings = c.args.settings.now in
    let ground = grounds_of domain in
    let asked = posed_at m makes domain settings state in
    let old = g.K.Sink.state c.args.out.now in
    let now = g.K.Sink.state c.halves-fed.new.out in
    let took = c.meet.ensures.took in
    let led = led_at ground asked (taken_by c.halves-fed.new.cutter) (taken_by c.meet.new.self) old now c.halves-fed.result.1 (Ok c.in-Ok.running)
    took c.in-Ok.is c.halves-fed.ensures.led in
    let steps = of_ok _ c.halves-fed.result.1 c.in-Ok.running c.in-Ok.is c.halves-fed.ensures.steps in
    subst (λ (p : Posed). HasNamed p start old → EndsLive ground p (taken_by c.end_live-ended.new.cutter) start (g.K.Sink.state c.end_live-ended.new.out) c.end_live-ended.result)
    (posed_is m makes domain settings state posed by from)
    (λ first. c.end_live-ended.ensures.ended makes asked start (is_posed_at m makes domain settings state)
    (λ takes agrees. (led.printed takes agrees start first, steps takes (subst (AgreesWith takes) took agrees)))
    (later_goes_on start old now first.later led.later))
    named

pub returns-clause-all : goal.returns-clause-all
returns-clause-all g c =
    on_ok c.end_live-ended.result _
    (met_all c.halves-fed.new.feeder c.meet.new.other c.meet.new.self c.end_live-ended.new.cutter c.meet.ensures.other c.meet.ensures.met c.end_live-ended.ensures.all)

pub returns-clause-unshut : goal.returns-clause-unshut
returns-clause-unshut g c =
    let led = met_of_ok _ c.halves-fed.result.1 c.in-Ok.running c.in-Ok.is c.halves-fed.ensures.unshut in
    on_ok c.end_live-ended.result _ (c.end_live-ended.ensures.shuts ∙ ap shuts_in c.meet.ensures.own ∙ led)
