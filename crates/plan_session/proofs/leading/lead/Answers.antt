use Rattle.std.proofs.Common.{◌≡◌, ◌∙◌, ◌≤◌, ◌+◌, ◌-◌, ◌∷◌, ◌++◌, [], List, ℕ, Err, length, map, suc, take, refl, sym, ap, subst, arith}
use Rattle.std.proofs.lemmas.List.{append_assoc, length-append}
use Rattle.live_lines.specs.Taking.{Taken}
use Rattle.live_posts.specs.Cuts.{Take, take_at, taken_by}
use Rattle.plan_json.specs.Seen.{domain_view}
use Rattle.plan_ports.specs.Outside.{Wrote, WroteFront}
use Rattle.plan_reports.specs.declared.line.Line.TheVariants as line
use Rattle.plan_search.specs.RunLines.{text_of}
use Rattle.plan_settings.specs.declared.settings.Settings.{Settings}
use Rattle.plan_session.specs.Course.{BareLeg, gone_on, step_text}
use Rattle.plan_session.specs.Fed.{fed_text, legs_to, newest}
use Rattle.plan_session.specs.Live.{IsLive, IsLiveMade, leg_behind, made_leg, opening_text, text_behind, text_made, text_to}
use Rattle.plan_session.specs.LiveRuns.{AgreesWith, AreInOrder, lines_cut}
use Rattle.plan_session.specs.Origins.{origin_state}
use Rattle.plan_session.specs.Replayed.{feed_of}
use Rattle.plan_session.specs.declared.live_fault.LiveFault.TheVariants.{Stopped, Write}
use Rattle.plan_session.specs.Posed.{posed_at}
use Rattle.plan_session.proofs.LiveCuts.{agrees_before, in_order_more}
use Rattle.plan_session.proofs.LiveFronts.{front_then, no_stop_printing, on_err_some, same_fault, write_printing, wrote_then}
use Rattle.plan_session.proofs.LiveLead.{agrees_itself, agrees_least, for_all_cuts, is_posed_at}
use Rattle.plan_session.proofs.LiveTexts.{front_cut, front_step, front_to, leg_then_cut, made_at, made_then_cut, named_then_opened, step_at}
use Rattle.plan_session.proofs.Printed.{fails_since, later_goes_on}
use Rattle.plan_session.proofs.leading.lead.Goals as goal

pub begin_live-requires-clause-room : goal.begin_live-requires-clause-room
begin_live-requires-clause-room g c κs within = omega (arith, c.requires.room)

pub returns-in_err-running-clause-few : goal.returns-in_err-running-clause-few
returns-in_err-running-clause-few g c =
    let cut = c.in_err-running.ensures.cut in
    let one = ap (λ (cuts : List (Take _)). length cuts) cut.1 in
    omega (arith, one, c.requires.some)

pub returns-in_err-running-clause-in_order : goal.returns-in_err-running-clause-in_order
returns-in_err-running-clause-in_order g c = subst AreInOrder (sym c.in_err-running.ensures.cut.1) refl

pub returns-in_err-running-clause-stopped : goal.returns-in_err-running-clause-stopped
returns-in_err-running-clause-stopped g c = λ cause of.
    c.in_err-running.ensures.stopped cause (ap Err (same_fault c.from_residual.result c.in_err-running.field-0.0 (Stopped cause) c.from_residual.ensures.1 of))

pub returns-in_err-running-clause-failed : goal.returns-in_err-running-clause-failed
returns-in_err-running-clause-failed g c = λ of.
    c.in_err-running.ensures.failed (ap Err (same_fault c.from_residual.result c.in_err-running.field-0.0 Write c.from_residual.ensures.1 of))

pub returns-in_err-running-clause-broken : goal.returns-in_err-running-clause-broken
returns-in_err-running-clause-broken g c =
    let feed = feed_of (domain_view c.args.domain.now) in
    let makes = map (λ m. (goal.MoveMaker-dyn g (m.vtable, m.value)).made m.value) c.args.domain.now.makers.items in
    let broken = c.in_err-running.ensures.broken in
    on_err_some c.from_residual.result (record {
      count = broken.count;
      enough = broken.enough;
      quiet = broken.quiet;
      holds = λ takes agrees posed start by origin named.
          let front = front_to feed posed takes 0 (omega arith) in
          front_then (text_of posed (line.Run posed.name ∷ [])) (opening_text feed posed 0 (takes 0) posed.origin) front.0 _ start (g.K.Sink.state c.args.out.now) (g.K.Sink.state c.begin_live.new.out)
          (sym (append_assoc (text_of posed (line.Run posed.name ∷ [])) (opening_text feed posed 0 (takes 0) posed.origin) front.0)
          ∙ ap (λ (text : List ℕ). text ++ front.0) (named_then_opened feed posed takes) ∙ front.1)
          named.wrote named.later (broken.holds takes agrees makes posed by origin);
    })

pub steps-init : goal.steps-init
steps-init g c =
    let feed = feed_of (domain_view c.args.domain.now) in
    let makes = map (λ m. (goal.MoveMaker-dyn g (m.vtable, m.value)).made m.value) c.args.domain.now.makers.items in
    let done = c.in_ok-running.ensures in
    let one = ap (λ (cuts : List (Take _)). length cuts) done.cut.1 in
    record {
      some = omega arith;
      within = c.requires.some;
      count = one;
      in_order = subst AreInOrder (sym done.cut.1) refl;
      no_stop = done.no_stop;
      live = λ takes agrees posed by origin. done.live takes agrees makes posed by origin;
      wrote = λ takes agrees posed start by origin named.
          wrote_then (text_of posed (line.Run posed.name ∷ [])) (opening_text feed posed 0 (takes 0) posed.origin) _ start (g.K.Sink.state c.args.out.now) (g.K.Sink.state c.begin_live.new.out)
          (named_then_opened feed posed takes) named.wrote named.later (done.printed takes agrees makes posed by origin);
      later = done.later;
      judges = done.judges.1;
      whole = done.whole;
      quiet = done.quiet;
      workers = done.workers;
      empty = done.emptied;
      shuts = done.shuts;
      inbox = done.seat.0;
      number = done.seat.1;
    }

pub advance-requires-clause-live : goal.advance-requires-clause-live
advance-requires-clause-live g c κs within =
    let feed = feed_of (domain_view c.args.domain.now) in
    let makes = map (λ m. (goal.MoveMaker-dyn g (m.vtable, m.value)).made m.value) c.args.domain.now.makers.items in
    let m = g.B.Book.meaning in
    let domain = domain_view c.args.domain.now in
    let posed = posed_at m makes domain c.args.settings.now (origin_state c.args.origin) in
    let by = is_posed_at m makes domain c.args.settings.now (origin_state c.args.origin) in
    let cuts = taken_by c.steps.cutter in
    (posed, newest posed (legs_to feed posed (lines_cut cuts) (c.steps.step - 1)), by, c.steps.invariant.live (lines_cut cuts) (agrees_itself cuts) posed by refl)

pub returns-in_err-running-2-clause-few : goal.returns-in_err-running-2-clause-few
returns-in_err-running-2-clause-few g c = omega (arith, c.steps.invariant.count, c.steps.invariant.within)

pub returns-in_err-running-2-clause-stopped : goal.returns-in_err-running-2-clause-stopped
returns-in_err-running-2-clause-stopped g c = λ cause of.
    absurd (no_stop_printing c.in_err-running-2.field-0.0 cause (same_fault c.from_residual-in_err-running-2.result _ (Stopped cause) c.from_residual-in_err-running-2.ensures.1 of))

pub returns-in_err-running-2-clause-failed : goal.returns-in_err-running-2-clause-failed
returns-in_err-running-2-clause-failed g c = λ of.
    let feed = feed_of (domain_view c.args.domain.now) in
    let makes = map (λ m. (goal.MoveMaker-dyn g (m.vtable, m.value)).made m.value) c.args.domain.now.makers.items in
    let m = g.B.Book.meaning in
    let domain = domain_view c.args.domain.now in
    let l = c.steps in
    let cuts = taken_by l.cutter in
    let posed = posed_at m makes domain c.args.settings.now (origin_state c.args.origin) in
    let by = is_posed_at m makes domain c.args.settings.now (origin_state c.args.origin) in
    let leg = newest posed (legs_to feed posed (lines_cut cuts) (l.step - 1)) in
    let live = l.invariant.live (lines_cut cuts) (agrees_itself cuts) posed by refl in
    let is = write_printing c.in_err-running-2.field-0.0 (same_fault c.from_residual-in_err-running-2.result _ Write c.from_residual-in_err-running-2.ensures.1 of) in
    fails_since (g.K.Sink.state c.args.out.now) (g.K.Sink.state l.out) (g.K.Sink.state c.advance.new.out) l.invariant.later
    ((c.in_err-running-2.ensures.prints posed leg by live).failed (ap Err is))

pub returns-in_err-running-2-clause-later : goal.returns-in_err-running-2-clause-later
returns-in_err-running-2-clause-later g c =
    let feed = feed_of (domain_view c.args.domain.now) in
    let makes = map (λ m. (goal.MoveMaker-dyn g (m.vtable, m.value)).made m.value) c.args.domain.now.makers.items in
    let m = g.B.Book.meaning in
    let domain = domain_view c.args.domain.now in
    let l = c.steps in
    let cuts = taken_by l.cutter in
    let posed = posed_at m makes domain c.args.settings.now (origin_state c.args.origin) in
    let by = is_posed_at m makes domain c.args.settings.now (origin_state c.args.origin) in
    let leg = newest posed (legs_to feed posed (lines_cut cuts) (l.step - 1)) in
    let live = l.invariant.live (lines_cut cuts) (agrees_itself cuts) posed by refl in
    later_goes_on (g.K.Sink.state c.args.out.now) (g.K.Sink.state l.out) (g.K.Sink.state c.advance.new.out) l.invariant.later
    (c.in_err-running-2.ensures.prints posed leg by live).later

pub returns-in_err-running-2-clause-broken : goal.returns-in_err-running-2-clause-broken
returns-in_err-running-2-clause-broken g c =
    let feed = feed_of (domain_view c.args.domain.now) in
    let makes = map (λ m. (goal.MoveMaker-dyn g (m.vtable, m.value)).made m.value) c.args.domain.now.makers.items in
    let m = g.B.Book.meaning in
    let domain = domain_view c.args.domain.now in
    let l = c.steps in
    let cuts = taken_by l.cutter in
    on_err_some c.from_residual-in_err-running-2.result
    (for_all_cuts 0 cuts (omega arith) l.invariant.no_stop
    (λ takes agrees posed start by origin named.
    let leg = newest posed (legs_to feed posed takes (l.step - 1)) in
    let within = subst (λ (s : Settings). l.step ≤ s.steps) by.settings_are l.invariant.within in
    let front = front_step feed posed takes l.step l.invariant.some within in
    front_then (text_to feed posed takes (l.step - 1)) (step_text posed l.step leg) front.0 (fed_text feed posed takes)
    start (g.K.Sink.state l.out) (g.K.Sink.state c.advance.new.out) front.1
    (l.invariant.wrote takes agrees posed start by origin named)
    (later_goes_on start (g.K.Sink.state c.args.out.now) (g.K.Sink.state l.out) named.later l.invariant.later)
    (c.in_err-running-2.ensures.prints posed leg by (l.invariant.live takes agrees posed by origin)).front))

pub cut_live-requires-clause-made : goal.cut_live-requires-clause-made
cut_live-requires-clause-made g c κs within =
    let feed = feed_of (domain_view c.args.domain.now) in
    let makes = map (λ m. (goal.MoveMaker-dyn g (m.vtable, m.value)).made m.value) c.args.domain.now.makers.items in
    let m = g.B.Book.meaning in
    let domain = domain_view c.args.domain.now in
    let l = c.steps in
    let cuts = taken_by l.cutter in
    let posed = posed_at m makes domain c.args.settings.now (origin_state c.args.origin) in
    let by = is_posed_at m makes domain c.args.settings.now (origin_state c.args.origin) in
    let leg = newest posed (legs_to feed posed (lines_cut cuts) (l.step - 1)) in
    let live = l.invariant.live (lines_cut cuts) (agrees_itself cuts) posed by refl in
    (makes, posed, gone_on posed l.step leg, by, c.in_ok-running-2.ensures.made posed leg by live)

pub cut_live-requires-clause-room : goal.cut_live-requires-clause-room
cut_live-requires-clause-room g c κs within = omega (arith, c.requires.room, c.steps.invariant.within)

pub cut_live-requires-clause-last : goal.cut_live-requires-clause-last
cut_live-requires-clause-last g c κs within = ap (λ (n : ℕ). n + 1) c.steps.invariant.number ∙ c.requires.last

pub cut_live-requires-clause-workers : goal.cut_live-requires-clause-workers
cut_live-requires-clause-workers g c κs within = subst (λ (n : ℕ). (1 ≤ n) × (n ≤ 16)) (sym (c.in_ok-running-2.ensures.workers ∙ c.steps.invariant.workers)) (c.requires.hands.0, c.requires.hands.1)

pub returns-in_err-running-3-clause-few : goal.returns-in_err-running-3-clause-few
returns-in_err-running-3-clause-few g c =
    let cuts = taken_by c.steps.cutter in
    let cut = c.in_err-running-3.ensures.cut in
    let more = ap (λ (all : List (Take _)). length all) cut.1 in
    omega (arith, more, length-append cuts (take_at c.steps.step cut.0 ∷ []), c.steps.invariant.count, c.steps-test.true)

pub returns-in_err-running-3-clause-in_order : goal.returns-in_err-running-3-clause-in_order
returns-in_err-running-3-clause-in_order g c =
    let cut = c.in_err-running-3.ensures.cut in
    subst AreInOrder (sym cut.1) (in_order_more (taken_by c.steps.cutter) c.steps.step cut.0 c.steps.invariant.count c.steps.invariant.in_order)

pub returns-in_err-running-3-clause-stopped : goal.returns-in_err-running-3-clause-stopped
returns-in_err-running-3-clause-stopped g c = λ cause of.
    c.in_err-running-3.ensures.stopped cause
    (ap Err (same_fault c.from_residual-in_err-running-3.result c.in_err-running-3.field-0.0 (Stopped cause) c.from_residual-in_err-running-3.ensures.1 of))

pub returns-in_err-running-3-clause-failed : goal.returns-in_err-running-3-clause-failed
returns-in_err-running-3-clause-failed g c = λ of.
    let feed = feed_of (domain_view c.args.domain.now) in
    let makes = map (λ m. (goal.MoveMaker-dyn g (m.vtable, m.value)).made m.value) c.args.domain.now.makers.items in
    let m = g.B.Book.meaning in
    let domain = domain_view c.args.domain.now in
    let l = c.steps in
    let cuts = taken_by l.cutter in
    let posed = posed_at m makes domain c.args.settings.now (origin_state c.args.origin) in
    let by = is_posed_at m makes domain c.args.settings.now (origin_state c.args.origin) in
    let leg = newest posed (legs_to feed posed (lines_cut cuts) (l.step - 1)) in
    let live = l.invariant.live (lines_cut cuts) (agrees_itself cuts) posed by refl in
    let printed = c.in_ok-running-2.ensures.prints posed leg by live in
    fails_since (g.K.Sink.state c.args.out.now) (g.K.Sink.state c.advance.new.out) (g.K.Sink.state c.cut_live.new.out)
    (later_goes_on (g.K.Sink.state c.args.out.now) (g.K.Sink.state l.out) (g.K.Sink.state c.advance.new.out) l.invariant.later printed.later)
    (c.in_err-running-3.ensures.failed (ap Err (same_fault c.from_residual-in_err-running-3.result c.in_err-running-3.field-0.0 Write c.from_residual-in_err-running-3.ensures.1 of)))

pub returns-in_err-running-3-clause-later : goal.returns-in_err-running-3-clause-later
returns-in_err-running-3-clause-later g c =
    let feed = feed_of (domain_view c.args.domain.now) in
    let makes = map (λ m. (goal.MoveMaker-dyn g (m.vtable, m.value)).made m.value) c.args.domain.now.makers.items in
    let m = g.B.Book.meaning in
    let domain = domain_view c.args.domain.now in
    let l = c.steps in
    let cuts = taken_by l.cutter in
    let posed = posed_at m makes domain c.args.settings.now (origin_state c.args.origin) in
    let by = is_posed_at m makes domain c.args.settings.now (origin_state c.args.origin) in
    let leg = newest posed (legs_to feed posed (lines_cut cuts) (l.step - 1)) in
    let live = l.invariant.live (lines_cut cuts) (agrees_itself cuts) posed by refl in
    let printed = c.in_ok-running-2.ensures.prints posed leg by live in
    later_goes_on (g.K.Sink.state c.args.out.now) (g.K.Sink.state c.advance.new.out) (g.K.Sink.state c.cut_live.new.out)
    (later_goes_on (g.K.Sink.state c.args.out.now) (g.K.Sink.state l.out) (g.K.Sink.state c.advance.new.out) l.invariant.later printed.later)
    c.in_err-running-3.ensures.later

pub returns-in_err-running-3-clause-broken : goal.returns-in_err-running-3-clause-broken
returns-in_err-running-3-clause-broken g c =
    let feed = feed_of (domain_view c.args.domain.now) in
    let makes = map (λ m. (goal.MoveMaker-dyn g (m.vtable, m.value)).made m.value) c.args.domain.now.makers.items in
    let m = g.B.Book.meaning in
    let domain = domain_view c.args.domain.now in
    let l = c.steps in
    let cuts = taken_by l.cutter in
    let broken = c.in_err-running-3.ensures.broken in
    let cut = c.in_err-running-3.ensures.cut in
    on_err_some c.from_residual-in_err-running-3.result (record {
      count = broken.count;
      enough = omega arith;
      quiet = broken.quiet;
      holds = λ takes agrees posed start by origin named.
          let leg = newest posed (legs_to feed posed takes (l.step - 1)) in
          let within = subst (λ (s : Settings). l.step ≤ s.steps) by.settings_are l.invariant.within in
          let before = agrees_least takes cuts (take_at l.step cut.0) broken.count (omega (arith, broken.enough, l.invariant.count))
          (subst (λ (all : List (Take _)). AgreesWith takes (take broken.count all)) cut.1 agrees) in
          let live = l.invariant.live takes before posed by origin in
          let printed = c.in_ok-running-2.ensures.prints posed leg by live in
          let made = c.in_ok-running-2.ensures.made posed leg by live in
          let front = front_cut feed posed takes l.step l.invariant.some within in
          let later = later_goes_on start (g.K.Sink.state c.args.out.now) (g.K.Sink.state l.out) named.later l.invariant.later in
          front_then (text_made feed posed takes (l.step - 1)) (text_behind feed posed l.step (takes l.step) (made_leg feed posed takes (l.step - 1))) front.0 (fed_text feed posed takes)
          start (g.K.Sink.state c.advance.new.out) (g.K.Sink.state c.cut_live.new.out) front.1
          (wrote_then (text_to feed posed takes (l.step - 1)) (step_text posed l.step leg) (text_made feed posed takes (l.step - 1))
          start (g.K.Sink.state l.out) (g.K.Sink.state c.advance.new.out) (step_at feed posed takes l.step l.invariant.some)
          (l.invariant.wrote takes before posed start by origin named) later printed.whole)
          (later_goes_on start (g.K.Sink.state l.out) (g.K.Sink.state c.advance.new.out) later printed.later)
          (subst (λ (there : BareLeg). WroteFront (text_behind feed posed l.step (takes l.step) there) (g.K.Sink.state c.advance.new.out) (g.K.Sink.state c.cut_live.new.out))
          (made_at feed posed takes l.step l.invariant.some) (broken.holds takes agrees makes posed (gone_on posed l.step leg) by made));
    })

pub steps-preserved : goal.steps-preserved
steps-preserved g c =
    let feed = feed_of (domain_view c.args.domain.now) in
    let makes = map (λ m. (goal.MoveMaker-dyn g (m.vtable, m.value)).made m.value) c.args.domain.now.makers.items in
    let m = g.B.Book.meaning in
    let domain = domain_view c.args.domain.now in
    let l = c.steps in
    let cuts = taken_by l.cutter in
    let cut = c.in_ok-running-3.ensures.cut in
    let done = c.in_ok-running-3.ensures in
    let next = c.in_ok-running-3.running in
    let more = ap (λ (all : List (Take _)). length all) cut.1 in
    let agreed : (takes : ℕ → List Taken) → AgreesWith takes (taken_by c.cut_live.new.cutter) → AgreesWith takes cuts =
    λ takes agrees. agrees_before takes cuts (take_at l.step cut.0 ∷ []) (subst (AgreesWith takes) cut.1 agrees) in
    let back : l.step + 1 - 1 ≡ l.step = omega arith in
    let one : suc l.step ≡ l.step + 1 = omega arith in
    record {
      some = omega arith;
      within = omega (arith, c.steps-test.true);
      count = omega (arith, more, length-append cuts (take_at l.step cut.0 ∷ []), l.invariant.count);
      in_order = subst AreInOrder (sym cut.1) (in_order_more cuts l.step cut.0 l.invariant.count l.invariant.in_order);
      no_stop = done.no_stop;
      live = λ takes agrees posed by origin.
          let leg = newest posed (legs_to feed posed takes (l.step - 1)) in
          let made = c.in_ok-running-2.ensures.made posed leg by (l.invariant.live takes (agreed takes agrees) posed by origin) in
          let behind = done.live takes agrees makes posed (gone_on posed l.step leg) by made in
          let at = ap (leg_behind feed posed l.step (takes l.step)) (made_at feed posed takes l.step l.invariant.some) ∙ leg_then_cut feed posed takes l.step l.invariant.some
          ∙ ap (λ (k : ℕ). newest posed (legs_to feed posed takes k)) (sym back) in
          subst (λ (k : ℕ). IsLive next.core next.team.worker next.best next.names posed k (newest posed (legs_to feed posed takes (l.step + 1 - 1)))) one
          (subst (λ (there : BareLeg). IsLive next.core next.team.worker next.best next.names posed (suc l.step) there) at behind);
      wrote = λ takes agrees posed start by origin named.
          let leg = newest posed (legs_to feed posed takes (l.step - 1)) in
          let live = l.invariant.live takes (agreed takes agrees) posed by origin in
          let printed = c.in_ok-running-2.ensures.prints posed leg by live in
          let made = c.in_ok-running-2.ensures.made posed leg by live in
          let later = later_goes_on start (g.K.Sink.state c.args.out.now) (g.K.Sink.state l.out) named.later l.invariant.later in
          subst (λ (k : ℕ). Wrote (text_to feed posed takes k) start (g.K.Sink.state c.cut_live.new.out)) (sym back)
          (wrote_then (text_made feed posed takes (l.step - 1)) (text_behind feed posed l.step (takes l.step) (made_leg feed posed takes (l.step - 1))) (text_to feed posed takes l.step)
          start (g.K.Sink.state c.advance.new.out) (g.K.Sink.state c.cut_live.new.out) (made_then_cut feed posed takes l.step l.invariant.some)
          (wrote_then (text_to feed posed takes (l.step - 1)) (step_text posed l.step leg) (text_made feed posed takes (l.step - 1))
          start (g.K.Sink.state l.out) (g.K.Sink.state c.advance.new.out) (step_at feed posed takes l.step l.invariant.some)
          (l.invariant.wrote takes (agreed takes agrees) posed start by origin named) later printed.whole)
          (later_goes_on start (g.K.Sink.state l.out) (g.K.Sink.state c.advance.new.out) later printed.later)
          (subst (λ (there : BareLeg). Wrote (text_behind feed posed l.step (takes l.step) there) (g.K.Sink.state c.advance.new.out) (g.K.Sink.state c.cut_live.new.out))
          (made_at feed posed takes l.step l.invariant.some) (done.printed takes agrees makes posed (gone_on posed l.step leg) by made)));
      later =
          (let posed = posed_at m makes domain c.args.settings.now (origin_state c.args.origin) in
          let by = is_posed_at m makes domain c.args.settings.now (origin_state c.args.origin) in
          let leg = newest posed (legs_to feed posed (lines_cut cuts) (l.step - 1)) in
          let printed = c.in_ok-running-2.ensures.prints posed leg by (l.invariant.live (lines_cut cuts) (agrees_itself cuts) posed by refl) in
          later_goes_on (g.K.Sink.state c.args.out.now) (g.K.Sink.state c.advance.new.out) (g.K.Sink.state c.cut_live.new.out)
          (later_goes_on (g.K.Sink.state c.args.out.now) (g.K.Sink.state l.out) (g.K.Sink.state c.advance.new.out) l.invariant.later printed.later)
          done.later);
      judges = done.judges.1;
      whole = done.whole;
      quiet = done.quiet;
      workers = done.workers ∙ c.in_ok-running-2.ensures.workers ∙ l.invariant.workers;
      empty = done.emptied;
      shuts = done.shuts ∙ l.invariant.shuts;
      inbox = done.seat.0;
      number = done.seat.1 ∙ l.invariant.number;
    }

-- the last step
pub advance-requires-2-clause-live : goal.advance-requires-2-clause-live
advance-requires-2-clause-live g c κs within =
    let feed = feed_of (domain_view c.args.domain.now) in
    let makes = map (λ m. (goal.MoveMaker-dyn g (m.vtable, m.value)).made m.value) c.args.domain.now.makers.items in
    let m = g.B.Book.meaning in
    let domain = domain_view c.args.domain.now in
    let l = c.steps in
    let cuts = taken_by l.cutter in
    let last = c.args.settings.now.steps in
    let all : l.step ≡ last = omega (arith, l.invariant.within, c.steps-test.false) in
    let posed = posed_at m makes domain c.args.settings.now (origin_state c.args.origin) in
    let by = is_posed_at m makes domain c.args.settings.now (origin_state c.args.origin) in
    let leg = newest posed (legs_to feed posed (lines_cut cuts) (last - 1)) in
    let live = subst (λ (k : ℕ). IsLive l.running.core l.running.team.worker l.running.best l.running.names posed k (newest posed (legs_to feed posed (lines_cut cuts) (k - 1)))) all
    (l.invariant.live (lines_cut cuts) (agrees_itself cuts) posed by refl) in
    (posed, leg, by, live)

pub returns-in_err-made-clause-few : goal.returns-in_err-made-clause-few
returns-in_err-made-clause-few g c = omega (arith, c.steps.invariant.count, c.steps.invariant.within)

pub returns-in_err-made-clause-stopped : goal.returns-in_err-made-clause-stopped
returns-in_err-made-clause-stopped g c = λ cause of.
    absurd (no_stop_printing c.in_err-made.field-0.0 cause (same_fault c.from_residual-in_err-made.result _ (Stopped cause) c.from_residual-in_err-made.ensures.1 of))

pub returns-in_err-made-clause-failed : goal.returns-in_err-made-clause-failed
returns-in_err-made-clause-failed g c = λ of.
    let feed = feed_of (domain_view c.args.domain.now) in
    let makes = map (λ m. (goal.MoveMaker-dyn g (m.vtable, m.value)).made m.value) c.args.domain.now.makers.items in
    let m = g.B.Book.meaning in
    let domain = domain_view c.args.domain.now in
    let l = c.steps in
    let cuts = taken_by l.cutter in
    let last = c.args.settings.now.steps in
    let all : l.step ≡ last = omega (arith, l.invariant.within, c.steps-test.false) in
    let posed = posed_at m makes domain c.args.settings.now (origin_state c.args.origin) in
    let by = is_posed_at m makes domain c.args.settings.now (origin_state c.args.origin) in
    let leg = newest posed (legs_to feed posed (lines_cut cuts) (last - 1)) in
    let live = subst (λ (k : ℕ). IsLive l.running.core l.running.team.worker l.running.best l.running.names posed k (newest posed (legs_to feed posed (lines_cut cuts) (k - 1)))) all
    (l.invariant.live (lines_cut cuts) (agrees_itself cuts) posed by refl) in
    let is = write_printing c.in_err-made.field-0.0 (same_fault c.from_residual-in_err-made.result _ Write c.from_residual-in_err-made.ensures.1 of) in
    fails_since (g.K.Sink.state c.args.out.now) (g.K.Sink.state l.out) (g.K.Sink.state c.advance-2.new.out) l.invariant.later
    ((c.in_err-made.ensures.prints posed leg by live).failed (ap Err is))

pub returns-in_err-made-clause-later : goal.returns-in_err-made-clause-later
returns-in_err-made-clause-later g c =
    let feed = feed_of (domain_view c.args.domain.now) in
    let makes = map (λ m. (goal.MoveMaker-dyn g (m.vtable, m.value)).made m.value) c.args.domain.now.makers.items in
    let m = g.B.Book.meaning in
    let domain = domain_view c.args.domain.now in
    let l = c.steps in
    let cuts = taken_by l.cutter in
    let last = c.args.settings.now.steps in
    let all : l.step ≡ last = omega (arith, l.invariant.within, c.steps-test.false) in
    let posed = posed_at m makes domain c.args.settings.now (origin_state c.args.origin) in
    let by = is_posed_at m makes domain c.args.settings.now (origin_state c.args.origin) in
    let leg = newest posed (legs_to feed posed (lines_cut cuts) (last - 1)) in
    let live = subst (λ (k : ℕ). IsLive l.running.core l.running.team.worker l.running.best l.running.names posed k (newest posed (legs_to feed posed (lines_cut cuts) (k - 1)))) all
    (l.invariant.live (lines_cut cuts) (agrees_itself cuts) posed by refl) in
    later_goes_on (g.K.Sink.state c.args.out.now) (g.K.Sink.state l.out) (g.K.Sink.state c.advance-2.new.out) l.invariant.later
    (c.in_err-made.ensures.prints posed leg by live).later

pub returns-in_err-made-clause-broken : goal.returns-in_err-made-clause-broken
returns-in_err-made-clause-broken g c =
    let feed = feed_of (domain_view c.args.domain.now) in
    let makes = map (λ m. (goal.MoveMaker-dyn g (m.vtable, m.value)).made m.value) c.args.domain.now.makers.items in
    let m = g.B.Book.meaning in
    let domain = domain_view c.args.domain.now in
    let l = c.steps in
    let cuts = taken_by l.cutter in
    let last = c.args.settings.now.steps in
    let all : l.step ≡ last = omega (arith, l.invariant.within, c.steps-test.false) in
    on_err_some c.from_residual-in_err-made.result
    (for_all_cuts 0 cuts (omega arith) l.invariant.no_stop
    (λ takes agrees posed start by origin named.
    let leg = newest posed (legs_to feed posed takes (last - 1)) in
    let live = subst (λ (k : ℕ). IsLive l.running.core l.running.team.worker l.running.best l.running.names posed k (newest posed (legs_to feed posed takes (k - 1)))) all
    (l.invariant.live takes agrees posed by origin) in
    let wrote = subst (λ (k : ℕ). Wrote (text_to feed posed takes (k - 1)) start (g.K.Sink.state l.out)) all (l.invariant.wrote takes agrees posed start by origin named) in
    let later = later_goes_on start (g.K.Sink.state c.args.out.now) (g.K.Sink.state l.out) named.later l.invariant.later in
    let within = ap (λ (s : Settings). s.steps) by.settings_are in
    let front = front_step feed posed takes last c.requires.some (omega (arith, within)) in
    front_then (text_to feed posed takes (last - 1)) (step_text posed last leg) front.0 (fed_text feed posed takes)
    start (g.K.Sink.state l.out) (g.K.Sink.state c.advance-2.new.out) front.1 wrote later
    (c.in_err-made.ensures.prints posed leg by live).front))

pub returns-clause-few : goal.returns-clause-few
returns-clause-few g c = omega (arith, c.steps.invariant.count, c.steps.invariant.within)

pub returns-clause-all : goal.returns-clause-all
returns-clause-all g c = omega (arith, c.steps.invariant.count, c.steps.invariant.within, c.steps-test.false)

pub returns-clause-later : goal.returns-clause-later
returns-clause-later g c =
    let feed = feed_of (domain_view c.args.domain.now) in
    let makes = map (λ m. (goal.MoveMaker-dyn g (m.vtable, m.value)).made m.value) c.args.domain.now.makers.items in
    let m = g.B.Book.meaning in
    let domain = domain_view c.args.domain.now in
    let l = c.steps in
    let cuts = taken_by l.cutter in
    let last = c.args.settings.now.steps in
    let all : l.step ≡ last = omega (arith, l.invariant.within, c.steps-test.false) in
    let posed = posed_at m makes domain c.args.settings.now (origin_state c.args.origin) in
    let by = is_posed_at m makes domain c.args.settings.now (origin_state c.args.origin) in
    let leg = newest posed (legs_to feed posed (lines_cut cuts) (last - 1)) in
    let live = subst (λ (k : ℕ). IsLive l.running.core l.running.team.worker l.running.best l.running.names posed k (newest posed (legs_to feed posed (lines_cut cuts) (k - 1)))) all
    (l.invariant.live (lines_cut cuts) (agrees_itself cuts) posed by refl) in
    later_goes_on (g.K.Sink.state c.args.out.now) (g.K.Sink.state l.out) (g.K.Sink.state c.advance-2.new.out) l.invariant.later
    (c.in_ok-made.ensures.prints posed leg by live).later

pub returns-clause-printed : goal.returns-clause-printed
returns-clause-printed g c = λ takes agrees posed start by origin named.
    let feed = feed_of (domain_view c.args.domain.now) in
    let makes = map (λ m. (goal.MoveMaker-dyn g (m.vtable, m.value)).made m.value) c.args.domain.now.makers.items in
    let m = g.B.Book.meaning in
    let domain = domain_view c.args.domain.now in
    let l = c.steps in
    let cuts = taken_by l.cutter in
    let last = c.args.settings.now.steps in
    let all : l.step ≡ last = omega (arith, l.invariant.within, c.steps-test.false) in
    let leg = newest posed (legs_to feed posed takes (last - 1)) in
    let live = subst (λ (k : ℕ). IsLive l.running.core l.running.team.worker l.running.best l.running.names posed k (newest posed (legs_to feed posed takes (k - 1)))) all
    (l.invariant.live takes agrees posed by origin) in
    let wrote = subst (λ (k : ℕ). Wrote (text_to feed posed takes (k - 1)) start (g.K.Sink.state l.out)) all (l.invariant.wrote takes agrees posed start by origin named) in
    let later = later_goes_on start (g.K.Sink.state c.args.out.now) (g.K.Sink.state l.out) named.later l.invariant.later in
    wrote_then (text_to feed posed takes (last - 1)) (step_text posed last leg) (text_made feed posed takes (last - 1))
    start (g.K.Sink.state l.out) (g.K.Sink.state c.advance-2.new.out) (step_at feed posed takes last c.requires.some) wrote later
    (c.in_ok-made.ensures.prints posed leg by live).whole

pub returns-clause-made : goal.returns-clause-made
returns-clause-made g c = λ takes agrees posed by origin.
    let feed = feed_of (domain_view c.args.domain.now) in
    let makes = map (λ m. (goal.MoveMaker-dyn g (m.vtable, m.value)).made m.value) c.args.domain.now.makers.items in
    let m = g.B.Book.meaning in
    let domain = domain_view c.args.domain.now in
    let l = c.steps in
    let cuts = taken_by l.cutter in
    let last = c.args.settings.now.steps in
    let all : l.step ≡ last = omega (arith, l.invariant.within, c.steps-test.false) in
    let leg = newest posed (legs_to feed posed takes (last - 1)) in
    let live = subst (λ (k : ℕ). IsLive l.running.core l.running.team.worker l.running.best l.running.names posed k (newest posed (legs_to feed posed takes (k - 1)))) all
    (l.invariant.live takes agrees posed by origin) in
    let made = c.in_ok-made.made in
    subst (λ (there : BareLeg). IsLiveMade made.core made.team.worker made.best made.names posed last there) (made_at feed posed takes last c.requires.some)
    (c.in_ok-made.ensures.made posed leg by live)
