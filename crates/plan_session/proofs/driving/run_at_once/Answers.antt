use Rattle.std.proofs.Common.{◌≡◌, ◌∙◌, ◌∷◌, ◌++◌, [], List, ℕ, Err, length, suc, take, refl, sym, ap, subst, arith}
use Rattle.std.proofs.lemmas.List.{append-nil, append_assoc}
use Rattle.live_posts.specs.Cuts.{Take, taken_by}
use Rattle.plan_json.specs.Seen.{domain_view}
use Rattle.plan_ports.specs.Outside.{Wrote, WroteFront}
use Rattle.plan_reports.specs.declared.line.Line.TheVariants as line
use Rattle.plan_search.specs.RunLines.{best_lines_of, text_of}
use Rattle.plan_settings.specs.declared.settings.Settings.{Settings}
use Rattle.plan_session.specs.Course.{best_in}
use Rattle.plan_session.specs.Fed.{fed_text, legs_to, newest}
use Rattle.plan_session.specs.Live.{opening_text, text_to}
use Rattle.plan_session.specs.LiveRuns.{AreInOrder, HasNoStop, lines_cut, live_text}
use Rattle.plan_session.specs.Replayed.{feed_of, grounds_of}
use Rattle.plan_session.specs.declared.live_fault.LiveFault.TheVariants.{Stopped, Write}
use Rattle.plan_session.specs.Posed.{posed_at}
use Rattle.plan_session.proofs.LiveCuts.{all_of}
use Rattle.plan_session.proofs.LiveFronts.{front_then, no_fault, no_stop_printing, on_err_some, on_ok_none, same_fault, write_printing, wrote_then}
use Rattle.plan_session.proofs.LiveLead.{agrees_itself, is_posed_at}
use Rattle.plan_session.proofs.LiveTexts.{front_to, named_then_opened, whole_at}
use Rattle.plan_session.proofs.Printed.{fails_since, later_goes_on}
use Rattle.plan_session.specs.Origins.{origin_state}
use Rattle.plan_session.proofs.driving.run_at_once.Goals as goal

pub print_end-requires-clause-live : goal.print_end-requires-clause-live
print_end-requires-clause-live g c κs within =
    let m = g.B.Book.meaning in
    let domain = domain_view c.args.domain.now in
    let state = origin_state c.args.origin in
    let posed = posed_at m [] domain c.args.settings.now state in
    let cuts = taken_by c.begin_live.new.cutter in
    (posed, 1, _, c.in_ok-running.ensures.live (lines_cut cuts) (agrees_itself cuts) [] posed (is_posed_at m [] domain c.args.settings.now state) refl)

pub returns-in_err-running-clause-ended : goal.returns-in_err-running-clause-ended
returns-in_err-running-clause-ended g c = λ makers posed start by origin named.
    let feed = feed_of (domain_view c.args.domain.now) in
    let done = c.in_err-running.ensures in
    let broken = done.broken in
    let cuts = taken_by c.begin_live.new.cutter in
    let one = ap (λ (all : List (Take _)). length all) done.cut.1 in
    let fault = c.from_residual.ensures.1 in
    record {
      in_order = subst AreInOrder (sym done.cut.1) refl;
      few = omega (arith, one);
      all = on_ok_none (length cuts ≡ suc posed.settings.steps) c.from_residual.result c.in_err-running.field-0.0 fault;
      no_stop = on_ok_none (HasNoStop cuts) c.from_residual.result c.in_err-running.field-0.0 fault;
      whole = on_ok_none (Wrote (live_text (grounds_of (domain_view c.args.domain.now)) cuts posed) start (g.K.Sink.state c.begin_live.new.out)) c.from_residual.result c.in_err-running.field-0.0 fault;
      broken = on_err_some c.from_residual.result
          (let takes = lines_cut (take broken.count cuts) in
          let front = front_to feed posed takes 0 (omega arith) in (
            broken.count,
            broken.quiet,
            front_then (text_of posed (line.Run posed.name ∷ [])) (opening_text feed posed 0 (takes 0) posed.origin) front.0 (fed_text feed posed takes) start (g.K.Sink.state c.args.out.now) (g.K.Sink.state c.begin_live.new.out)
                (sym (append_assoc (text_of posed (line.Run posed.name ∷ [])) (opening_text feed posed 0 (takes 0) posed.origin) front.0)
                ∙ ap (λ (text : List ℕ). text ++ front.0) (named_then_opened feed posed takes) ∙ front.1)
                named.wrote named.later (broken.holds takes (agrees_itself (take broken.count cuts)) makers posed by origin),
          ));
      stopped = λ cause of. done.stopped cause (ap Err (same_fault c.from_residual.result c.in_err-running.field-0.0 (Stopped cause) fault of));
      failed = λ of. fails_since start (g.K.Sink.state c.args.out.now) (g.K.Sink.state c.begin_live.new.out) named.later
          (done.failed (ap Err (same_fault c.from_residual.result c.in_err-running.field-0.0 Write fault of)));
      later = later_goes_on start (g.K.Sink.state c.args.out.now) (g.K.Sink.state c.begin_live.new.out) named.later done.later;
    }

pub returns-in_err-print_end-clause-ended : goal.returns-in_err-print_end-clause-ended
returns-in_err-print_end-clause-ended g c = λ makers posed start by origin named.
    let feed = feed_of (domain_view c.args.domain.now) in
    let ground = grounds_of (domain_view c.args.domain.now) in
    let none : 0 ≡ posed.settings.steps = sym c.requires.none ∙ ap (λ (s : Settings). s.steps) by.settings_are in
    let done = c.in_ok-running.ensures in
    let cuts = taken_by c.begin_live.new.cutter in
    let one = ap (λ (all : List (Take _)). length all) done.cut.1 in
    let takes = lines_cut cuts in
    let agrees = agrees_itself cuts in
    let live = done.live takes agrees makers posed by origin in
    let wrote = wrote_then (text_of posed (line.Run posed.name ∷ [])) (opening_text feed posed 0 (takes 0) posed.origin) (text_to feed posed takes 0) start (g.K.Sink.state c.args.out.now) (g.K.Sink.state c.begin_live.new.out)
    (named_then_opened feed posed takes) named.wrote named.later (done.printed takes agrees makers posed by origin) in
    let since = later_goes_on start (g.K.Sink.state c.args.out.now) (g.K.Sink.state c.begin_live.new.out) named.later done.later in
    let printed = c.in_err-print_end.ensures makers c.args.settings.now posed 1 (newest posed (legs_to feed posed takes 0)) by live in
    let best = text_of posed (best_lines_of posed (best_in posed (newest posed (legs_to feed posed takes 0)))) in
    let fault = c.from_residual-in_err-print_end.ensures.1 in
    record {
      in_order = subst AreInOrder (sym done.cut.1) refl;
      few = omega (arith, one);
      all = on_ok_none (length cuts ≡ suc posed.settings.steps) c.from_residual-in_err-print_end.result _ fault;
      no_stop = on_ok_none (HasNoStop cuts) c.from_residual-in_err-print_end.result _ fault;
      whole = on_ok_none (Wrote (live_text ground cuts posed) start (g.K.Sink.state c.print_end.new.out)) c.from_residual-in_err-print_end.result _ fault;
      broken = on_err_some c.from_residual-in_err-print_end.result (
        length cuts,
        subst HasNoStop (sym (all_of cuts)) done.no_stop,
        subst (λ (all : List (Take _)). WroteFront (live_text ground all posed) start (g.K.Sink.state c.print_end.new.out)) (sym (all_of cuts))
            (front_then (text_to feed posed takes 0) best [] (fed_text feed posed takes) start (g.K.Sink.state c.begin_live.new.out) (g.K.Sink.state c.print_end.new.out)
            (ap (λ (text : List ℕ). text_to feed posed takes 0 ++ text) (append-nil best) ∙ whole_at feed posed takes 0 none) wrote since printed.front),
      );
      stopped = λ cause of. absurd (no_stop_printing c.in_err-print_end.field-0.0 cause (same_fault c.from_residual-in_err-print_end.result _ (Stopped cause) fault of));
      failed = λ of. fails_since start (g.K.Sink.state c.begin_live.new.out) (g.K.Sink.state c.print_end.new.out) since
          (printed.failed (ap Err (write_printing c.in_err-print_end.field-0.0 (same_fault c.from_residual-in_err-print_end.result _ Write fault of))));
      later = later_goes_on start (g.K.Sink.state c.begin_live.new.out) (g.K.Sink.state c.print_end.new.out) since printed.later;
    }

pub returns-clause-ended : goal.returns-clause-ended
returns-clause-ended g c = λ makers posed start by origin named.
    let feed = feed_of (domain_view c.args.domain.now) in
    let none : 0 ≡ posed.settings.steps = sym c.requires.none ∙ ap (λ (s : Settings). s.steps) by.settings_are in
    let done = c.in_ok-running.ensures in
    let cuts = taken_by c.begin_live.new.cutter in
    let one = ap (λ (all : List (Take _)). length all) done.cut.1 in
    let takes = lines_cut cuts in
    let agrees = agrees_itself cuts in
    let live = done.live takes agrees makers posed by origin in
    let wrote = wrote_then (text_of posed (line.Run posed.name ∷ [])) (opening_text feed posed 0 (takes 0) posed.origin) (text_to feed posed takes 0) start (g.K.Sink.state c.args.out.now) (g.K.Sink.state c.begin_live.new.out)
    (named_then_opened feed posed takes) named.wrote named.later (done.printed takes agrees makers posed by origin) in
    let since = later_goes_on start (g.K.Sink.state c.args.out.now) (g.K.Sink.state c.begin_live.new.out) named.later done.later in
    let printed = c.in_ok-print_end.ensures makers c.args.settings.now posed 1 (newest posed (legs_to feed posed takes 0)) by live in
    let best = text_of posed (best_lines_of posed (best_in posed (newest posed (legs_to feed posed takes 0)))) in
    record {
      in_order = subst AreInOrder (sym done.cut.1) refl;
      few = omega (arith, one);
      all = omega (arith, one, none);
      no_stop = done.no_stop;
      whole = wrote_then (text_to feed posed takes 0) best (fed_text feed posed takes) start (g.K.Sink.state c.begin_live.new.out) (g.K.Sink.state c.print_end.new.out)
          (whole_at feed posed takes 0 none) wrote since printed.whole;
      broken = tt;
      stopped = λ cause of. absurd (no_fault _ _ of);
      failed = λ of. absurd (no_fault _ _ of);
      later = later_goes_on start (g.K.Sink.state c.begin_live.new.out) (g.K.Sink.state c.print_end.new.out) since printed.later;
    }

pub returns-in_err-print_end-clause-later : goal.returns-in_err-print_end-clause-later
returns-in_err-print_end-clause-later g c =
    let m = g.B.Book.meaning in
    let domain = domain_view c.args.domain.now in
    let state = origin_state c.args.origin in
    let posed = posed_at m [] domain c.args.settings.now state in
    let by = is_posed_at m [] domain c.args.settings.now state in
    let cuts = taken_by c.begin_live.new.cutter in
    let live = c.in_ok-running.ensures.live (lines_cut cuts) (agrees_itself cuts) [] posed by refl in
    later_goes_on (g.K.Sink.state c.args.out.now) (g.K.Sink.state c.begin_live.new.out) (g.K.Sink.state c.print_end.new.out) c.in_ok-running.ensures.later
    (c.in_err-print_end.ensures [] c.args.settings.now posed 1 (newest posed (legs_to (feed_of domain) posed (lines_cut cuts) 0)) by live).later

pub returns-clause-later : goal.returns-clause-later
returns-clause-later g c =
    let m = g.B.Book.meaning in
    let domain = domain_view c.args.domain.now in
    let state = origin_state c.args.origin in
    let posed = posed_at m [] domain c.args.settings.now state in
    let by = is_posed_at m [] domain c.args.settings.now state in
    let cuts = taken_by c.begin_live.new.cutter in
    let live = c.in_ok-running.ensures.live (lines_cut cuts) (agrees_itself cuts) [] posed by refl in
    later_goes_on (g.K.Sink.state c.args.out.now) (g.K.Sink.state c.begin_live.new.out) (g.K.Sink.state c.print_end.new.out) c.in_ok-running.ensures.later
    (c.in_ok-print_end.ensures [] c.args.settings.now posed 1 (newest posed (legs_to (feed_of domain) posed (lines_cut cuts) 0)) by live).later
