use Rattle.std.proofs.Common.{◌≡◌, ◌∙◌, ◌-◌, ◌∷◌, ◌++◌, [], List, ℕ, Err, length, suc, take, sym, ap, subst, arith}
use Rattle.std.proofs.lemmas.List.{append-nil, length-append}
use Rattle.live_posts.specs.Cuts.{Take, take_at, taken_by}
use Rattle.plan_json.specs.Seen.{domain_view}
use Rattle.plan_ports.specs.Outside.{Wrote, WroteFront}
use Rattle.plan_search.specs.RunLines.{best_lines_of, text_of}
use Rattle.plan_settings.specs.declared.settings.Settings.{Settings}
use Rattle.plan_session.specs.Course.{BareLeg, best_in}
use Rattle.plan_session.specs.Fed.{fed_text, legs_to, newest}
use Rattle.plan_session.specs.Live.{IsLive, made_leg, text_behind, text_made, text_to}
use Rattle.plan_session.specs.LiveRuns.{AgreesWith, AreInOrder, HasNoStop, lines_cut, live_text}
use Rattle.plan_session.specs.Replayed.{feed_of, grounds_of}
use Rattle.plan_session.specs.declared.live_fault.LiveFault.TheVariants.{Stopped, Write}
use Rattle.plan_session.proofs.LiveCuts.{agrees_before, all_of, in_order_more}
use Rattle.plan_session.proofs.LiveFronts.{front_then, no_fault, no_stop_printing, on_err_some, on_ok_none, same_fault, write_printing, wrote_then}
use Rattle.plan_session.proofs.LiveLead.{agrees_itself, agrees_least}
use Rattle.plan_session.proofs.LiveTexts.{front_cut, leg_then_cut, made_then_cut, whole_at}
use Rattle.plan_session.proofs.Printed.{fails_since, later_goes_on}
use Rattle.plan_session.proofs.driving.end_live.Goals as goal

pub print_end-requires-clause-live : goal.print_end-requires-clause-live
print_end-requires-clause-live g c κs within =
    let made = c.requires.made in
    let cuts = taken_by c.cut_live.new.cutter in
    (made.1, _, _, c.in_ok-running.ensures.live (lines_cut cuts) (agrees_itself cuts) made.0 made.1 made.2 made.3 made.4)

pub returns-in_err-running-clause-ended : goal.returns-in_err-running-clause-ended
returns-in_err-running-clause-ended g c = λ makers posed start by before later.
    let feed = feed_of (domain_view c.args.domain.now) in
    let old = taken_by c.args.cutter.now in
    let last = c.args.settings.now.steps in
    let done = c.in_err-running.ensures in
    let broken = done.broken in
    let cuts = taken_by c.cut_live.new.cutter in
    let more = ap (λ (all : List (Take _)). length all) done.cut.1 in
    let steps = ap (λ (s : Settings). s.steps) by.settings_are in
    let fault = c.from_residual.ensures.1 in
    record {
      in_order = subst AreInOrder (sym done.cut.1) (in_order_more old last done.cut.0 c.requires.cuts c.requires.in_order);
      few = omega (arith, more, length-append old (take_at last done.cut.0 ∷ []), c.requires.cuts, steps);
      all = on_ok_none (length cuts ≡ suc posed.settings.steps) c.from_residual.result c.in_err-running.field-0.0 fault;
      no_stop = on_ok_none (HasNoStop cuts) c.from_residual.result c.in_err-running.field-0.0 fault;
      whole = on_ok_none (Wrote (live_text (grounds_of (domain_view c.args.domain.now)) cuts posed) start (g.K.Sink.state c.cut_live.new.out)) c.from_residual.result c.in_err-running.field-0.0 fault;
      broken = on_err_some c.from_residual.result
          (let takes = lines_cut (take broken.count cuts) in
          let agrees = agrees_itself (take broken.count cuts) in
          let was = before takes (agrees_least takes old (take_at last done.cut.0) broken.count (omega (arith, broken.enough, c.requires.cuts))
          (subst (λ (all : List (Take _)). AgreesWith takes (take broken.count all)) done.cut.1 agrees)) in
          let front = front_cut feed posed takes last c.requires.some (omega (arith, steps)) in (
            broken.count,
            broken.quiet,
            front_then (text_made feed posed takes (last - 1)) (text_behind feed posed last (takes last) (made_leg feed posed takes (last - 1))) front.0 (fed_text feed posed takes)
                start (g.K.Sink.state c.args.out.now) (g.K.Sink.state c.cut_live.new.out) front.1 was.0 later
                (broken.holds takes agrees makers posed (made_leg feed posed takes (last - 1)) by was.1),
          ));
      stopped = λ cause of. done.stopped cause (ap Err (same_fault c.from_residual.result c.in_err-running.field-0.0 (Stopped cause) fault of));
      failed = λ of. fails_since start (g.K.Sink.state c.args.out.now) (g.K.Sink.state c.cut_live.new.out) later
          (done.failed (ap Err (same_fault c.from_residual.result c.in_err-running.field-0.0 Write fault of)));
      later = later_goes_on start (g.K.Sink.state c.args.out.now) (g.K.Sink.state c.cut_live.new.out) later done.later;
    }

pub returns-in_err-print_end-clause-ended : goal.returns-in_err-print_end-clause-ended
returns-in_err-print_end-clause-ended g c = λ makers posed start by before later.
    let feed = feed_of (domain_view c.args.domain.now) in
    let ground = grounds_of (domain_view c.args.domain.now) in
    let old = taken_by c.args.cutter.now in
    let last = c.args.settings.now.steps in
    let done = c.in_ok-running.ensures in
    let running = c.in_ok-running.running in
    let cuts = taken_by c.cut_live.new.cutter in
    let more = ap (λ (all : List (Take _)). length all) done.cut.1 in
    let steps = ap (λ (s : Settings). s.steps) by.settings_are in
    let fault = c.from_residual-in_err-print_end.ensures.1 in
    let takes = lines_cut cuts in
    let agrees = agrees_itself cuts in
    let was = before takes (agrees_before takes old (take_at last done.cut.0 ∷ []) (subst (AgreesWith takes) done.cut.1 agrees)) in
    let live = subst (λ (there : BareLeg). IsLive running.core running.team.worker running.best running.names posed (suc last) there) (leg_then_cut feed posed takes last c.requires.some)
    (done.live takes agrees makers posed (made_leg feed posed takes (last - 1)) by was.1) in
    let wrote = wrote_then (text_made feed posed takes (last - 1)) (text_behind feed posed last (takes last) (made_leg feed posed takes (last - 1))) (text_to feed posed takes last)
    start (g.K.Sink.state c.args.out.now) (g.K.Sink.state c.cut_live.new.out) (made_then_cut feed posed takes last c.requires.some) was.0 later
    (done.printed takes agrees makers posed (made_leg feed posed takes (last - 1)) by was.1) in
    let since = later_goes_on start (g.K.Sink.state c.args.out.now) (g.K.Sink.state c.cut_live.new.out) later done.later in
    let printed = c.in_err-print_end.ensures makers c.args.settings.now posed (suc last) (newest posed (legs_to feed posed takes last)) by live in
    let best = text_of posed (best_lines_of posed (best_in posed (newest posed (legs_to feed posed takes last)))) in
    record {
      in_order = subst AreInOrder (sym done.cut.1) (in_order_more old last done.cut.0 c.requires.cuts c.requires.in_order);
      few = omega (arith, more, length-append old (take_at last done.cut.0 ∷ []), c.requires.cuts, steps);
      all = on_ok_none (length cuts ≡ suc posed.settings.steps) c.from_residual-in_err-print_end.result _ fault;
      no_stop = on_ok_none (HasNoStop cuts) c.from_residual-in_err-print_end.result _ fault;
      whole = on_ok_none (Wrote (live_text ground cuts posed) start (g.K.Sink.state c.print_end.new.out)) c.from_residual-in_err-print_end.result _ fault;
      broken = on_err_some c.from_residual-in_err-print_end.result (
        length cuts,
        subst HasNoStop (sym (all_of cuts)) done.no_stop,
        subst (λ (all : List (Take _)). WroteFront (live_text ground all posed) start (g.K.Sink.state c.print_end.new.out)) (sym (all_of cuts))
            (front_then (text_to feed posed takes last) best [] (fed_text feed posed takes) start (g.K.Sink.state c.cut_live.new.out) (g.K.Sink.state c.print_end.new.out)
            (ap (λ (text : List ℕ). text_to feed posed takes last ++ text) (append-nil best) ∙ whole_at feed posed takes last steps) wrote since printed.front),
      );
      stopped = λ cause of. absurd (no_stop_printing c.in_err-print_end.field-0.0 cause (same_fault c.from_residual-in_err-print_end.result _ (Stopped cause) fault of));
      failed = λ of. fails_since start (g.K.Sink.state c.cut_live.new.out) (g.K.Sink.state c.print_end.new.out) since
          (printed.failed (ap Err (write_printing c.in_err-print_end.field-0.0 (same_fault c.from_residual-in_err-print_end.result _ Write fault of))));
      later = later_goes_on start (g.K.Sink.state c.cut_live.new.out) (g.K.Sink.state c.print_end.new.out) since printed.later;
    }

pub returns-clause-ended : goal.returns-clause-ended
returns-clause-ended g c = λ makers posed start by before later.
    let feed = feed_of (domain_view c.args.domain.now) in
    let old = taken_by c.args.cutter.now in
    let last = c.args.settings.now.steps in
    let done = c.in_ok-running.ensures in
    let running = c.in_ok-running.running in
    let cuts = taken_by c.cut_live.new.cutter in
    let more = ap (λ (all : List (Take _)). length all) done.cut.1 in
    let steps = ap (λ (s : Settings). s.steps) by.settings_are in
    let takes = lines_cut cuts in
    let agrees = agrees_itself cuts in
    let was = before takes (agrees_before takes old (take_at last done.cut.0 ∷ []) (subst (AgreesWith takes) done.cut.1 agrees)) in
    let live = subst (λ (there : BareLeg). IsLive running.core running.team.worker running.best running.names posed (suc last) there) (leg_then_cut feed posed takes last c.requires.some)
    (done.live takes agrees makers posed (made_leg feed posed takes (last - 1)) by was.1) in
    let wrote = wrote_then (text_made feed posed takes (last - 1)) (text_behind feed posed last (takes last) (made_leg feed posed takes (last - 1))) (text_to feed posed takes last)
    start (g.K.Sink.state c.args.out.now) (g.K.Sink.state c.cut_live.new.out) (made_then_cut feed posed takes last c.requires.some) was.0 later
    (done.printed takes agrees makers posed (made_leg feed posed takes (last - 1)) by was.1) in
    let since = later_goes_on start (g.K.Sink.state c.args.out.now) (g.K.Sink.state c.cut_live.new.out) later done.later in
    let printed = c.in_ok-print_end.ensures makers c.args.settings.now posed (suc last) (newest posed (legs_to feed posed takes last)) by live in
    let best = text_of posed (best_lines_of posed (best_in posed (newest posed (legs_to feed posed takes last)))) in
    record {
      in_order = subst AreInOrder (sym done.cut.1) (in_order_more old last done.cut.0 c.requires.cuts c.requires.in_order);
      few = omega (arith, more, length-append old (take_at last done.cut.0 ∷ []), c.requires.cuts, steps);
      all = omega (arith, more, length-append old (take_at last done.cut.0 ∷ []), c.requires.cuts, steps);
      no_stop = done.no_stop;
      whole = wrote_then (text_to feed posed takes last) best (fed_text feed posed takes) start (g.K.Sink.state c.cut_live.new.out) (g.K.Sink.state c.print_end.new.out)
          (whole_at feed posed takes last steps) wrote since printed.whole;
      broken = tt;
      stopped = λ cause of. absurd (no_fault _ _ of);
      failed = λ of. absurd (no_fault _ _ of);
      later = later_goes_on start (g.K.Sink.state c.cut_live.new.out) (g.K.Sink.state c.print_end.new.out) since printed.later;
    }

pub returns-in_err-print_end-clause-later : goal.returns-in_err-print_end-clause-later
returns-in_err-print_end-clause-later g c =
    let made = c.requires.made in
    let cuts = taken_by c.cut_live.new.cutter in
    let live = c.in_ok-running.ensures.live (lines_cut cuts) (agrees_itself cuts) made.0 made.1 made.2 made.3 made.4 in
    later_goes_on (g.K.Sink.state c.args.out.now) (g.K.Sink.state c.cut_live.new.out) (g.K.Sink.state c.print_end.new.out) c.in_ok-running.ensures.later
    (c.in_err-print_end.ensures made.0 c.args.settings.now made.1 (suc c.args.settings.now.steps) _ made.3 live).later

pub returns-clause-later : goal.returns-clause-later
returns-clause-later g c =
    let made = c.requires.made in
    let cuts = taken_by c.cut_live.new.cutter in
    let live = c.in_ok-running.ensures.live (lines_cut cuts) (agrees_itself cuts) made.0 made.1 made.2 made.3 made.4 in
    later_goes_on (g.K.Sink.state c.args.out.now) (g.K.Sink.state c.cut_live.new.out) (g.K.Sink.state c.print_end.new.out) c.in_ok-running.ensures.later
    (c.in_ok-print_end.ensures made.0 c.args.settings.now made.1 (suc c.args.settings.now.steps) _ made.3 live).later
