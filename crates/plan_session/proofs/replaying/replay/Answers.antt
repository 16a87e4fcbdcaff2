use Rattle.std.proofs.Common.{◌≡◌, ◌∙◌, ◌+◌, ◌∷◌, ◌++◌, All, false, List, ℕ, map, refl, suc, sym, ap, subst, arith}
use Rattle.std.proofs.lemmas.List.Elements.{All-drop, All-take}
use Rattle.change_feed.specs.Feeds.{is_stop}
use Rattle.plan_changes.specs.declared.line.Post.{Post}
use Rattle.live_lines.specs.Taking.{Taken, taken_at}
use Rattle.plan_json.specs.Accepted.{problem_view}
use Rattle.plan_json.specs.Seen.{domain_view}
use Rattle.plan_ports.specs.Outside.{Wrote}
use Rattle.plan_reports.specs.declared.line.Line.TheVariants as line
use Rattle.plan_search.specs.RunLines.{best_lines_of, opening_lines, text_of}
use Rattle.plan_session.specs.Course.{BareLeg, best_in}
use Rattle.plan_session.specs.Fed.{bare, legs_to, newest}
use Rattle.plan_session.specs.Live.{IsLive, leg_begun, next_text, text_to}
use Rattle.plan_session.specs.Posed.{posed_in}
use Rattle.plan_session.specs.Replayed.{IsPlaceAt, feed_of, lines_at}
use Rattle.plan_session.proofs.Begun.{failed_first}
use Rattle.plan_session.proofs.Live.{fed_by, front_of_all, text-first}
use Rattle.plan_session.proofs.Posing.{is_posed}
use Rattle.plan_session.proofs.Printed.{later_goes_on, prints_as, prints_more, wrote_more}
use Rattle.plan_session.proofs.Replayed.{failed_at, first_place, lines_between, next_newest, next_text_is, replay_is}
use Rattle.plan_session.proofs.replaying.replay.Goals as goal

pub end_of-at-requires-clause-from : goal.end_of-at-requires-clause-from
end_of-at-requires-clause-from g c = first_place c.args.bounds.now

pub begin_run-requires-clause-lines : goal.begin_run-requires-clause-lines
begin_run-requires-clause-lines g c κs within =
    let says : Post → Type 0 = λ post. is_stop post.body ≡ false in
    subst (All says) (sym c.between-first.ensures) (All-take says _ _ (All-drop says 0 c.args.posts.now c.requires.lines.lines))

pub returns-in_err-running : goal.returns-in_err-running
returns-in_err-running g c =
    let m = g.B.Book.meaning in
    let makes = map (λ m. (goal.MoveMaker-dyn g (m.vtable, m.value)).made m.value) c.args.domain.now.makers.items in
    let domain = domain_view c.args.domain.now in
    let problem = problem_view c.args.problem in
    let posed = posed_in m makes domain problem in
    let by = is_posed m makes domain problem in
    let feed = feed_of domain in
    let posts = c.args.posts.now in
    let bounds = c.args.bounds.now in
    let takes = lines_at posts bounds in
    let lines : takes 0 ≡ taken_at 0 c.between-first.result.now =
    lines_between 0 posts bounds 0 c.end_of-at.result c.requires.each (first_place bounds) c.end_of-at.ensures.end c.end_of-at.ensures.later
    ∙ ap (taken_at 0) (sym c.between-first.ensures) in
    let text = ap (λ (those : List Taken). text_of posed (line.Run posed.name ∷ opening_lines feed posed (leg_begun feed posed 0 those posed.origin))) (sym lines)
    ∙ text-first feed posed takes in
    let front = front_of_all feed posed takes 0 (omega arith) in
    failed_first c.from_residual.result c.in_err-running.field-0.0 _ front.rest _ (g.K.Sink.state c.args.out.now) (g.K.Sink.state c.begin_run.new.out)
    (ap (λ (start : List ℕ). start ++ front.rest) text ∙ front.is ∙ replay_is domain posts bounds posed) c.from_residual.ensures.1
    (c.in_err-running.ensures.prints makes posed by refl)

pub steps-init : goal.steps-init
steps-init g c =
    let m = g.B.Book.meaning in
    let makes = map (λ m. (goal.MoveMaker-dyn g (m.vtable, m.value)).made m.value) c.args.domain.now.makers.items in
    let domain = domain_view c.args.domain.now in
    let problem = problem_view c.args.problem in
    let posed = posed_in m makes domain problem in
    let by = is_posed m makes domain problem in
    let feed = feed_of domain in
    let posts = c.args.posts.now in
    let bounds = c.args.bounds.now in
    let takes = lines_at posts bounds in
    let lines : takes 0 ≡ taken_at 0 c.between-first.result.now =
    lines_between 0 posts bounds 0 c.end_of-at.result c.requires.each (first_place bounds) c.end_of-at.ensures.end c.end_of-at.ensures.later
    ∙ ap (taken_at 0) (sym c.between-first.ensures) in
    let text = ap (λ (those : List Taken). text_of posed (line.Run posed.name ∷ opening_lines feed posed (leg_begun feed posed 0 those posed.origin))) (sym lines)
    ∙ text-first feed posed takes in
    let running = c.in_ok-running.running in
    let done = c.in_ok-running.ensures in
    let printed = done.prints makes posed by refl in
    record {
      place = c.end_of-at.ensures.end;
      live = subst (λ (leg : BareLeg). IsLive running.core running.team.worker running.best running.names posed 1 leg)
          (ap (λ (those : List Taken). bare (leg_begun feed posed 0 those posed.origin)) (sym lines)) (done.live makes posed by refl);
      within = omega arith;
      judges = done.judges.1;
      whole = done.whole;
      quiet = done.quiet;
      workers = done.workers;
      empty = done.emptied;
      wrote = subst (λ (start : List ℕ). Wrote start (g.K.Sink.state c.args.out.now) (g.K.Sink.state c.begin_run.new.out)) text printed.whole;
      later = printed.later;
    }

pub end_of-end-requires-clause-from : goal.end_of-end-requires-clause-from
end_of-end-requires-clause-from g c =
    let one : suc c.steps.step ≡ c.steps.step + 1 = omega arith in
    subst (λ (k : ℕ). IsPlaceAt c.args.bounds.now k c.steps.at) one c.steps.invariant.place

pub go_on-requires-clause-workers : goal.go_on-requires-clause-workers
go_on-requires-clause-workers g c κs within = (omega (arith, c.steps.invariant.workers), omega (arith, c.steps.invariant.workers))

pub go_on-requires-clause-whole : goal.go_on-requires-clause-whole
go_on-requires-clause-whole g c κs within = c.steps.invariant.whole

pub go_on-requires-clause-quiet : goal.go_on-requires-clause-quiet
go_on-requires-clause-quiet g c κs within = c.steps.invariant.quiet

pub go_on-requires-clause-judges : goal.go_on-requires-clause-judges
go_on-requires-clause-judges g c κs within = (c.requires.judges.0, c.steps.invariant.judges)

pub go_on-requires-clause-live : goal.go_on-requires-clause-live
go_on-requires-clause-live g c κs within =
    let m = g.B.Book.meaning in
    let makes = map (λ m. (goal.MoveMaker-dyn g (m.vtable, m.value)).made m.value) c.args.domain.now.makers.items in
    let domain = domain_view c.args.domain.now in
    let problem = problem_view c.args.problem in
    let posed = posed_in m makes domain problem in
    let by = is_posed m makes domain problem in
    let feed = feed_of domain in
    let posts = c.args.posts.now in
    let bounds = c.args.bounds.now in
    let takes = lines_at posts bounds in
    let l = c.steps in
    let leg = newest posed (legs_to feed posed takes l.step) in
    let one : suc l.step ≡ l.step + 1 = omega arith in (
      posed,
      leg,
      by,
      subst (λ (k : ℕ). IsLive l.running.core l.running.team.worker l.running.best l.running.names posed k leg) one l.invariant.live,
    )

pub go_on-requires-clause-lines : goal.go_on-requires-clause-lines
go_on-requires-clause-lines g c κs within =
    let says : Post → Type 0 = λ post. is_stop post.body ≡ false in
    subst (All says) (sym c.between-taken.ensures) (All-take says _ _ (All-drop says c.steps.at c.args.posts.now c.requires.lines.lines))

pub go_on-requires-clause-empty : goal.go_on-requires-clause-empty
go_on-requires-clause-empty g c κs within = c.steps.invariant.empty

pub returns-in_err-running-2 : goal.returns-in_err-running-2
returns-in_err-running-2 g c =
    let m = g.B.Book.meaning in
    let makes = map (λ m. (goal.MoveMaker-dyn g (m.vtable, m.value)).made m.value) c.args.domain.now.makers.items in
    let domain = domain_view c.args.domain.now in
    let problem = problem_view c.args.problem in
    let posed = posed_in m makes domain problem in
    let by = is_posed m makes domain problem in
    let feed = feed_of domain in
    let posts = c.args.posts.now in
    let bounds = c.args.bounds.now in
    let takes = lines_at posts bounds in
    let l = c.steps in
    let leg = newest posed (legs_to feed posed takes l.step) in
    let one : suc l.step ≡ l.step + 1 = omega arith in
    let place = subst (λ (k : ℕ). IsPlaceAt bounds k l.at) one l.invariant.place in
    let lines : takes (l.step + 1) ≡ taken_at (l.step + 1) c.between-taken.result.now =
    lines_between (l.step + 1) posts bounds l.at c.end_of-end.result c.requires.each place c.end_of-end.ensures.end c.end_of-end.ensures.later
    ∙ ap (taken_at (l.step + 1)) (sym c.between-taken.ensures) in
    let live = subst (λ (k : ℕ). IsLive l.running.core l.running.team.worker l.running.best l.running.names posed k leg) one l.invariant.live in
    let front = front_of_all feed posed takes (l.step + 1) (omega (arith, c.steps-test.true)) in
    failed_at c.from_residual-in_err-running-2.result c.in_err-running-2.field-0.0 (text_to feed posed takes l.step)
    (next_text feed posed (l.step + 1) (taken_at (l.step + 1) c.between-taken.result.now) leg) front.rest _
    (g.K.Sink.state c.args.out.now) (g.K.Sink.state l.out) (g.K.Sink.state c.go_on.new.out)
    (ap (λ (start : List ℕ). start ++ front.rest) (next_text_is feed posed takes l.step _ lines) ∙ front.is ∙ replay_is domain posts bounds posed)
    l.invariant.wrote l.invariant.later c.from_residual-in_err-running-2.ensures.1 (c.in_err-running-2.ensures.prints posed leg by live)

pub steps-preserved : goal.steps-preserved
steps-preserved g c =
    let m = g.B.Book.meaning in
    let makes = map (λ m. (goal.MoveMaker-dyn g (m.vtable, m.value)).made m.value) c.args.domain.now.makers.items in
    let domain = domain_view c.args.domain.now in
    let problem = problem_view c.args.problem in
    let posed = posed_in m makes domain problem in
    let by = is_posed m makes domain problem in
    let feed = feed_of domain in
    let posts = c.args.posts.now in
    let bounds = c.args.bounds.now in
    let takes = lines_at posts bounds in
    let l = c.steps in
    let leg = newest posed (legs_to feed posed takes l.step) in
    let one : suc l.step ≡ l.step + 1 = omega arith in
    let place = subst (λ (k : ℕ). IsPlaceAt bounds k l.at) one l.invariant.place in
    let lines : takes (l.step + 1) ≡ taken_at (l.step + 1) c.between-taken.result.now =
    lines_between (l.step + 1) posts bounds l.at c.end_of-end.result c.requires.each place c.end_of-end.ensures.end c.end_of-end.ensures.later
    ∙ ap (taken_at (l.step + 1)) (sym c.between-taken.ensures) in
    let live = subst (λ (k : ℕ). IsLive l.running.core l.running.team.worker l.running.best l.running.names posed k leg) one l.invariant.live in
    let next = c.in_ok-running-2.running in
    let done = c.in_ok-running-2.ensures in
    let printed = done.prints posed leg by live in
    record {
      place = c.end_of-end.ensures.end;
      live = subst (λ (there : BareLeg). IsLive next.core next.team.worker next.best next.names posed (suc (l.step + 1)) there)
          (next_newest feed posed takes l.step _ lines) (done.live posed leg by live);
      within = omega (arith, c.steps-test.true);
      judges = done.judges.1;
      whole = done.whole;
      quiet = done.quiet;
      workers = done.workers ∙ l.invariant.workers;
      empty = done.emptied;
      wrote = subst (λ (start : List ℕ). Wrote start (g.K.Sink.state c.args.out.now) (g.K.Sink.state c.go_on.new.out)) (next_text_is feed posed takes l.step _ lines)
          (wrote_more _ _ (g.K.Sink.state c.args.out.now) (g.K.Sink.state l.out) (g.K.Sink.state c.go_on.new.out) l.invariant.wrote l.invariant.later printed.whole);
      later = later_goes_on (g.K.Sink.state c.args.out.now) (g.K.Sink.state l.out) (g.K.Sink.state c.go_on.new.out) l.invariant.later printed.later;
    }

pub print_end-requires-clause-whole : goal.print_end-requires-clause-whole
print_end-requires-clause-whole g c κs within = c.steps.invariant.whole

pub print_end-requires-clause-judges : goal.print_end-requires-clause-judges
print_end-requires-clause-judges g c κs within = (c.requires.judges.0, c.steps.invariant.judges)

pub print_end-requires-clause-live : goal.print_end-requires-clause-live
print_end-requires-clause-live g c κs within =
    let m = g.B.Book.meaning in
    let makes = map (λ m. (goal.MoveMaker-dyn g (m.vtable, m.value)).made m.value) c.args.domain.now.makers.items in
    let domain = domain_view c.args.domain.now in
    let problem = problem_view c.args.problem in
    let posed = posed_in m makes domain problem in
    let by = is_posed m makes domain problem in
    let feed = feed_of domain in
    let posts = c.args.posts.now in
    let bounds = c.args.bounds.now in
    let takes = lines_at posts bounds in
    (posed, suc c.steps.step, newest posed (legs_to feed posed takes c.steps.step), c.steps.invariant.live)

pub print_end-requires-clause-empty : goal.print_end-requires-clause-empty
print_end-requires-clause-empty g c κs within = c.steps.invariant.empty

pub returns : goal.returns
returns g c =
    let m = g.B.Book.meaning in
    let makes = map (λ m. (goal.MoveMaker-dyn g (m.vtable, m.value)).made m.value) c.args.domain.now.makers.items in
    let domain = domain_view c.args.domain.now in
    let problem = problem_view c.args.problem in
    let posed = posed_in m makes domain problem in
    let by = is_posed m makes domain problem in
    let feed = feed_of domain in
    let posts = c.args.posts.now in
    let bounds = c.args.bounds.now in
    let takes = lines_at posts bounds in
    let l = c.steps in
    let leg = newest posed (legs_to feed posed takes l.step) in
    let all : l.step ≡ posed.settings.steps = omega (arith, l.invariant.within, c.steps-test.false) in
    prints_as c.print_end.result (text_to feed posed takes l.step ++ text_of posed (best_lines_of posed (best_in posed leg))) _
    (g.K.Sink.state c.args.out.now) (g.K.Sink.state c.print_end.new.out)
    (ap (λ (n : ℕ). text_to feed posed takes n ++ text_of posed (best_lines_of posed (best_in posed (newest posed (legs_to feed posed takes n))))) all
    ∙ sym (fed_by feed posed takes) ∙ replay_is domain posts bounds posed)
    (prints_more c.print_end.result _ _ (g.K.Sink.state c.args.out.now) (g.K.Sink.state l.out) (g.K.Sink.state c.print_end.new.out) l.invariant.wrote l.invariant.later
    (c.print_end.ensures makes c.args.problem.settings posed (suc l.step) leg by l.invariant.live))
