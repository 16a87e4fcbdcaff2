use Rattle.std.proofs.Common.{◌≡◌, ◌+◌, ◌<◌, [], false, map}
use Rattle.search_core.specs.Keeps.{terms_of}
use Rattle.plan_session.specs.Course.{IsQuiet, IsReady, SameTerms}
use Rattle.plan_session.proofs.Stepped.{CourseAt, PrintedAt}
use Rattle.plan_session.proofs.steps.do_steps.Given as goal

-- the core is ready for the next step, and the search is in course after the steps so far, which are printed
abbrev pub invariant-steps : goal.invariant-steps
invariant-steps g l =
    let makes = map (λ m. (goal.MoveMaker-dyn g (m.vtable, m.value)).made m.value) l.kit.makers.now in
    record {
      same : SameTerms l.fn.team.worker l.team.worker;
      whole : l.team.is_torn ≡ false;
      empty : l.buffer.items ≡ [];
      terms : terms_of l.core ≡ terms_of l.fn.core;
      quiet : IsQuiet l.core;
      ready : l.step < l.steps → IsReady l.core (l.step + 1);
      course : CourseAt g.B.Book.meaning l.kit.seed l.kit.selectors.now makes l.steps l.fn.core l.fn.team.worker l.fn.best l.step l.core l.team.worker l.best;
      printed : PrintedAt g.B.Book.meaning l.kit.seed l.kit.selectors.now makes l.steps l.fn.core l.fn.team.worker l.fn.best (g.K.Sink.state l.fn.out) l.report l.step (g.K.Sink.state l.out);
    }
