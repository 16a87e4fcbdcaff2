use Rattle.std.proofs.Common.{◌≡◌}
use Rattle.search_core.specs.Keeps.{terms_of}
use Rattle.plan_session.specs.Course.{IsEndedAfter}
use Rattle.plan_session.proofs.events.post_all.Given as goal

abbrev pub invariant-posts : goal.invariant-posts
invariant-posts l = record {
  ended : IsEndedAfter l.core l.boundary l.number;
  terms : terms_of l.core ≡ terms_of l.fn.core;
}
