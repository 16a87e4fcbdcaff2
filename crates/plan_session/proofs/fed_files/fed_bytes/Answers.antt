use Rattle.std.proofs.Common.{◌≡◌, refl, rules}
use Rattle.problem_faults.specs.declared.fault.ProblemFault.TheVariants.{Memory}
use Rattle.problem_faults.specs.Words.{refusal_line}
use Rattle.plan_changes.specs.Fits.{IsOfSchema}
use Rattle.plan_json.specs.Accepted.{IsAccepted, problem_view}
use Rattle.plan_json.specs.Seen.{domain_view, domain_views}
use Rattle.plan_session.specs.declared.status.Status.TheVariants as status
use Rattle.plan_session.proofs.DueLaws.{found_fault, slice_at, some_and_at, stands_mapped}
use Rattle.plan_session.proofs.EndingLaws.{ended_saying}
use Rattle.plan_session.proofs.ReplayLaws.{due_refused, has_problem}
use Rattle.plan_session.proofs.ShelfLaws.{later_same}
use Rattle.plan_session.proofs.fed_files.fed_bytes.Goals as goal

pub fed_problem-requires-clause-judges : goal.fed_problem-requires-clause-judges
fed_problem-requires-clause-judges g c =
    let at = c.in-Some.ensures.lookup in
    let accepted = some_and_at (λ d. IsAccepted d.rules.defs d.rules.caps c.in-Ok.problem) _ c.in-Some.domain.now
    (slice_at c.args.domains.now c.in-Ok.problem.domain c.in-Some.domain.now at.3.0 at.1) c.in-Ok.ensures.accepted in
    λ κs lives. (rw at.1 (c.requires.keeps c.in-Ok.problem.domain c.in-Some.domain.now at.3.0), accepted.judges)

pub fed_problem-requires-clause-in_range : goal.fed_problem-requires-clause-in_range
fed_problem-requires-clause-in_range g c =
    let at = c.in-Some.ensures.lookup in
    λ κs lives. (some_and_at (λ d. IsAccepted d.rules.defs d.rules.caps c.in-Ok.problem) _ c.in-Some.domain.now
    (slice_at c.args.domains.now c.in-Ok.problem.domain c.in-Some.domain.now at.3.0 at.1) c.in-Ok.ensures.accepted).settings

pub fed_problem-requires-clause-schema : goal.fed_problem-requires-clause-schema
fed_problem-requires-clause-schema g c =
    let at = c.in-Some.ensures.lookup in
    λ κs lives. some_and_at (λ d. IsOfSchema d.schema c.in-Ok.problem.plan) _ c.in-Some.domain.now
    (slice_at c.args.domains.now c.in-Ok.problem.domain c.in-Some.domain.now at.3.0 at.1) c.in-Ok.ensures.schema

pub returns-in-Some-clause-ended : goal.returns-in-Some-clause-ended
returns-in-Some-clause-ended g c = λ run asks held spans.
    let at = c.in-Some.ensures.lookup in
    c.fed_problem.ensures.ended run
    (has_problem run c.args.files.now (domain_views c.args.domains.now) _ g.B.Book.meaning asks c.args.bytes.now
    (problem_view c.in-Ok.problem) _ _ held c.in-Ok.ensures.problem
    (stands_mapped domain_view c.args.domains.now c.in-Ok.problem.domain c.in-Some.domain.now at.3.0 at.1)
    (stands_mapped _ c.args.domains.now c.in-Ok.problem.domain c.in-Some.domain.now at.3.0 at.1))
    spans

pub returns-in-Err : goal.returns-in-Err
returns-in-Err g c =
    let other : c.in-Err.fault ≡ Memory → ⊥ = search rules in
    let refused = found_fault c.in-Err.fault _ other c.in-Err.ensures.problem in
    record {
      ended = λ run asks held spans.
          ended_saying _ status.Problem (refusal_line c.in-Err.fault) _ _ _
          (due_refused run c.args.files.now (domain_views c.args.domains.now) _ g.B.Book.meaning asks c.args.bytes.now c.in-Err.fault held refused)
          c.refuse.ensures.ended;
      given_back = refl;
      shelf = later_same _;
      sink = c.refuse.ensures.later;
    }
