use Rattle.std.proofs.Common.{◌≡◌, refl, rules}
use Rattle.problem_faults.specs.declared.fault.ProblemFault.TheVariants.{Memory}
use Rattle.problem_faults.specs.Words.{refusal_line}
use Rattle.plan_json.specs.Accepted.{IsAccepted, problem_view}
use Rattle.plan_json.specs.Seen.{domain_view}
use Rattle.plan_session.specs.declared.status.Status.TheVariants as status
use Rattle.plan_session.specs.Task.{text_wanted}
use Rattle.plan_session.proofs.DueLaws.{due_for_bytes, found_fault, slice_at, some_and_at, stands_mapped}
use Rattle.plan_session.proofs.EndingLaws.{Ended-weaker, ended_saying}
use Rattle.plan_session.proofs.answer.answer.Goals as goal

pub respond-requires-clause-judges : goal.respond-requires-clause-judges
respond-requires-clause-judges g c =
    let at = c.in-Some.ensures.lookup in
    let accepted = some_and_at (λ d. IsAccepted d.rules.defs d.rules.caps c.in-Ok.problem) _ c.in-Some.domain.now
    (slice_at c.args.domains.now c.in-Ok.problem.domain c.in-Some.domain.now at.3.0 at.1) c.in-Ok.ensures.accepted in
    λ κs lives. (rw at.1 (c.requires.keeps c.in-Ok.problem.domain c.in-Some.domain.now at.3.0), accepted.judges)

pub respond-requires-clause-in_range : goal.respond-requires-clause-in_range
respond-requires-clause-in_range g c =
    let at = c.in-Some.ensures.lookup in
    λ κs lives. (some_and_at (λ d. IsAccepted d.rules.defs d.rules.caps c.in-Ok.problem) _ c.in-Some.domain.now
    (slice_at c.args.domains.now c.in-Ok.problem.domain c.in-Some.domain.now at.3.0 at.1) c.in-Ok.ensures.accepted).settings

pub returns-in-Some-clause-ended : goal.returns-in-Some-clause-ended
returns-in-Some-clause-ended g c =
    let at = c.in-Some.ensures.lookup in
    Ended-weaker _ _ _ _ _
    (due_for_bytes _ _ g.B.Book.meaning (text_wanted c.args.wanted) c.args.bytes.now (problem_view c.in-Ok.problem) _ _ c.in-Ok.ensures.problem
    (stands_mapped domain_view c.args.domains.now c.in-Ok.problem.domain c.in-Some.domain.now at.3.0 at.1)
    (stands_mapped _ c.args.domains.now c.in-Ok.problem.domain c.in-Some.domain.now at.3.0 at.1))
    c.respond.ensures.ended

pub returns-in-Err : goal.returns-in-Err
returns-in-Err g c =
    let other : c.in-Err.fault ≡ Memory → ⊥ = search rules in
    let refused = found_fault c.in-Err.fault _ other c.in-Err.ensures.problem in
    record {
      ended = ended_saying _ status.Problem (refusal_line c.in-Err.fault) _ _ _
          (record { fault = c.in-Err.fault; refused = refused; says = refl }) c.refuse.ensures.ended;
      later = c.refuse.ensures.later;
    }
