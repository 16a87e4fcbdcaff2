use Rattle.plan_changes.specs.Fits.{IsOfSchema}
use Rattle.plan_json.specs.Accepted.{IsAccepted}
use Rattle.plan_session.proofs.DueLaws.{slice_at, some_and_at}
use Rattle.run_rows.proofs.tests.gates.MeetsAct.act.Goals as goal

pub drive-requires-clause-judges : goal.drive-requires-clause-judges
drive-requires-clause-judges g c =
    let at = c.in-Some.ensures.lookup in
    let accepted = some_and_at (λ d. IsAccepted d.rules.defs d.rules.caps c.in-Ok.problem) _ c.in-Some.domain.now
    (slice_at c.args.domains.now c.in-Ok.problem.domain c.in-Some.domain.now at.3.0 at.1) c.in-Ok.ensures.accepted in
    λ κs lives. (rw at.1 (c.requires.keeps c.in-Ok.problem.domain c.in-Some.domain.now at.3.0), accepted.judges)

pub drive-requires-clause-in_range : goal.drive-requires-clause-in_range
drive-requires-clause-in_range g c =
    let at = c.in-Some.ensures.lookup in
    λ κs lives. (some_and_at (λ d. IsAccepted d.rules.defs d.rules.caps c.in-Ok.problem) _ c.in-Some.domain.now
    (slice_at c.args.domains.now c.in-Ok.problem.domain c.in-Some.domain.now at.3.0 at.1) c.in-Ok.ensures.accepted).settings

pub drive-requires-clause-schema : goal.drive-requires-clause-schema
drive-requires-clause-schema g c =
    let at = c.in-Some.ensures.lookup in
    λ κs lives. some_and_at (λ d. IsOfSchema d.schema c.in-Ok.problem.plan) _ c.in-Some.domain.now
    (slice_at c.args.domains.now c.in-Ok.problem.domain c.in-Some.domain.now at.3.0 at.1) c.in-Ok.ensures.schema
