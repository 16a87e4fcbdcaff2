use Rattle.std.proofs.Common.{sym, subst}
use Rattle.plan_changes.specs.Fits.{IsOfSchema}
use Rattle.plan_changes.proofs.Schemas.{made_schema}
use Rattle.score_director.specs.View.{DirectorView}
use Rattle.worker_rows.proofs.tests.workers.director_of.Goals as goal

pub returns-clause-schema : goal.returns-clause-schema
returns-clause-schema g c =
    let classes = c.args.kit.now.schema.now in
    let made = subst (IsOfSchema classes) (sym c.in_ok-plan.ensures.plan) (made_schema classes _ c.in_ok-plan.ensures.ok) in
    subst (λ (d : DirectorView). IsOfSchema classes d.plan) (sym c.in_ok-director.ensures) made
