-- A problem that was read is posed by its domain, its settings, its plan and its weights.
use Rattle.std.proofs.Common.{List, refl}
use Rattle.plan_rules.specs.Meaning.{Meaning}
use Rattle.move_selectors.specs.Candidates.{Made}
use Rattle.plan_json.specs.Domains.{DomainView}
use Rattle.plan_json.specs.Problem.{ProblemView}
use Rattle.plan_session.specs.Begun.{IsOrigin, IsPosedBy}
use Rattle.plan_session.specs.Posed.{posed_in}

pub is_posed : (m : Meaning) (makers : List Made) (domain : DomainView) (problem : ProblemView)
    → IsPosedBy m makers domain problem.settings (posed_in m makers domain problem)
is_posed m makers domain problem = record {
  means = refl;
  makers_are = refl;
  name = refl;
  classes = refl;
  rules = refl;
  harder = refl;
  settings_are = refl;
}

pub is_origin : (m : Meaning) (makers : List Made) (domain : DomainView) (problem : ProblemView)
    → IsOrigin problem.plan problem.weights (posed_in m makers domain problem)
is_origin m makers domain problem = record { plan_is = refl; weights_are = refl }
