-- Problems that were read, as a search sees them.
use Rattle.std.specs.Prelude.{List}
use Rattle.plan_rules.specs.Meaning.{Meaning}
use Rattle.move_selectors.specs.Candidates.{Made}
use Rattle.plan_json.specs.Domains.{DomainView}
use Rattle.plan_json.specs.Problem.{ProblemView}
use Rattle.plan_search.specs.Posed.{Posed, State}
use Rattle.plan_settings.specs.declared.settings.Settings.{Settings}

-- the state that a problem begins with
abbrev pub state_read : ProblemView → State
state_read problem = record { plan = problem.plan; names = problem.names; weights = problem.weights }

-- the problem of a domain whose closures mean this and whose makers make these moves, with settings, that begins with a state
abbrev pub posed_at : Meaning → List Made → DomainView → Settings → State → Posed
posed_at meaning makers domain settings origin = record {
  name = domain.name;
  classes = domain.classes;
  rules = domain.rules;
  harder = domain.harder;
  meaning = meaning;
  makers = makers;
  settings = settings;
  origin = origin;
}

-- a problem that was read, of a domain whose closures mean this and whose makers make these moves
abbrev pub posed_in : Meaning → List Made → DomainView → ProblemView → Posed
posed_in meaning makers domain problem = posed_at meaning makers domain problem.settings (state_read problem)
