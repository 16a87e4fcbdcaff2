-- What a problem's bytes mean: a problem of one of the domains, or what it is refused for, from the value that serde_json reads.
use Rattle.std.specs.Prelude.{ℕ, nat_lt, List, length, Option, Some, None, option_and_then, unwrap_or, map, position, Result, Ok, Err, codes, slice_get, if◌then◌else◌}
use Rattle.std.specs.Option.{option_or}
use Rattle.std.specs.Str.{bytes_eq}
use Rattle.serde_json.specs.Data.{Data}
use Rattle.serde_json.specs.Find.{get, as_str}
use Rattle.json_values.specs.Values.{value_of}
use Rattle.plan_facts.specs.Plan.{PlanView}
use Rattle.plan_facts.specs.PlanFaults.{plan_of}
use Rattle.plan_settings.specs.declared.settings.Settings.{Settings}
use Rattle.problem_faults.specs.declared.fault.ProblemFault.{ProblemFault}
use Rattle.problem_faults.specs.declared.fault.ProblemFault.TheVariants.{TooLong, Json, UnknownDomain}
use Rattle.problem_settings.specs.Root.{format_of, root_fault}
use Rattle.problem_settings.specs.SettingsOf.{settings_fault_of, settings_of}
use Rattle.problem_settings.specs.Weights.{weights_fault, weights_of}
use Rattle.problem_records.specs.Facts.{raws_of, names_of}
use Rattle.problem_records.specs.RecordFaults.{records_fault}
use Rattle.plan_json.specs.Domains.{DomainView}
use Rattle.plan_json.specs.Limits.{limits_fault}

-- a problem: its domain's place, its plan, the names in it, its settings, and the weight of each rule
pub record ProblemView : Type 0 where
  pub domain : ℕ
  pub plan : PlanView
  pub names : List (List ℕ)
  pub settings : Settings
  pub weights : List ℕ

-- the facts of a problem's root
abbrev pub facts_of : Data → Data
facts_of root = unwrap_or (get (codes "facts") root) root

-- the plan of the facts
abbrev pub plan_in : DomainView → Data → PlanView
plan_in domain root = plan_of domain.classes (raws_of domain.classes (facts_of root))

-- the weights of the domain's rules
abbrev pub weights_in : DomainView → Data → List ℕ
weights_in domain root = weights_of domain.rules (get (codes "weights") root)

-- what the settings of a problem are refused for
abbrev pub settings_fault_in : Data → Option ProblemFault
settings_fault_in root = settings_fault_of (format_of root) (get (codes "settings") root)

-- what the weights of a problem of this domain are refused for
abbrev pub weights_fault_in : DomainView → Data → Option ProblemFault
weights_fault_in domain root = weights_fault domain.rules (get (codes "weights") root)

-- what the facts of a problem of this domain are refused for
abbrev pub records_fault_in : DomainView → Data → Option ProblemFault
records_fault_in domain root = records_fault domain.classes (facts_of root)

-- what the content of a problem of this domain is refused for, the first that applies
abbrev pub content_fault : DomainView → Data → Option ProblemFault
content_fault domain root =
    option_or (settings_fault_in root)
    (option_or (weights_fault_in domain root)
    (option_or (records_fault_in domain root)
    (limits_fault domain (weights_in domain root) (plan_in domain root))))

-- the problem that a root without a fault is
abbrev pub problem_in : ℕ → DomainView → Data → ProblemView
problem_in place domain root = record {
  domain = place;
  plan = plan_in domain root;
  names = names_of domain.classes (facts_of root);
  settings = settings_of (get (codes "settings") root);
  weights = weights_in domain root;
}

-- a value, or the fault that was found
abbrev pub unless_fault : {A : Type 0} → Option ProblemFault → A → Result A ProblemFault
unless_fault None value = Ok value
unless_fault (Some fault) value = Err fault

-- the name of the domain that a root names
abbrev pub domain_name_in : Data → Option (List ℕ)
domain_name_in root = option_and_then as_str (get (codes "domain") root)

-- the place of the first domain of the name that the root has
abbrev pub place_of_domain : List DomainView → Data → Option ℕ
place_of_domain domains root =
    option_and_then (λ name. position (bytes_eq name) (map (λ domain. domain.name) domains)) (domain_name_in root)

-- the problem of the domain that stands at this place, if there is one
abbrev pub problem_under : Data → ℕ → Option DomainView → Result ProblemView ProblemFault
problem_under root place None = Err UnknownDomain
problem_under root place (Some domain) = unless_fault (content_fault domain root) (problem_in place domain root)

-- the problem of the domain at this place
abbrev pub problem_at : List DomainView → Data → Option ℕ → Result ProblemView ProblemFault
problem_at domains root None = Err UnknownDomain
problem_at domains root (Some place) = problem_under root place (slice_get domains place)

-- the problem that a root is
abbrev pub problem_of_root : List DomainView → Data → Result ProblemView ProblemFault
problem_of_root domains root =
    elim (root_fault root) [ Some fault ↦ Err fault | None ↦ problem_at domains root (place_of_domain domains root) ]

-- the problem that a value is, if there is one
abbrev pub problem_of_value : List DomainView → Option Data → Result ProblemView ProblemFault
problem_of_value domains None = Err Json
problem_of_value domains (Some root) = problem_of_root domains root

-- the problem that the bytes are, or what they are refused for, the first that applies
unfoldable pub problem_of : List DomainView → List ℕ → Result ProblemView ProblemFault
problem_of domains bytes =
    if nat_lt 67108864 (length bytes) then Err TooLong else problem_of_value domains (value_of bytes)
