-- How reading sees a domain.
use Rattle.std.specs.Prelude.{ℕ, ℤ, Bool, List, map, slice_get, IsSomeAnd}
use Rattle.plan_rules.specs.Closures.{Boxed}
use Rattle.plan_changes.specs.Fits.{IsOfSchema}
use Rattle.plan_json.specs.Domains.{DomainView}
use Rattle.plan_json.specs.Accepted.{IsAccepted}
use Rattle.plan_json.specs.declared.domain.Domain.{Domain}
use Rattle.plan_json.specs.declared.problem.Problem.{Problem}

module _ {B X Y Z M : Type 0} {F : X → Type 0} {G : Y → Type 0} {H : Z → Type 0} {K : M → Type 0}
    {of_tests : Boxed X F Bool} {of_keys : Boxed Y G ℤ} {of_weighs : Boxed Z H ℕ} where
  -- the domain as it was handed in
  abbrev pub domain_view : Domain B X Y Z M F G H K of_tests of_keys of_weighs → DomainView
  domain_view d = record {
    name = d.name;
    classes = d.schema;
    rules = d.rules.defs;
    caps = d.rules.caps;
    harder = d.rules.harder;
  }

  -- the domains as they were handed in
  abbrev pub domain_views : List (Domain B X Y Z M F G H K of_tests of_keys of_weighs) → List DomainView
  domain_views domains = map domain_view domains

  -- the problem's domain is one of these, and accepts it
  abbrev pub IsAcceptedBy : List (Domain B X Y Z M F G H K of_tests of_keys of_weighs) → Problem → Type 0
  IsAcceptedBy domains p =
      IsSomeAnd (slice_get domains p.domain) (λ domain. IsAccepted domain.rules.defs domain.rules.caps p)

  -- the problem's domain is one of these, and its plan is of that domain's schema
  abbrev pub FitsItsDomain : List (Domain B X Y Z M F G H K of_tests of_keys of_weighs) → Problem → Type 0
  FitsItsDomain domains p = IsSomeAnd (slice_get domains p.domain) (λ domain. IsOfSchema domain.schema p.plan)
