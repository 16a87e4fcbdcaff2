use Rattle.std.proofs.Common.{◌≡◌, ℕ, ◌<◌, List, [], ◌∷◌, zero, suc, get_or, length, slice_get, sym, subst, arith}
use Rattle.std.specs.Prelude.{IsSomeAnd}
use Rattle.plan_changes.specs.Fits.{IsOfSchema}
use Rattle.plan_json.specs.Accepted.{IsAccepted}
use Rattle.director_rows.proofs.tests.domain_of.Goals as goal

-- a place of which something is said is within the list
said_within : {X : Type 0} (P : X → Type 0) (xs : List X) (k : ℕ) → IsSomeAnd (slice_get xs k) P → k < length xs
said_within P [] k said = absurd said
said_within P (first ∷ rest) zero said = omega arith
said_within P (first ∷ rest) (suc k) said = let later = said_within P rest k said in omega arith

-- what is said of the item at a place holds of what was read there
said_there : {X : Type 0} (P : X → Type 0) (xs : List X) (k : ℕ) (x : X) → x ≡ get_or xs k x → IsSomeAnd (slice_get xs k) P → P x
said_there P [] k x is said = absurd said
said_there P (first ∷ rest) zero x is said = subst P (sym is) said
said_there P (first ∷ rest) (suc k) x is said = said_there P rest k x is said

pub returns-clause-judges : goal.returns-clause-judges
returns-clause-judges g c =
    let domains = c.args.domains.now in
    let place = c.args.problem.now.domain in
    let domain = c.index-domains-problem.result in
    let is = c.index-domains-problem.is in
    let accepted = said_there (λ d. IsAccepted d.rules.defs d.rules.caps c.args.problem.now) domains place domain is c.requires.accepted in
    let within = said_within (λ d. IsAccepted d.rules.defs d.rules.caps c.args.problem.now) domains place c.requires.accepted in
    (rw is (c.requires.keeps place domain within), accepted.judges)

pub returns-clause-schema : goal.returns-clause-schema
returns-clause-schema g c =
    said_there (λ d. IsOfSchema d.schema c.args.problem.now.plan) c.args.domains.now c.args.problem.now.domain c.index-domains-problem.result c.index-domains-problem.is c.requires.fits
