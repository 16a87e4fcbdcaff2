-- What a root without a flaw has.
use Rattle.std.proofs.Common.{◌≡◌, Bool, true, false, not, cond, codes, Option, Some, None, refl}
use Rattle.serde_json.specs.Data.{Data}
use Rattle.json_values.specs.Values.{is_object, is_text, must_be, may_be}
use Rattle.problem_settings.proofs.Lists.{nothing_mapped}
use Rattle.problem_settings.specs.Root.{is_format, root_flaw}

passed : {A : Type 0} (b : Bool) (x : A) (rest : Option A) → cond (not b) (Some x) rest ≡ None → (b ≡ true) × (rest ≡ None)
passed true x rest e = (refl, e)
passed false x rest e = cc

-- a root without a flaw has a domain, which is a text, and facts, which are an object
pub parts_there : (root : Data) → root_flaw root ≡ None → (must_be is_text (codes "domain") root ≡ true) × (must_be is_object (codes "facts") root ≡ true)
parts_there root none =
    let object = passed (is_object root) _ _ (nothing_mapped _ _ none) in
    let format = passed (must_be is_format (codes "format") root) _ _ object.1 in
    let domain = passed (must_be is_text (codes "domain") root) _ _ format.1 in
    let settings = passed (may_be is_object (codes "settings") root) _ _ domain.1 in
    let weights = passed (may_be is_object (codes "weights") root) _ _ settings.1 in
    let facts = passed (must_be is_object (codes "facts") root) _ _ weights.1 in
    (domain.0, facts.0)
