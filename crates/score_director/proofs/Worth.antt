-- What a director needs of edits and totals.
use Rattle.std.proofs.Common.{◌≡◌, ◌∙◌, ℕ, zero, suc, ◌<◌, Option, Some, List, [], ◌∷◌, map, get_or, length, slice_get, refl, ap, sym, arith}
use Rattle.std.specs.Prelude.{option_map}
use Rattle.std.proofs.Math.Seq.{map-set_same}
use Rattle.std.proofs.lemmas.List.{length-map}
use Rattle.plan_facts.specs.Plan.{PlanView, ClassView, class_of, no_class}
use Rattle.plan_facts.specs.PlanChanges.{with_value}
use Rattle.plan_moves.specs.declared.edit.Set.{Set}
use Rattle.plan_moves.specs.Edits.{applied}
use Rattle.plan_rules.specs.declared.row.Match.{Match}
use Rattle.plan_rules.specs.declared.row.Part.{Part}
use Rattle.plan_rules.specs.declared.rule.RuleDef.{RuleDef}
use Rattle.plan_rules.specs.Meaning.{Meaning}
use Rattle.plan_rules.specs.Range.{sizes_of}
use Rattle.plan_rules.specs.Rows.{Facts, rule_rows}
use Rattle.plan_rules.specs.Totals.{all_matches}
use Rattle.plan_recalc.specs.Totals.{match_of}

-- a variable that is set changes no class's count of facts
pub sizes_of-with_value : (plan : PlanView) (class id var : ℕ) (value : Option ℕ) → sizes_of (with_value plan class id var value) ≡ sizes_of plan
unfolding with_value
sizes_of-with_value plan class id var value =
    map-set_same (λ (c : ClassView). length c.facts) plan.classes class _ no_class (length-map (class_of plan class).facts _)

-- nor does an edit
pub sizes_of-applied : (plan : PlanView) (sets : List Set) → sizes_of (applied plan sets) ≡ sizes_of plan
unfolding applied
sizes_of-applied plan [] = refl
sizes_of-applied plan (first ∷ rest) =
    sizes_of-applied (with_value plan first.class first.id first.var first.value) rest
    ∙ sizes_of-with_value plan first.class first.id first.var first.value

-- the item at a place
pub at_place : {X : Type 0} (xs : List X) (k : ℕ) (x : X) → k < length xs → x ≡ get_or xs k x → slice_get xs k ≡ Some x
at_place [] k x within read = absurd (omega arith)
at_place (y ∷ ys) zero x within read = ap (λ (z : _). Some z) (sym read)
at_place (y ∷ ys) (suc k) x within read = at_place ys k x (omega arith) read

-- each rule has its matches
pub length-all_matches : (m : Meaning) (f : Facts) (rules : List RuleDef) (weights : List ℕ) → length weights ≡ length rules → length (all_matches m f rules weights) ≡ length rules
length-all_matches m f [] weights each = refl
length-all_matches m f (rule ∷ rest) [] each = absurd (omega arith)
length-all_matches m f (rule ∷ rest) (weight ∷ weights) each =
    let later = length-all_matches m f rest weights (omega arith) in omega arith

-- the rows of a rule's matches
rows-matches_of : (m : Meaning) (rule : RuleDef) (weight : ℕ) (rows : List (List Part)) → map (λ (one : Match). one.row) (map (match_of m rule weight) rows) ≡ rows
rows-matches_of m rule weight [] = refl
rows-matches_of m rule weight (row ∷ rest) = ap (λ (later : List (List Part)). row ∷ later) (rows-matches_of m rule weight rest)

-- the rows of the matches at a place are those of the rule there
pub rows_at : (m : Meaning) (f : Facts) (rules : List RuleDef) (weights : List ℕ) (k : ℕ) → length weights ≡ length rules →
    option_map (map (λ (one : Match). one.row)) (slice_get (all_matches m f rules weights) k) ≡ option_map (rule_rows m f) (slice_get rules k)
rows_at m f [] weights k each = refl
rows_at m f (rule ∷ rest) [] k each = absurd (omega arith)
rows_at m f (rule ∷ rest) (weight ∷ weights) zero each = ap (λ (rows : List (List Part)). Some rows) (rows-matches_of m rule weight (rule_rows m f rule))
rows_at m f (rule ∷ rest) (weight ∷ weights) (suc k) each = rows_at m f rest weights k (omega arith)
