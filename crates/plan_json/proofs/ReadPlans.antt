-- The plan that is made of facts is of their schema.
use Rattle.std.proofs.Common.{◌≡◌, ◌∙◌, List, [], ◌∷◌, length, map, zip, refl, sym, ap, subst, arith}
use Rattle.std.proofs.lemmas.List.{length-map}
use Rattle.serde_json.specs.Data.{Data}
use Rattle.plan_facts.specs.Plan.{PlanView}
use Rattle.plan_facts.specs.PlanFaults.{class_with, plan_of}
use Rattle.plan_facts.specs.declared.record.ClassDef.{ClassDef}
use Rattle.plan_facts.specs.declared.record.Raw.{Raw}
use Rattle.plan_changes.specs.Fits.{IsOfSchema, shape_in, shape_of}
use Rattle.problem_records.specs.Facts.{class_raws, names_of, raws_of}

made_shapes : (classes : List ClassDef) (lists : List (List Raw)) → length lists ≡ length classes → map shape_in (map (λ (pair : ClassDef × List Raw). class_with pair.0 pair.1) (zip classes lists)) ≡ map shape_of classes
made_shapes [] lists long = refl
made_shapes (class ∷ classes) [] long = absurd (omega arith)
made_shapes (class ∷ classes) (raws ∷ lists) long = ap (λ shapes. shape_of class ∷ shapes) (made_shapes classes lists (omega arith))

facts_fit : (classes : List ClassDef) (facts : Data) → IsOfSchema classes (plan_of classes (raws_of classes facts))
unfolding plan_of raws_of
facts_fit classes facts =
    let raws = class_raws (names_of classes facts) facts in
    made_shapes classes (map raws classes) (length-map classes raws)

-- the plan that was read of facts is of the schema
pub read_fits : (classes : List ClassDef) (facts : Data) (plan : PlanView) → plan ≡ plan_of classes (raws_of classes facts) → IsOfSchema classes plan
read_fits classes facts plan is = subst (IsOfSchema classes) (sym is) (facts_fit classes facts)
