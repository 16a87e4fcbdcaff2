-- A change leaves as many classes as there were.
use Rattle.std.proofs.Common.{◌≡◌, ◌∙◌, ◌<◌, ℕ, List, [], ◌∷◌, Option, length, set, fold, refl, ap, arith}
use Rattle.std.specs.List.{enumerate_from}
use Rattle.std.proofs.lemmas.List.{length-map, length-set}
use Rattle.plan_facts.specs.Plan.{PlanView, class_of}
use Rattle.plan_facts.specs.PlanChanges.{class_let_go, with_fact, without_fact, without_record}
use Rattle.plan_facts.proofs.Added.{grown, with_fact_is}
use Rattle.plan_changes.specs.Performed.{MayPerform, names_after, plan_after, plan_by, with_choice, with_item}
use Rattle.plan_changes.specs.Ready.{ReadyView}
use Rattle.plan_changes.specs.declared.change.Deed.{Deed}
use Rattle.plan_changes.specs.declared.change.Deed.TheVariants as deed
use Rattle.plan_changes.specs.declared.change.Item.{Item}
use Rattle.plan_changes.proofs.Kept.{choice_keeps, item_keeps}

added_count : (plan : PlanView) (class : ℕ) (fields : List _) (values : List (Option ℕ)) → length (with_fact plan class fields values).classes ≡ length plan.classes
added_count plan class fields values =
    ap (λ (p : PlanView). length p.classes) (with_fact_is plan class fields values)
    ∙ length-set plan.classes class (grown plan class fields values)

removed_count : (plan : PlanView) (class id : ℕ) → length (without_fact plan class id).classes ≡ length plan.classes
unfolding without_fact
removed_count plan class id =
    let view = without_record (class_of plan class) id in
    let rest = set plan.classes class view in
    length-map rest (class_let_go class id) ∙ length-set plan.classes class view

items_count : (names : List (List ℕ)) (class id : ℕ) (plan : PlanView) (pairs : List (ℕ × Option Item)) → class < length plan.classes → length (fold (with_item names class id) plan pairs).classes ≡ length plan.classes
items_count names class id plan [] within = refl
items_count names class id plan (pair ∷ pairs) within =
    let one = (item_keeps names plan class id pair.0 pair.1 within).count in
    items_count names class id (with_item names class id plan pair) pairs (omega (arith, one, within)) ∙ one

choices_count : (class id : ℕ) (plan : PlanView) (pairs : List (ℕ × Option (Option ℕ))) → class < length plan.classes → length (fold (with_choice class id) plan pairs).classes ≡ length plan.classes
choices_count class id plan [] within = refl
choices_count class id plan (pair ∷ pairs) within =
    let one = (choice_keeps plan class id pair.0 pair.1 within).count in
    choices_count class id (with_choice class id plan pair) pairs (omega (arith, one, within)) ∙ one

count_by : (done : Deed) (ready : ReadyView) (names : List (List ℕ)) (plan : PlanView) (rules : ℕ) → ready.deed ≡ done → MayPerform ready plan rules → length (plan_by done ready names plan).classes ≡ length plan.classes
count_by deed.Add ready names plan rules e may = added_count plan ready.class _ _
count_by deed.Remove ready names plan rules e may = removed_count plan ready.class ready.id
count_by deed.Alter ready names plan rules e may = items_count names ready.class ready.id plan (enumerate_from 0 ready.fields) (may.fact (let x = e in cc)).fits.there
count_by deed.Assign ready names plan rules e may = choices_count ready.class ready.id plan (enumerate_from 0 ready.values) (may.fact (let x = e in cc)).fits.there
count_by deed.Weight ready names plan rules e may = refl

-- a change that may be made leaves as many classes
pub as_many_classes : (ready : ReadyView) (names : List (List ℕ)) (plan : PlanView) (rules : ℕ) → MayPerform ready plan rules → length (plan_after ready names plan).classes ≡ length plan.classes
unfolding plan_after
as_many_classes ready names plan rules may = count_by ready.deed ready (names_after ready names) plan rules refl may
