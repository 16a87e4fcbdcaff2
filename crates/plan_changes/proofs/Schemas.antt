-- Plans stay of their schema.
use Rattle.std.proofs.Common.{◌≡◌, ◌∙◌, ◌≤◌, ◌<◌, ◌+◌, ◌==◌, ℕ, ℤ, zero, suc, Bool, true, false, cond, List, [], ◌∷◌, Option, Some, None, length, map, zip, set, get_or, fold, refl, sym, ap, subst, arith}
use Rattle.std.specs.List.{enumerate_from}
use Rattle.std.proofs.lemmas.List.{length-map, length-set}
use Rattle.plan_facts.specs.Plan.{PlanView, ClassView, no_class, class_of}
use Rattle.plan_facts.specs.PlanChanges.{class_let_go, with_class, with_fact, without_fact, without_record}
use Rattle.plan_facts.specs.PlanFaults.{class_with, plan_fault, plan_of, lists_fault}
use Rattle.plan_facts.specs.declared.record.Raw.{Raw}
use Rattle.plan_facts.specs.declared.record.ClassDef.{ClassDef}
use Rattle.plan_facts.specs.declared.fault.PlanFault.TheVariants.{ClassCount}
use Rattle.plan_facts.proofs.Added.{grown, with_fact_is}
use Rattle.plan_facts.proofs.Changed.{each_class}
use Rattle.plan_facts.proofs.FirstLaws.{option_or-none}
use Rattle.plan_facts.proofs.Places.{same_eqb}
use Rattle.plan_facts.proofs.PlanOf.{held_none}
use Rattle.plan_facts.proofs.Sound.{KeepsIds}
use Rattle.plan_changes.specs.Fits.{Shape, shape_of, shape_in, IsOfSchema}
use Rattle.plan_changes.specs.Performed.{altered, assigned, names_after, plan_after, plan_by, with_choice, with_item, MayPerform}
use Rattle.plan_changes.specs.Ready.{ReadyView}
use Rattle.plan_changes.specs.declared.change.Deed.{Deed}
use Rattle.plan_changes.specs.declared.change.Deed.TheVariants as deed
use Rattle.plan_changes.specs.declared.change.Item.{Item}
use Rattle.plan_changes.proofs.Kept.{keeps_itself, keeps_after, item_keeps, choice_keeps}

-- lists with the same members at each place are the same
same_members : {A : Type 0} (d : A) (xs ys : List A) → length xs ≡ length ys → ((k : ℕ) → get_or xs k d ≡ get_or ys k d) → xs ≡ ys
same_members d [] [] long each = refl
same_members d [] (y ∷ ys) long each = absurd (omega arith)
same_members d (x ∷ xs) [] long each = absurd (omega arith)
same_members d (x ∷ xs) (y ∷ ys) long each =
    let first : x ≡ y = each 0 in
    let rest = same_members d xs ys (omega arith) (λ k. each (suc k)) in
    cc

image_at : {A B : Type 0} (f : A → B) (xs : List A) (k : ℕ) (d : A) → get_or (map f xs) k (f d) ≡ f (get_or xs k d)
image_at f [] k d = refl
image_at f (x ∷ xs) zero d = refl
image_at f (x ∷ xs) (suc k) d = image_at f xs k d

-- a plan with as many classes of the same shapes is of the same schemas
pub same_shapes : (classes : List ClassDef) (old new : PlanView) → length new.classes ≡ length old.classes → ((n : ℕ) → shape_in (class_of new n) ≡ shape_in (class_of old n)) → IsOfSchema classes old → IsOfSchema classes new
same_shapes classes old new count each is =
    same_members (shape_in no_class) (map shape_in new.classes) (map shape_in old.classes) (length-map new.classes shape_in ∙ count ∙ sym (length-map old.classes shape_in))
    (λ k. image_at shape_in new.classes k no_class ∙ each k ∙ sym (image_at shape_in old.classes k no_class))
    ∙ is

abbrev shape_with : (fields : ℕ) (ranges : List ℕ) (nullables : List Bool) → Shape
shape_with fields ranges nullables = record { fields = fields; ranges = ranges; nullables = nullables }

-- what keeps classes and ids keeps the schema
pub kept_schema : (classes : List ClassDef) (old new : PlanView) → KeepsIds old new → IsOfSchema classes old → IsOfSchema classes new
kept_schema classes old new keeps is =
    same_shapes classes old new keeps.count (λ n.
    ap (λ fields. shape_with fields (class_of new n).ranges (class_of new n).nullables) (keeps.fields n)
    ∙ ap (λ ranges. shape_with (class_of old n).fields ranges (class_of new n).nullables) (keeps.ranges n)
    ∙ ap (λ nullables. shape_with (class_of old n).fields (class_of old n).ranges nullables) (keeps.nullables n)) is

-- one more fact keeps the schema
pub added_schema : (classes : List ClassDef) (plan : PlanView) (class : ℕ) (fields : List ℤ) (values : List (Option ℕ)) → class < length plan.classes → IsOfSchema classes plan → IsOfSchema classes (with_fact plan class fields values)
added_schema classes plan class fields values within is =
    let view = grown plan class fields values in
    subst (λ (p : PlanView). IsOfSchema classes p) (sym (with_fact_is plan class fields values))
    (same_shapes classes plan (record { classes = set plan.classes class view; made = plan.made + 1 }) (length-set plan.classes class view)
    (each_class (λ n v. shape_in v ≡ shape_in (class_of plan n)) plan class view within refl (λ n. refl)) is)

-- a fact that is gone keeps the schema
pub removed_schema : (classes : List ClassDef) (plan : PlanView) (class id : ℕ) → class < length plan.classes → IsOfSchema classes plan → IsOfSchema classes (without_fact plan class id)
unfolding without_fact
removed_schema classes plan class id within is =
    let view = without_record (class_of plan class) id in
    let rest = set plan.classes class view in
    same_shapes classes plan (without_fact plan class id) (length-map rest (class_let_go class id) ∙ length-set plan.classes class view)
    (λ n. ap shape_in (image_at (class_let_go class id) rest n no_class) ∙ each_class (λ m v. shape_in v ≡ shape_in (class_of plan m)) plan class view within refl (λ m. refl) n) is

pub items_keep : (names : List (List ℕ)) (class id : ℕ) (plan : PlanView) (pairs : List (ℕ × Option Item)) → class < length plan.classes → KeepsIds plan (fold (with_item names class id) plan pairs)
items_keep names class id plan [] within = keeps_itself plan
items_keep names class id plan (pair ∷ pairs) within =
    let next = with_item names class id plan pair in
    let one = item_keeps names plan class id pair.0 pair.1 within in
    let count = one.count in
    keeps_after plan next (fold (with_item names class id) next pairs) one (items_keep names class id next pairs (omega arith))

pub choices_keep : (class id : ℕ) (plan : PlanView) (pairs : List (ℕ × Option (Option ℕ))) → class < length plan.classes → KeepsIds plan (fold (with_choice class id) plan pairs)
choices_keep class id plan [] within = keeps_itself plan
choices_keep class id plan (pair ∷ pairs) within =
    let next = with_choice class id plan pair in
    let one = choice_keeps plan class id pair.0 pair.1 within in
    let count = one.count in
    keeps_after plan next (fold (with_choice class id) next pairs) one (choices_keep class id next pairs (omega arith))

performed_by : (done : Deed) (ready : ReadyView) (names : List (List ℕ)) (classes : List ClassDef) (plan : PlanView) → ready.class < length plan.classes → IsOfSchema classes plan → IsOfSchema classes (plan_by done ready names plan)
performed_by deed.Add ready names classes plan within is = added_schema classes plan ready.class _ _ within is
performed_by deed.Remove ready names classes plan within is = removed_schema classes plan ready.class ready.id within is
performed_by deed.Alter ready names classes plan within is = kept_schema classes plan _ (items_keep names ready.class ready.id plan (enumerate_from 0 ready.fields) within) is
performed_by deed.Assign ready names classes plan within is = kept_schema classes plan _ (choices_keep ready.class ready.id plan (enumerate_from 0 ready.values) within) is
performed_by deed.Weight ready names classes plan within is = is

within_or_weight : (done : Deed) (ready : ReadyView) (names : List (List ℕ)) (classes : List ClassDef) (plan : PlanView) → ready.deed ≡ done → (rules : ℕ) → MayPerform ready plan rules → IsOfSchema classes plan → IsOfSchema classes (plan_by done ready names plan)
within_or_weight deed.Add ready names classes plan e rules may is = performed_by deed.Add ready names classes plan (may.fact (let x = e in cc)).fits.there is
within_or_weight deed.Remove ready names classes plan e rules may is = performed_by deed.Remove ready names classes plan (may.fact (let x = e in cc)).fits.there is
within_or_weight deed.Alter ready names classes plan e rules may is = performed_by deed.Alter ready names classes plan (may.fact (let x = e in cc)).fits.there is
within_or_weight deed.Assign ready names classes plan e rules may is = performed_by deed.Assign ready names classes plan (may.fact (let x = e in cc)).fits.there is
within_or_weight deed.Weight ready names classes plan e rules may is = is

-- a change that may be made keeps the schema
pub performed_schema : (ready : ReadyView) (plan : PlanView) (rules : ℕ) (names : List (List ℕ)) (classes : List ClassDef) → MayPerform ready plan rules → IsOfSchema classes plan → IsOfSchema classes (plan_after ready names plan)
unfolding plan_after
performed_schema ready plan rules names classes may is = within_or_weight ready.deed ready (names_after ready names) classes plan refl rules may is

made_shapes : (classes : List ClassDef) (lists : List (List Raw)) → length lists ≡ length classes → map shape_in (map (λ (pair : ClassDef × List Raw). class_with pair.0 pair.1) (zip classes lists)) ≡ map shape_of classes
made_shapes [] lists long = refl
made_shapes (class ∷ classes) [] long = absurd (omega arith)
made_shapes (class ∷ classes) (raws ∷ lists) long = ap (λ shapes. shape_of class ∷ shapes) (made_shapes classes lists (omega arith))

-- a plan that is made of a schema is of it
pub made_schema : (classes : List ClassDef) (lists : List (List Raw)) → plan_fault classes lists ≡ None → IsOfSchema classes (plan_of classes lists)
unfolding plan_fault plan_of
made_schema classes lists none =
    let count = held_none _ _ (option_or-none (cond (length lists == length classes) None (Some ClassCount)) _ none).0 in
    made_shapes classes lists (same_eqb (length lists) (length classes) count)
