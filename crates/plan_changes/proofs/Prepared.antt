-- What is prepared of a plan of the schema may be performed.
use Rattle.std.proofs.Common.{◌≡◌, ◌∙◌, ◌≤◌, ◌<◌, ◌+◌, ◌||◌, ◌&&◌, inl, inr, ℕ, zero, suc, Bool, true, false, cond, not, nat_lt, IsTrue, IsSomeAnd, List, [], ◌∷◌, ◌++◌, Option, Some, None, is_some, length, map, get_or, All, refl, sym, ap, subst, arith}
use Rattle.std.specs.List.{AllZip, list_any}
use Rattle.std.specs.Option.{option_or, option_map_or}
use Rattle.std.proofs.lemmas.Bool.Decides.{nat_tests}
use Rattle.std.proofs.lemmas.List.{length-map, length-append}
use Rattle.std.proofs.lemmas.List.Elements.{All-cons, All-map, All-nil, All-weaker}
use Rattle.plan_facts.specs.Limits.{fact_limit, field_limit}
use Rattle.plan_facts.specs.First.{first_fault}
use Rattle.plan_facts.specs.Plan.{PlanView, class_of, no_class, fact_of, is_live, is_value_of, next_id_of, IsPlan, IsRecordOf}
use Rattle.plan_facts.specs.PlanFaults.{ranges_of}
use Rattle.plan_facts.specs.Schema.{HasFewMembers}
use Rattle.plan_facts.specs.declared.record.Raw.{Raw}
use Rattle.plan_facts.specs.declared.record.Kind.{Kind}
use Rattle.plan_facts.specs.declared.record.Kind.TheVariants as kind
use Rattle.plan_facts.specs.declared.record.ClassDef.{ClassDef}
use Rattle.plan_facts.specs.declared.record.FieldDef.{FieldDef}
use Rattle.plan_facts.specs.declared.record.VarDef.{VarDef}
use Rattle.plan_facts.proofs.FirstLaws.{option_or-none}
use Rattle.plan_facts.proofs.PlanOf.{refused_none, held_none}
use Rattle.plan_facts.proofs.Places.{found_holds, of_record}
use Rattle.plan_facts.proofs.Sound.{class_at, record_fits}
use Rattle.plan_changes.specs.Change.{ChangeView}
use Rattle.plan_changes.specs.Deeds.{gives_fields, is_add, is_weight}
use Rattle.plan_changes.specs.Fits.{Shape, shape_of, shape_in, IsOfSchema}
use Rattle.plan_changes.specs.Named.{def_of, no_def, item_for, items_for, value_for, values_for, value_given}
use Rattle.plan_changes.specs.Performed.{is_in_range, text_in, texts_in, texts_of, names_after, numbered, FitsClass, FitsRecord, HasRoom, IsChoice, IsNext, IsThere, MayPerform, MayPerformFact}
use Rattle.plan_changes.specs.Ready.{ReadyView, id_of, ready_fact}
use Rattle.plan_changes.specs.Refused.{fact_fault_in, growth_fault, has_bad_field, has_bad_value, is_bad_field, is_bad_variable, is_good_item, lacks_fact, names_other_field, names_other_variable, width_fault}
use Rattle.plan_changes.specs.declared.change.FieldItem.{FieldItem}
use Rattle.plan_changes.specs.declared.change.ValueItem.{ValueItem}
use Rattle.plan_changes.specs.declared.change.Deed.TheVariants.{Add, Remove, Alter, Assign, Weight}
use Rattle.plan_changes.specs.declared.change.Item.{Item}
use Rattle.plan_changes.specs.declared.change.Item.TheVariants.{Num, Name}
use Rattle.plan_changes.specs.declared.fault.ChangeFault.{ChangeFault}
use Rattle.plan_changes.specs.declared.fault.ChangeFault.TheVariants.{NoSuchFact, BadField, BadValue, TooManyFacts}
use Rattle.plan_changes.proofs.Numbered.{numbered_few}

pub both_false : (a b : Bool) → (a || b) ≡ false → (a ≡ false) × (b ≡ false)
both_false true b h = cc
both_false false b h = (refl, h)

not_false : (b : Bool) → not b ≡ false → b ≡ true
not_false true h = refl
not_false false h = cc

none_passes : {A : Type 0} (p : A → Bool) (xs : List A) → list_any p xs ≡ false → All (λ x. p x ≡ false) xs
none_passes p [] h = All-nil (λ x. p x ≡ false)
none_passes p (x ∷ xs) h =
    let parts = both_false (p x) (list_any p xs) h in
    All-cons (λ y. p y ≡ false) x xs parts.0 (none_passes p xs parts.1)

good_in_range : (kind : Kind) (item : Item) → not (is_good_item kind item) ≡ false → is_in_range (Some item) ≡ true
good_in_range kind.Number (Num number) h = not_false _ h
good_in_range kind.Number (Name text) h = cc
good_in_range kind.Name (Num number) h = cc
good_in_range kind.Name (Name text) h = refl

field_in_range : (needed : Bool) (kind : Kind) (item : Option Item) → option_map_or (λ item. not (is_good_item kind item)) item needed ≡ false → is_in_range item ≡ true
field_in_range needed kind None h = refl
field_in_range needed kind (Some item) h = good_in_range kind item h

-- fields that aren't bad get numbers in range
fields_in_range : (needed : Bool) (items : List FieldItem) (class : ClassDef) → list_any (is_bad_field needed items) class.fields ≡ false → All (λ item. is_in_range item ≡ true) (items_for items class)
fields_in_range needed items class h =
    All-map (λ item. is_in_range item ≡ true) (item_for items) class.fields (All-weaker (λ field. is_bad_field needed items field ≡ false) _ (λ (field : FieldDef) good. field_in_range needed field.kind (item_for items field) good) class.fields (none_passes (is_bad_field needed items) class.fields h))

-- variables that aren't bad get what they may hold
choices_fit : (plan : PlanView) (items : List ValueItem) (vars : List VarDef) → list_any (is_bad_variable plan items) vars ≡ false → AllZip (IsChoice plan) (map (λ var. var.values) vars) (map (value_for items) vars)
choices_fit plan items [] h = tt
choices_fit plan items (var ∷ vars) h =
    let parts = both_false (is_bad_variable plan items var) (list_any (is_bad_variable plan items) vars) h in
    (not_false _ parts.0, choices_fit plan items vars parts.1)

image_at : {A B : Type 0} (f : A → B) (xs : List A) (k : ℕ) (d : A) → get_or (map f xs) k (f d) ≡ f (get_or xs k d)
image_at f [] k d = refl
image_at f (x ∷ xs) zero d = refl
image_at f (x ∷ xs) (suc k) d = image_at f xs k d

-- each class of a plan has the shape that the schema says
pub shape_at : (classes : List ClassDef) (plan : PlanView) (n : ℕ) → IsOfSchema classes plan → shape_in (class_of plan n) ≡ shape_of (def_of classes n)
shape_at classes plan n is =
    sym (image_at shape_in plan.classes n no_class) ∙ ap (λ (shapes : List Shape). get_or shapes n (shape_in no_class)) is ∙ image_at shape_of classes n no_def

pub as_many_classes : (classes : List ClassDef) (plan : PlanView) → IsOfSchema classes plan → length plan.classes ≡ length classes
as_many_classes classes plan is = sym (length-map plan.classes shape_in) ∙ ap (λ (shapes : List Shape). length shapes) is ∙ length-map classes shape_of

is_live_there : (plan : PlanView) (class id : ℕ) (ready : ReadyView) (found : Option Raw) → fact_of plan class id ≡ found → is_some found ≡ true → ((raw : Raw) → fact_of plan class id ≡ Some raw → FitsRecord ready raw) → IsSomeAnd (fact_of plan class id) (FitsRecord ready)
is_live_there plan class id ready None is live fits = absurd (let e : false ≡ true = live in cc)
is_live_there plan class id ready (Some raw) is live fits = of_record (FitsRecord ready) is (fits raw is)

-- a change of a fact that isn't refused may be made of a plan of the schema
pub fact_may : (classes : List ClassDef) (plan : PlanView) (class : ℕ) (change : ChangeView) → IsOfSchema classes plan → IsPlan plan → class < length classes → HasFewMembers (def_of classes class) → fact_fault_in classes plan class change ≡ None → MayPerformFact (ready_fact plan class (def_of classes class) change) plan
fact_may classes plan class change is sound within few none =
    let def = def_of classes class in
    let ready = ready_fact plan class def change in
    let one = option_or-none (cond (lacks_fact plan class change) (Some (NoSuchFact change.id)) None) _ none in
    let two = option_or-none (cond (has_bad_field def change) (Some BadField) None) _ one.1 in
    let three = option_or-none (cond (has_bad_value plan def change) (Some BadValue) None) _ two.1 in
    let lacks = refused_none (lacks_fact plan class change) (NoSuchFact change.id) one.0 in
    let fields = both_false (list_any (names_other_field def) change.fields) (list_any (is_bad_field (is_add change.deed) change.fields) def.fields) (refused_none (has_bad_field def change) BadField two.0) in
    let values = both_false (list_any (names_other_variable def) change.values) (list_any (is_bad_variable plan change.values) def.vars) (refused_none (has_bad_value plan def change) BadValue three.0) in
    let shape = shape_at classes plan class is in
    let many = as_many_classes classes plan is in
    let inside : class < length plan.classes = omega arith in
    let ranges : (class_of plan class).ranges ≡ ranges_of def = ap (λ (s : Shape). s.ranges) shape in
    let count : (class_of plan class).fields ≡ length def.fields = ap (λ (s : Shape). s.fields) shape in
    let long : length (items_for change.fields def) ≡ length def.fields = length-map def.fields (item_for change.fields) in
    let wide : length (values_for change.values def) ≡ length def.vars = length-map def.vars (value_for change.values) in
    let few_fields = few.fields in
    let few_vars = few.vars in
    record {
      fits = record {
        there = inside;
        few_fields = omega arith;
        few_values = omega arith;
        numbers = fields_in_range (is_add change.deed) change.fields def fields.1;
        values = subst (λ rs. AllZip (IsChoice plan) rs (values_for change.values def)) (sym ranges) (choices_fit plan change.values def.vars values.1);
      };
      next = λ add.
          let growth : growth_fault classes plan class ≡ None = sym (ap (λ b. cond b (growth_fault classes plan class) None) add) ∙ three.1 in
          let room = held_none (nat_lt plan.made fact_limit) TooManyFacts (option_or-none (cond (nat_lt plan.made fact_limit) None (Some TooManyFacts)) (first_fault (width_fault plan class) [] classes) growth).0 in
          record {
            fields = long ∙ sym count;
            id = ap (λ b. cond b (next_id_of plan class) change.id) add;
            made = grind (arith, nat_tests);
          };
      there = λ old.
          let dead : not (is_live plan class change.id) ≡ false = sym (ap (λ b. not b && not (is_live plan class change.id)) old) ∙ lacks in
          let id : id_of plan class change ≡ change.id = ap (λ b. cond b (next_id_of plan class) change.id) old in
          let here = class_at plan class sound inside in
          subst (λ n. IsSomeAnd (fact_of plan class n) (FitsRecord ready)) (sym id) (is_live_there plan class change.id ready (fact_of plan class change.id) refl (not_false _ dead) (λ raw found.
          let fit = found_holds (IsRecordOf plan (class_of plan class)) (class_of plan class).facts change.id raw here.records found in
          record {
            fields = long ∙ sym count ∙ sym fit.fields;
            values = wide ∙ sym (length-map def.vars (λ (var : VarDef). var.values)) ∙ ap (λ (rs : List ℕ). length rs) (sym ranges) ∙ sym (record_fits plan (class_of plan class) change.id raw here found);
          }));
    }

text_short : (item : Option Item) → length (text_in item) ≤ 1
text_short None = omega arith
text_short (Some (Num number)) = omega arith
text_short (Some (Name text)) = omega arith

texts_few : (items : List (Option Item)) → length (texts_in items) ≤ length items
texts_few [] = omega arith
texts_few (item ∷ items) =
    let one = text_short item in
    let rest = texts_few items in
    let both = length-append (text_in item) (texts_in items) in
    omega arith

named_facts : (ready : ReadyView) → gives_fields ready.deed ≡ true → is_weight ready.deed ≡ false
named_facts ready gives = elim ready.deed as (λ d. gives_fields d ≡ true → is_weight d ≡ false) [ Add ↦ λ h. refl | Remove ↦ λ h. refl | Alter ↦ λ h. refl | Assign ↦ λ h. refl | Weight ↦ λ h. cc ] gives

few_texts : (ready : ReadyView) (plan : PlanView) (rules : ℕ) → MayPerform ready plan rules → length (texts_of ready) ≤ 16
few_texts ready plan rules may =
    elim (gives_fields ready.deed) as (λ b. gives_fields ready.deed ≡ b → length (cond b (texts_in ready.fields) []) ≤ 16) [
      | true ↦ λ gives. let few = (may.fact (named_facts ready gives)).fits.few_fields in let le = texts_few ready.fields in omega arith
      | false ↦ λ gives. omega arith
    ] refl

-- where there is room, the names after a change are few
pub room_left : (ready : ReadyView) (plan : PlanView) (rules : ℕ) (names : List (List ℕ)) → MayPerform ready plan rules → HasRoom ready names → length names ≤ field_limit → length (names_after ready names) ≤ field_limit
room_left ready plan rules names may (inl few) within = let le = numbered_few names (texts_of ready) in let texts = few_texts ready plan rules may in omega arith
room_left ready plan rules names may (inr same) within = let long = ap (λ (ns : List (List ℕ)). length ns) same in omega arith
