-- Setting fields and variables of a fact keeps classes and ids.
use Rattle.std.proofs.Common.{◌≡◌, ◌∙◌, ◌≤◌, ◌<◌, ◌+◌, ℕ, ℤ, zero, suc, Bool, true, false, cond, IsTrue, IsSomeAnd, List, [], ◌∷◌, ◌++◌, Option, Some, None, length, set, take, get_or, fold, refl, sym, ap, subst, arith}
use Rattle.std.specs.List.{AllZip, enumerate_from}
use Rattle.std.specs.Option.{option_map, option_map_or}
use Rattle.std.proofs.lemmas.List.{length-set, take_all, take_more}
use Rattle.std.proofs.lemmas.List.Sums.{fold-append}
use Rattle.plan_facts.specs.declared.record.Raw.{Raw}
use Rattle.plan_facts.specs.Plan.{PlanView, class_of, fact_of, is_value_of, range_of}
use Rattle.plan_facts.specs.PlanChanges.{raw_with_field, raw_with_value, with_field, with_value}
use Rattle.plan_facts.proofs.Changed.{changed_keeps, class_there}
use Rattle.plan_facts.proofs.PlanLaws.{fact_of-with_field_same, fact_of-with_value_same}
use Rattle.plan_facts.proofs.Sound.{KeepsIds, kept_value}
use Rattle.plan_changes.specs.Named.{value_given}
use Rattle.plan_changes.specs.Performed.{item_number, with_choice, with_item, IsChoice}
use Rattle.plan_changes.specs.declared.change.Item.{Item}

pub keeps_itself : (plan : PlanView) → KeepsIds plan plan
keeps_itself plan = record { made = refl; count = refl; fields = λ n. refl; ranges = λ n. refl; nullables = λ n. refl; greatest = λ n. refl; ids = λ n. refl }

pub keeps_after : (one two three : PlanView) → KeepsIds one two → KeepsIds two three → KeepsIds one three
keeps_after one two three h k =
    record {
      made = k.made ∙ h.made;
      count = k.count ∙ h.count;
      fields = λ n. k.fields n ∙ h.fields n;
      ranges = λ n. k.ranges n ∙ h.ranges n;
      nullables = λ n. k.nullables n ∙ h.nullables n;
      greatest = λ n. k.greatest n ∙ h.greatest n;
      ids = λ n. k.ids n ∙ h.ids n;
    }

field_keeps : (plan : PlanView) (class id field : ℕ) (number : ℤ) → class < length plan.classes → KeepsIds plan (with_field plan class id field number)
unfolding with_field
field_keeps plan class id field number within = changed_keeps plan class id (raw_with_field field number) within (λ raw. refl)

value_keeps : (plan : PlanView) (class id var : ℕ) (value : Option ℕ) → class < length plan.classes → KeepsIds plan (with_value plan class id var value)
unfolding with_value
value_keeps plan class id var value within = changed_keeps plan class id (raw_with_value var value) within (λ raw. refl)

pub item_keeps : (names : List (List ℕ)) (plan : PlanView) (class id field : ℕ) (item : Option Item) → class < length plan.classes → KeepsIds plan (with_item names class id plan (field, item))
item_keeps names plan class id field None within = keeps_itself plan
item_keeps names plan class id field (Some item) within = field_keeps plan class id field (item_number names item) within

pub choice_keeps : (plan : PlanView) (class id var : ℕ) (value : Option (Option ℕ)) → class < length plan.classes → KeepsIds plan (with_choice class id plan (var, value))
choice_keeps plan class id var None within = keeps_itself plan
choice_keeps plan class id var (Some value) within = value_keeps plan class id var value within

-- a fact has so many fields
abbrev pub HasFields : PlanView → ℕ → ℕ → ℕ → Type 0
HasFields plan class id count = IsSomeAnd (fact_of plan class id) (λ raw. count ≡ length raw.fields)

-- a fact has so many variables
abbrev pub HasValues : PlanView → ℕ → ℕ → ℕ → Type 0
HasValues plan class id count = IsSomeAnd (fact_of plan class id) (λ raw. count ≡ length raw.values)

fields_stay : (found : Option Raw) (field count : ℕ) (number : ℤ) → IsSomeAnd found (λ raw. count ≡ length raw.fields) → IsSomeAnd (option_map (raw_with_field field number) found) (λ raw. count ≡ length raw.fields)
fields_stay None field count number there = there
fields_stay (Some raw) field count number there = there ∙ sym (length-set raw.fields field number)

values_stay : (found : Option Raw) (var count : ℕ) (value : Option ℕ) → IsSomeAnd found (λ raw. count ≡ length raw.values) → IsSomeAnd (option_map (raw_with_value var value) found) (λ raw. count ≡ length raw.values)
values_stay None var count value there = there
values_stay (Some raw) var count value there = there ∙ sym (length-set raw.values var value)

item_stays : (names : List (List ℕ)) (plan : PlanView) (class id field count : ℕ) (item : Option Item) → HasFields plan class id count → HasFields (with_item names class id plan (field, item)) class id count
item_stays names plan class id field count None there = there
item_stays names plan class id field count (Some item) there =
    subst (λ found. IsSomeAnd found (λ (raw : Raw). count ≡ length raw.fields)) (sym (fact_of-with_field_same plan class id field (item_number names item))) (fields_stay (fact_of plan class id) field count (item_number names item) there)

choice_stays : (plan : PlanView) (class id var count : ℕ) (value : Option (Option ℕ)) → HasValues plan class id count → HasValues (with_choice class id plan (var, value)) class id count
choice_stays plan class id var count None there = there
choice_stays plan class id var count (Some value) there =
    subst (λ found. IsSomeAnd found (λ (raw : Raw). count ≡ length raw.values)) (sym (fact_of-with_value_same plan class id var value)) (values_stay (fact_of plan class id) var count value there)

-- a member with its number
numbered_at : {A : Type 0} (xs : List A) (n k : ℕ) (d : ℕ × A) (x : A) → k < length xs → x ≡ get_or xs k x → get_or (enumerate_from n xs) k d ≡ (n + k, x)
numbered_at [] n k d x within at = absurd (omega arith)
numbered_at (y ∷ xs) n zero d x within at = let e : n + 0 ≡ n = omega arith in rw (e, at) refl
numbered_at (y ∷ xs) n (suc k) d x within at = let e : (n + 1) + k ≡ n + suc k = omega arith in numbered_at xs (n + 1) k d x (omega arith) at ∙ ap (λ m. (m, x)) e

length-numbered : {A : Type 0} (xs : List A) (n : ℕ) → length (enumerate_from n xs) ≡ length xs
length-numbered [] n = refl
length-numbered (x ∷ xs) n = ap suc (length-numbered xs (n + 1))

-- one member more of a fold over numbered members
pub fold_more : {A B : Type 0} (f : B → ℕ × A → B) (a : B) (xs : List A) (k : ℕ) (x : A) → k < length xs → x ≡ get_or xs k x → fold f a (take (k + 1) (enumerate_from 0 xs)) ≡ f (fold f a (take k (enumerate_from 0 xs))) (0 + k, x)
fold_more f a xs k x within at =
    let long = length-numbered xs 0 in
    let here = numbered_at xs 0 k (0, x) x within at in
    rw (take_more (enumerate_from 0 xs) k (0, x) (omega arith), fold-append f a (take k (enumerate_from 0 xs)) (get_or (enumerate_from 0 xs) k (0, x) ∷ [])) (ap (f (fold f a (take k (enumerate_from 0 xs)))) here)

zero_more : (k : ℕ) → 0 + k ≡ k
zero_more k = omega arith

-- the fields so far were set
pub record AreAltered (names : List (List ℕ)) (class id : ℕ) (items : List (Option Item)) (start : PlanView) (k : ℕ) (now : PlanView) : Type 0 where
  pub so_far : now ≡ fold (with_item names class id) start (take k (enumerate_from 0 items))
  pub there : HasFields now class id (length items)

pub altered_more : (names : List (List ℕ)) (class id : ℕ) (items : List (Option Item)) (start : PlanView) (k : ℕ) (item : Option Item) (now next : PlanView) → AreAltered names class id items start k now → k < length items → item ≡ get_or items k item → next ≡ with_item names class id now (k, item) → AreAltered names class id items start (k + 1) next
altered_more names class id items start k item now next was within at is =
    record {
      so_far = is ∙ ap (λ plan. with_item names class id plan (k, item)) was.so_far ∙ sym (fold_more (with_item names class id) start items k item within at ∙ ap (λ n. with_item names class id (fold (with_item names class id) start (take k (enumerate_from 0 items))) (n, item)) (zero_more k));
      there = subst (λ plan. HasFields plan class id (length items)) (sym is) (item_stays names now class id k (length items) item was.there);
    }

-- the variables so far were set
pub record AreAssigned (class id : ℕ) (values : List (Option (Option ℕ))) (start : PlanView) (k : ℕ) (now : PlanView) : Type 0 where
  pub so_far : now ≡ fold (with_choice class id) start (take k (enumerate_from 0 values))
  pub there : HasValues now class id (length values)
  pub keeps : KeepsIds start now

pub assigned_more : (class id : ℕ) (values : List (Option (Option ℕ))) (start : PlanView) (k : ℕ) (value : Option (Option ℕ)) (now next : PlanView) → AreAssigned class id values start k now → k < length values → value ≡ get_or values k value → next ≡ with_choice class id now (k, value) → AreAssigned class id values start (k + 1) next
assigned_more class id values start k value now next was within at is =
    let inside = class_there now class id (λ raw. length values ≡ length raw.values) was.there in
    record {
      so_far = is ∙ ap (λ plan. with_choice class id plan (k, value)) was.so_far ∙ sym (fold_more (with_choice class id) start values k value within at ∙ ap (λ n. with_choice class id (fold (with_choice class id) start (take k (enumerate_from 0 values))) (n, value)) (zero_more k));
      there = subst (λ plan. HasValues plan class id (length values)) (sym is) (choice_stays now class id k (length values) value was.there);
      keeps = subst (KeepsIds start) (sym is) (keeps_after start now (with_choice class id now (k, value)) was.keeps (choice_keeps now class id k value inside));
    }

-- all fields were set
pub altered_all : (names : List (List ℕ)) (class id : ℕ) (items : List (Option Item)) (start : PlanView) (k : ℕ) (now : PlanView) → length items ≤ k → AreAltered names class id items start k now → now ≡ fold (with_item names class id) start (enumerate_from 0 items)
altered_all names class id items start k now past was =
    let long = length-numbered items 0 in
    was.so_far ∙ ap (fold (with_item names class id) start) (take_all k (enumerate_from 0 items) (omega arith))

-- all variables were set
pub assigned_all : (class id : ℕ) (values : List (Option (Option ℕ))) (start : PlanView) (k : ℕ) (now : PlanView) → length values ≤ k → AreAssigned class id values start k now → now ≡ fold (with_choice class id) start (enumerate_from 0 values)
assigned_all class id values start k now past was =
    let long = length-numbered values 0 in
    was.so_far ∙ ap (fold (with_choice class id) start) (take_all k (enumerate_from 0 values) (omega arith))

zip_at : {A B : Type 0} (R : A → B → Type 0) (xs : List A) (ys : List B) (i : ℕ) (d : A) (e : B) → AllZip R xs ys → i < length ys → R (get_or xs i d) (get_or ys i e)
zip_at R [] [] i d e all within = absurd (omega arith)
zip_at R [] (y ∷ ys) i d e all within = absurd all
zip_at R (x ∷ xs) [] i d e all within = absurd all
zip_at R (x ∷ xs) (y ∷ ys) zero d e all within = all.0
zip_at R (x ∷ xs) (y ∷ ys) (suc i) d e all within = zip_at R xs ys i d e all.1 (omega arith)

-- what a variable gets it may also hold once others were set
pub choice_at : (start now : PlanView) (class : ℕ) (values : List (Option (Option ℕ))) (place : ℕ) (value : Option (Option ℕ)) → KeepsIds start now → AllZip (IsChoice start) (class_of start class).ranges values → place < length values → value ≡ get_or values place value → IsChoice now (range_of now class place) value
choice_at start now class values place value keeps fits within at =
    let held = zip_at (IsChoice start) (class_of start class).ranges values place 0 value fits within in
    kept_value start now keeps (range_of now class place) (value_given value)
    ∙ ap (λ (ranges : List ℕ). is_value_of start (get_or ranges place 0) (value_given value)) (keeps.ranges class)
    ∙ ap (λ (v : Option (Option ℕ)). is_value_of start (get_or (class_of start class).ranges place 0) (value_given v)) at
    ∙ held
