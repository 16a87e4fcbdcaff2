-- The members of objects, one after another.
use Rattle.std.proofs.Common.{◌≡◌, ◌∙◌, ℕ, ◌<◌, Bool, true, false, ◌&&◌, List, [], ◌∷◌, length, get_or, map, String, Global, string_bytes, refl, sym, ap, arith}
use Rattle.std.specs.Cmp.Lexicographic.{slice_cmp}
use Rattle.std.specs.List.{list_all}
use Rattle.std.specs.List.Sorted.{IsStrictlySortedBy}
use Rattle.std.specs.Map.{keys_of, values_of}
use Rattle.std.specs.Ordering.{nat_cmp, is_lt}
use Rattle.std.specs.String.{string_cmp}
use Rattle.std.proofs.lemmas.List.{length-map, get_or-map}
use Rattle.std.proofs.lemmas.Map.Keys.{Less-from_sorted}
use Rattle.serde_json.specs.Data.{Data}
use Rattle.serde_json.specs.View.{view, members_view}
use Rattle.serde_json.specs.declared.value.Value.{Value}
use Rattle.plan_changes.specs.Change.{IsNameBefore, AreFieldsInOrder, AreValuesInOrder}
use Rattle.plan_changes.specs.declared.change.FieldItem.{FieldItem}
use Rattle.plan_changes.specs.declared.change.ValueItem.{ValueItem}
use Rattle.change_feed.specs.Items.{all_members, field_items, value_items}

abbrev pub Entry : Type 0
Entry = String Global × Value

-- a test of all members is one of the values
pub all_members-values : (test : Data → Bool) (es : List Entry) → all_members test (members_view es) ≡ list_all (λ value. test (view value)) (values_of es)
all_members-values test [] = refl
all_members-values test (e ∷ es) = ap (λ b. test (view e.1) && b) (all_members-values test es)

-- a test of all fails where it fails at the first one
pub fails_here : {A : Type 0} (p : A → Bool) (xs : List A) (x : A) (rest : List A) → xs ≡ x ∷ rest → p x ≡ false → list_all p xs ≡ false
fails_here p xs x rest is here = ap (list_all p) is ∙ ap (λ b. b && list_all p rest) here

-- where it holds of the first one it is a test of the others
pub holds_here : {A : Type 0} (p : A → Bool) (xs : List A) (x : A) (rest : List A) → xs ≡ x ∷ rest → p x ≡ true → list_all p xs ≡ list_all p rest
holds_here p xs x rest is here = ap (list_all p) is ∙ ap (λ b. b && list_all p rest) here

-- the names of what members give are those of the keys
field_names : (es : List Entry) → map (λ item. item.name) (field_items (members_view es)) ≡ map string_bytes (keys_of es)
field_names [] = refl
field_names (e ∷ es) = ap (λ names. string_bytes e.0 ∷ names) (field_names es)

value_names : (es : List Entry) → map (λ item. item.name) (value_items (members_view es)) ≡ map string_bytes (keys_of es)
value_names [] = refl
value_names (e ∷ es) = ap (λ names. string_bytes e.0 ∷ names) (value_names es)

-- names that are those of keys in order are in order
names_before : {A : Type 0} (name : A → List ℕ) (items : List A) (keys : List (String Global)) (key : String Global) → map name items ≡ map string_bytes keys → IsStrictlySortedBy string_cmp keys
    → (i j : ℕ) (d : A) → i < j → j < length items → IsNameBefore (name (get_or items i d)) (name (get_or items j d))
names_before name items keys key same sorted i j d below within =
    let size : length items ≡ length keys = sym (length-map items name) ∙ ap length same ∙ length-map keys string_bytes in
    let less = Less-from_sorted string_cmp keys i j key sorted below (omega (arith, size)) in
    let at = λ (k : ℕ) (lt : k < length items).
    let key_within : k < length keys = omega (arith, size, lt) in
    sym (get_or-map name items k d (name d) lt) ∙ ap (λ names. get_or names k (name d)) same ∙ get_or-map string_bytes keys k key (name d) key_within in
    let left = at i (omega arith) in
    let right = at j within in
    let ordering = ap (λ l. slice_cmp nat_cmp l (name (get_or items j d))) left ∙ ap (λ r. slice_cmp nat_cmp (string_bytes (get_or keys i key)) r) right ∙ less in
    ap is_lt ordering

-- the fields of an object stand in the order of their names
pub fields_in_order : (es : List Entry) → IsStrictlySortedBy string_cmp (keys_of es) → AreFieldsInOrder (field_items (members_view es))
fields_in_order [] sorted = λ i j d below within. absurd (omega arith)
fields_in_order (e ∷ es) sorted =
    names_before (λ (item : FieldItem). item.name) (field_items (members_view (e ∷ es))) (keys_of (e ∷ es)) e.0 (field_names (e ∷ es)) sorted

-- the variables of an object stand in the order of their names
pub values_in_order : (es : List Entry) → IsStrictlySortedBy string_cmp (keys_of es) → AreValuesInOrder (value_items (members_view es))
values_in_order [] sorted = λ i j d below within. absurd (omega arith)
values_in_order (e ∷ es) sorted =
    names_before (λ (item : ValueItem). item.name) (value_items (members_view (e ∷ es))) (keys_of (e ∷ es)) e.0 (value_names (e ∷ es)) sorted
