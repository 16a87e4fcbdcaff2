-- A value beside what the program holds of it.
use Rattle.std.proofs.Common.{◌≡◌, ◌∙◌, ℕ, List, [], ◌∷◌, Bool, true, false, ◌||◌, cond, map, Some, None, option_and_then, String, Global, string_bytes, refl, sym, ap, subst}
use Rattle.std.specs.List.{list_any}
use Rattle.std.specs.Map.{keys_of as map_keys}
use Rattle.std.specs.Str.{IsUtf8, is_utf8}
use Rattle.std.proofs.lemmas.Str.{IsUtf8-from_is_utf8, is_utf8-from_IsUtf8, IsUtf8-string_bytes}
use Rattle.serde_json.specs.Data.{Data, null, boolean, number, string, array, object}
use Rattle.serde_json.specs.Read.{read}
use Rattle.serde_json.specs.Find.{get, get_member, as_object}
use Rattle.serde_json.specs.View.{view, items_view, members_view}
use Rattle.serde_json.specs.declared.value.Value.{Value}
use Rattle.serde_json.proofs.Views.{member_later}
use Rattle.json_values.specs.Values.{value_of, listed, keys_of, is_other, has_other}

-- bytes that are UTF-8 are the value that is read
pub value_of-read : (bytes : List ℕ) (d : Data) → IsUtf8 bytes → read bytes ≡ Some d → value_of bytes ≡ Some d
unfolding value_of
value_of-read bytes d text e = rw (is_utf8-from_IsUtf8 bytes text) e

-- bytes that aren't, or aren't read, are no value
pub value_of-none : (bytes : List ℕ) → (IsUtf8 bytes → read bytes ≡ None) → value_of bytes ≡ None
unfolding value_of
value_of-none bytes h =
    elim (is_utf8 bytes) as (λ b. is_utf8 bytes ≡ b → cond b (read bytes) None ≡ None) [ true ↦ λ e. h (IsUtf8-from_is_utf8 bytes e) | false ↦ λ e. refl ] refl

-- the items of an array, seen one by one
pub listed-items_view : (vs : List Value) → listed (items_view vs) ≡ map view vs
listed-items_view [] = refl
listed-items_view (v ∷ vs) = ap (λ rest. view v ∷ rest) (listed-items_view vs)

-- a look-up in a value is one among its members
pub get-members : (name : List ℕ) (d : Data) → get name d ≡ option_and_then (get_member name) (as_object d)
get-members name null = refl
get-members name (boolean b) = refl
get-members name (number n) = refl
get-members name (string s) = refl
get-members name (array ds) = refl
get-members name (object ms) = refl

-- no member has a name that isn't UTF-8
pub no_member : (name : List ℕ) (es : List (String Global × Value)) → (IsUtf8 name → ⊥) → get_member name (members_view es) ≡ None
no_member name [] bad = refl
no_member name (e ∷ es) bad =
    member_later name e es (λ same. bad (subst IsUtf8 (sym same) (IsUtf8-string_bytes e.0))) ∙ no_member name es bad

-- a test of some member holds where it holds of the first one
pub any_here : {A : Type 0} (p : A → Bool) (xs : List A) (x : A) (rest : List A) → xs ≡ x ∷ rest → p x ≡ true → list_any p xs ≡ true
any_here p xs x rest is here = ap (list_any p) is ∙ ap (λ b. b || list_any p rest) here

-- where it doesn't hold of the first one it is a test of the others
pub any_later : {A : Type 0} (p : A → Bool) (xs : List A) (x : A) (rest : List A) → xs ≡ x ∷ rest → p x ≡ false → list_any p xs ≡ list_any p rest
any_later p xs x rest is later = ap (list_any p) is ∙ ap (λ b. b || list_any p rest) later

-- a test of some member of a list that was made member by member
pub list_any-map : {A B : Type 0} (f : A → B) (p : B → Bool) (xs : List A) → list_any p (map f xs) ≡ list_any (λ x. p (f x)) xs
list_any-map f p [] = refl
list_any-map f p (x ∷ xs) = rw (list_any-map f p xs) refl

any_key : (p : List ℕ → Bool) (es : List (String Global × Value)) → list_any p (keys_of (members_view es)) ≡ list_any (λ key. p (string_bytes key)) (map_keys es)
any_key p [] = refl
any_key p (e ∷ es) = rw (any_key p es) refl

-- an object has another member where one of its keys is another
pub has_other-keys : (names : List (List ℕ)) (d : Data) (es : List (String Global × Value)) → Some (members_view es) ≡ as_object d
    → has_other names d ≡ list_any (λ key. is_other names (string_bytes key)) (map_keys es)
has_other-keys names d es is = rw (sym is) (any_key (is_other names) es)

-- what is no object has no other member
pub has_other-none : (names : List (List ℕ)) (d : Data) → None ≡ as_object d → has_other names d ≡ false
has_other-none names d is = rw (sym is) refl
