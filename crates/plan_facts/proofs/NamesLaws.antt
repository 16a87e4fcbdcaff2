-- Look-ups among texts, which are kept as vectors.
use Rattle.std.proofs.Common.{◌≡◌, ◌∙◌, ℕ, suc, ◌+◌, ◌≤◌, Bool, true, false, ◌||◌, not, cond, nat_lt, List, [], ◌∷◌, ◌++◌, Option, Some, None, map, length, slice_get, get_or, Vec, Global, refl, ap, sym, arith}
use Rattle.std.specs.Str.{bytes_eq}
use Rattle.std.specs.List.{list_any, position, position_or_len, IsDistinct, AllByRecursion}
use Rattle.std.proofs.lemmas.Bool.Decides.{nat_tests}
use Rattle.std.proofs.lemmas.List.{length-map, map-append}
use Rattle.std.proofs.lemmas.List.Folds.{list_any_at}
use Rattle.std.proofs.lemmas.List.Quantifiers.{position-Some}
use Rattle.std.proofs.lemmas.Option.{slice_get_read}
use Rattle.std.proofs.lemmas.Slice.Eq.{bytes_eq-Decides}
use Rattle.plan_facts.specs.Names.{place_of, number_of, with_name, IsNumbered}

-- where a test finds a member of what is made of a list
position_or_len-map : {A B : Type 0} (f : A → B) (p : B → Bool) (xs : List A) → position_or_len p (map f xs) ≡ position_or_len (λ x. p (f x)) xs
position_or_len-map f p [] = refl
position_or_len-map f p (x ∷ xs) = rw (position_or_len-map f p xs) refl

list_any-map : {A B : Type 0} (f : A → B) (p : B → Bool) (xs : List A) → list_any p (map f xs) ≡ list_any (λ x. p (f x)) xs
list_any-map f p [] = refl
list_any-map f p (x ∷ xs) = rw (list_any-map f p xs) refl

AllByRecursion-map : {A B : Type 0} (f : A → B) (P : B → Type 0) (xs : List A) → AllByRecursion (λ x. P (f x)) xs → AllByRecursion P (map f xs)
AllByRecursion-map f P [] all = tt
AllByRecursion-map f P (x ∷ xs) all = (all.0, AllByRecursion-map f P xs all.1)

IsDistinct-map : {A B : Type 0} (f : A → B) (e : B → B → Bool) (xs : List A) → IsDistinct (λ x y. e (f x) (f y)) xs → IsDistinct e (map f xs)
unfolding IsDistinct
IsDistinct-map f e [] all = tt
IsDistinct-map f e (x ∷ xs) all = (AllByRecursion-map f (λ y. e (f x) y ≡ false) xs all.0, IsDistinct-map f e xs all.1)

-- vectors whose bytes are told apart
pub numbered : (keys : List (Vec ℕ Global)) → length keys ≤ 1000000000 → IsDistinct (λ x y. bytes_eq x.items y.items) keys → IsNumbered (map (λ t. t.items) keys)
numbered keys few distinct = record {
  few = rw (length-map keys (λ (t : Vec ℕ Global). t.items)) few;
  each_once = IsDistinct-map (λ (t : Vec ℕ Global). t.items) bytes_eq keys distinct;
}

-- a look-up among the vectors
pub place_of-keys : (keys : List (Vec ℕ Global)) (names : List (List ℕ)) (text : List ℕ) (place : Option ℕ) →
    map (λ t. t.items) keys ≡ names → place ≡ position (λ t. bytes_eq text t.items) keys → place ≡ place_of names text
place_of-keys keys names text place view at =
    let same : place_of (map (λ t. t.items) keys) text ≡ position (λ t. bytes_eq text t.items) keys =
    rw (position_or_len-map (λ (t : Vec ℕ Global). t.items) (bytes_eq text) keys, length-map keys (λ (t : Vec ℕ Global). t.items)) refl
    in
    at ∙ sym same ∙ ap (λ all. place_of all text) view

-- the text that has the number that was found
pub place_of-text : (names : List (List ℕ)) (text : List ℕ) (n : ℕ) → place_of names text ≡ Some n → slice_get names n ≡ Some text
place_of-text names text n at =
    let found = position-Some (bytes_eq text) names n text at in
    let same = (bytes_eq-Decides text (get_or names n text)).0 found.1 in
    slice_get_read names (length names) n text refl found.0 same

-- a text that was found is there
pub with_name-there : (names : List (List ℕ)) (text : List ℕ) (n : ℕ) → place_of names text ≡ Some n → with_name names text ≡ names
with_name-there names text n at =
    let found = position-Some (bytes_eq text) names n text at in
    rw (list_any_at (bytes_eq text) names n text found.0 found.1) refl

-- whether a member passes a test shows in the place that is found
list_any-step : (here there : Bool) (n m : ℕ) → there ≡ nat_lt n m → (here || there) ≡ nat_lt (cond (not here) (1 + n) 0) (suc m)
list_any-step true there n m h = grind (arith, nat_tests)
list_any-step false there n m h = grind (arith, nat_tests)

list_any-place : {A : Type 0} (p : A → Bool) (xs : List A) → list_any p xs ≡ nat_lt (position_or_len p xs) (length xs)
list_any-place p [] = grind (arith, nat_tests)
list_any-place p (x ∷ xs) = list_any-step (p x) (list_any p xs) (position_or_len p xs) (length xs) (list_any-place p xs)

not_some : {A : Type 0} (b : Bool) (x : A) → cond b (Some x) None ≡ None → b ≡ false
not_some true x h = cc
not_some false x h = refl

-- a text that wasn't found goes to the end
pub with_name-new : (names : List (List ℕ)) (text : List ℕ) → place_of names text ≡ None → with_name names text ≡ names ++ text ∷ []
with_name-new names text none =
    let out = not_some (nat_lt (number_of names text) (length names)) (number_of names text) none in
    rw (list_any-place (bytes_eq text) names ∙ out) refl

position_or_len_le : {A : Type 0} (p : A → Bool) (xs : List A) → position_or_len p xs ≤ length xs
position_or_len_le p [] = omega arith
position_or_len_le p (x ∷ xs) = le_step (p x) _ _ (position_or_len_le p xs)
  where
    le_step : (here : Bool) (n m : ℕ) → n ≤ m → cond (not here) (1 + n) 0 ≤ suc m
    le_step true n m le = omega arith
    le_step false n m le = omega arith

-- a text that wasn't found gets the next number
pub number_of-new : (names : List (List ℕ)) (text : List ℕ) → place_of names text ≡ None → number_of names text ≡ length names
number_of-new names text none =
    let out = not_some (nat_lt (number_of names text) (length names)) (number_of names text) none in
    let le = position_or_len_le (bytes_eq text) names in
    grind (arith, nat_tests)

-- the last of the names
pub slice_get-last : {A : Type 0} (xs : List A) (x : A) → slice_get (xs ++ x ∷ []) (length xs) ≡ Some x
slice_get-last [] x = refl
slice_get-last (y ∷ ys) x = slice_get-last ys x

map-if : {A B : Type 0} (f : A → B) (b : Bool) (xs ys : List A) → map f (cond b xs ys) ≡ cond b (map f xs) (map f ys)
map-if f true xs ys = refl
map-if f false xs ys = refl

-- a vector that is put among the vectors
pub with_name-keys : (keys : List (Vec ℕ Global)) (v : Vec ℕ Global) →
    map (λ t. t.items) (cond (list_any (λ t. bytes_eq v.items t.items) keys) keys (keys ++ v ∷ [])) ≡ with_name (map (λ t. t.items) keys) v.items
with_name-keys keys v =
    map-if (λ t. t.items) (list_any (λ t. bytes_eq v.items t.items) keys) keys (keys ++ v ∷ [])
    ∙ rw (map-append, list_any-map (λ (t : Vec ℕ Global). t.items) (bytes_eq v.items) keys) refl
