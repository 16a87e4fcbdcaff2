-- The combinations of some lists: how many there are, which they are, and where each stands.
use Rattle.std.proofs.Common.{◌≡◌, ◌∙◌, ◌⊎◌, inl, inr, ◌+◌, ◌*◌, ℕ, zero, suc, List, [], ◌∷◌, ◌++◌, map, flat_map, length, slice_get, Contains, Some, None, option_map, refl, sym, ap, subst, arith, length-append}
use Rattle.std.specs.List.{AllZip}
use Rattle.std.proofs.Math.Nat.{zero-mul, suc-mul}
use Rattle.std.proofs.lemmas.List.{length-map}
use Rattle.std.proofs.lemmas.List.Elements.{Contains-append_left, Contains-append_right, Contains-append_cases, Contains-push, Contains-push_cases}
use Rattle.std.proofs.lemmas.Option.{slice_get-map}
use Rattle.plan_scores.specs.declared.plan_score.PlanScore.{PlanScore}
use Rattle.plan_scores.specs.Best.{first_best}
use Rattle.plan_moves.specs.declared.edit.Set.{Set}
use Rattle.plan_search.specs.Placing.{combinations}
use Rattle.plan_search.specs.Laws.{product_of}

-- each choice before each of the combinations of the rest
abbrev pub chosen_first : {A : Type 0} → List A → List (List A) → List (List A)
chosen_first choices rest = flat_map (λ choice. map (λ sets. choice ∷ sets) rest) choices

-- each choice stands before each of the rest
length-chosen_first : (choices : List Set) (rest : List (List Set)) → length (chosen_first choices rest) ≡ length choices * length rest
length-chosen_first [] rest = sym (zero-mul (length rest))
length-chosen_first (choice ∷ choices) rest =
    let here = length-map rest (λ sets. choice ∷ sets) in
    let both = length-append (map (λ sets. choice ∷ sets) rest) (chosen_first choices rest) in
    let more = length-chosen_first choices rest in
    let product = suc-mul (length choices) (length rest) in
    omega (arith, here, both, more, product)

-- there are as many combinations as the numbers of choices multiplied
pub length-combinations : (lists : List (List Set)) → length (combinations lists) ≡ product_of (map length lists)
length-combinations [] = refl
length-combinations (choices ∷ rest) = length-chosen_first choices (combinations rest) ∙ ap (λ n. length choices * n) (length-combinations rest)

-- the first member of a list is in it
Contains-first : {A : Type 0} (x : A) (xs : List A) → Contains (x ∷ xs) x
Contains-first x xs = Contains-append_left (x ∷ []) xs x (Contains-push [] x)

-- a later member of a list is in it
Contains-later : {A : Type 0} (x : A) (xs : List A) (y : A) → Contains xs y → Contains (x ∷ xs) y
Contains-later x xs y h = Contains-append_right (x ∷ []) xs y h

-- nothing is in an empty list
Contains-none : {A B : Type 0} (y : A) → Contains [] y → B
Contains-none y h = absurd (omega (arith, h.1))

-- a member of a list is its first or a later one
Contains-cases : {A : Type 0} (x : A) (xs : List A) (y : A) → Contains (x ∷ xs) y → (x ≡ y) ⊎ Contains xs y
Contains-cases x xs y h =
    elim (Contains-append_cases (x ∷ []) xs y h) [
      | inl first ↦ elim (Contains-push_cases [] x y first) [ inl none ↦ Contains-none y none | inr same ↦ inl same ]
      | inr later ↦ inr later
    ]

-- some sets that begin with this choice and go on with one of the rest
record GoesOn (choice : Set) (rest : List (List Set)) (sets : List Set) : Type 0 where
  others : List Set
  is : sets ≡ choice ∷ others
  among : Contains rest others

-- some sets that begin with one of the choices and go on with one of the rest
record BeginsWith (choices : List Set) (rest : List (List Set)) (sets : List Set) : Type 0 where
  first : Set
  chosen : Contains choices first
  more : GoesOn first rest sets

-- what stands among the rest with a choice before each goes on with one of the rest
goes_on : (choice : Set) (rest : List (List Set)) (sets : List Set) → Contains (map (λ others. choice ∷ others) rest) sets → GoesOn choice rest sets
goes_on choice [] sets h = Contains-none sets h
goes_on choice (one ∷ rest) sets h =
    elim (Contains-cases (choice ∷ one) (map (λ others. choice ∷ others) rest) sets h) [
      | inl same ↦ record { others = one; is = sym same; among = Contains-first one rest }
      | inr later ↦ let more = goes_on choice rest sets later in record { others = more.others; is = more.is; among = Contains-later one rest more.others more.among }
    ]

-- what is chosen first begins with one of the choices
begins_with : (choices : List Set) (rest : List (List Set)) (sets : List Set) → Contains (chosen_first choices rest) sets → BeginsWith choices rest sets
begins_with [] rest sets h = Contains-none sets h
begins_with (choice ∷ choices) rest sets h =
    elim (Contains-append_cases (map (λ others. choice ∷ others) rest) (chosen_first choices rest) sets h) [
      | inl here ↦ record { first = choice; chosen = Contains-first choice choices; more = goes_on choice rest sets here }
      | inr later ↦ let found = begins_with choices rest sets later in record { first = found.first; chosen = Contains-later choice choices found.first found.chosen; more = found.more }
    ]

-- a combination takes one of each list of choices
pub takes_one_of_each : (lists : List (List Set)) (sets : List Set) → Contains (combinations lists) sets → AllZip (λ choices set. Contains choices set) lists sets
takes_one_of_each [] sets h =
    elim (Contains-cases [] [] sets h) [
      | inl same ↦ subst (λ (some : List Set). AllZip (λ choices set. Contains choices set) [] some) same tt
      | inr none ↦ Contains-none sets none
    ]
takes_one_of_each (choices ∷ rest) sets h =
    let found = begins_with choices (combinations rest) sets h in
    subst (λ (some : List Set). AllZip (λ choices set. Contains choices set) (choices ∷ rest) some) (sym found.more.is) (found.chosen, takes_one_of_each rest found.more.others found.more.among)

-- one of the rest with a choice before it
with_choice : (choice : Set) (rest : List (List Set)) (others : List Set) → Contains rest others → Contains (map (λ sets. choice ∷ sets) rest) (choice ∷ others)
with_choice choice [] others h = Contains-none others h
with_choice choice (one ∷ rest) others h =
    let more = map (λ sets. choice ∷ sets) rest in
    elim (Contains-cases one rest others h) [
      | inl same ↦ subst (λ (some : List Set). Contains ((choice ∷ one) ∷ more) (choice ∷ some)) same (Contains-first (choice ∷ one) more)
      | inr later ↦ Contains-later (choice ∷ one) more (choice ∷ others) (with_choice choice rest others later)
    ]

-- one of the choices before one of the rest is chosen first
is_chosen_first : (choices : List Set) (rest : List (List Set)) (choice : Set) (others : List Set) → Contains choices choice → Contains rest others → Contains (chosen_first choices rest) (choice ∷ others)
is_chosen_first [] rest choice others h more = Contains-none choice h
is_chosen_first (first ∷ choices) rest choice others h more =
    let here = map (λ sets. first ∷ sets) rest in
    elim (Contains-cases first choices choice h) [
      | inl same ↦ Contains-append_left here (chosen_first choices rest) (choice ∷ others) (subst (λ (one : Set). Contains here (one ∷ others)) same (with_choice first rest others more))
      | inr later ↦ Contains-append_right here (chosen_first choices rest) (choice ∷ others) (is_chosen_first choices rest choice others later more)
    ]

-- one of each list of choices is a combination
pub is_combination : (lists : List (List Set)) (sets : List Set) → AllZip (λ choices set. Contains choices set) lists sets → Contains (combinations lists) sets
is_combination [] [] h = Contains-first [] []
is_combination [] (set ∷ sets) h = absurd h
is_combination (choices ∷ rest) [] h = absurd h
is_combination (choices ∷ rest) (set ∷ sets) h = is_chosen_first choices (combinations rest) set sets h.0 (is_combination rest sets h.1)

-- what stands in the first of two lists stands there in both
slice_get-append_left : {A : Type 0} (xs ys : List A) (k : ℕ) (x : A) → slice_get xs k ≡ Some x → slice_get (xs ++ ys) k ≡ Some x
slice_get-append_left [] ys k x h = cc
slice_get-append_left (z ∷ zs) ys zero x h = h
slice_get-append_left (z ∷ zs) ys (suc k) x h = slice_get-append_left zs ys k x h

-- what stands in the second of two lists stands behind the first
slice_get-append_right : {A : Type 0} (xs ys : List A) (k : ℕ) → slice_get (xs ++ ys) (length xs + k) ≡ slice_get ys k
slice_get-append_right [] ys k = let none : 0 + k ≡ k = omega arith in ap (slice_get ys) none
slice_get-append_right (x ∷ xs) ys k =
    let one : suc (length xs) + k ≡ suc (length xs + k) = omega arith in
    ap (slice_get (x ∷ xs ++ ys)) one ∙ slice_get-append_right xs ys k

-- where a choice stands before one of the rest
slice_get-chosen_first : (choices : List Set) (rest : List (List Set)) (i j : ℕ) (choice : Set) (sets : List Set) → slice_get choices i ≡ Some choice → slice_get rest j ≡ Some sets
    → slice_get (chosen_first choices rest) (i * length rest + j) ≡ Some (choice ∷ sets)
slice_get-chosen_first [] rest i j choice sets h at = cc
slice_get-chosen_first (first ∷ choices) rest zero j choice sets h at =
    let none = zero-mul (length rest) in
    let place : 0 * length rest + j ≡ j = omega (arith, none) in
    let same : first ≡ choice = cc in
    let here : slice_get (map (λ others. first ∷ others) rest) j ≡ Some (choice ∷ sets) =
    slice_get-map (λ others. first ∷ others) rest j ∙ ap (option_map (λ others. first ∷ others)) at ∙ ap (λ one. Some (one ∷ sets)) same in
    ap (slice_get (chosen_first (first ∷ choices) rest)) place ∙ slice_get-append_left (map (λ others. first ∷ others) rest) (chosen_first choices rest) j (choice ∷ sets) here
slice_get-chosen_first (first ∷ choices) rest (suc i) j choice sets h at =
    let here = length-map rest (λ others. first ∷ others) in
    let product = suc-mul i (length rest) in
    let place : suc i * length rest + j ≡ length (map (λ others. first ∷ others) rest) + (i * length rest + j) = omega (arith, here, product) in
    ap (slice_get (chosen_first (first ∷ choices) rest)) place
    ∙ slice_get-append_right (map (λ others. first ∷ others) rest) (chosen_first choices rest) (i * length rest + j)
    ∙ slice_get-chosen_first choices rest i j choice sets h at

-- where a combination stands
pub slice_get-combinations : (choices : List Set) (rest : List (List Set)) (i j : ℕ) (choice : Set) (sets : List Set) → slice_get choices i ≡ Some choice → slice_get (combinations rest) j ≡ Some sets
    → slice_get (combinations (choices ∷ rest)) (i * length (combinations rest) + j) ≡ Some (choice ∷ sets)
slice_get-combinations choices rest i j choice sets h at = slice_get-chosen_first choices (combinations rest) i j choice sets h at

-- before none of the rest nothing is chosen
chosen_first-none : (choices : List Set) → chosen_first choices [] ≡ []
chosen_first-none [] = refl
chosen_first-none (choice ∷ choices) = chosen_first-none choices

-- where a list has no choice there is no combination
pub none_combined : (lists : List (List Set)) → Contains lists [] → combinations lists ≡ []
none_combined [] h = Contains-none [] h
none_combined (choices ∷ rest) h =
    elim (Contains-cases choices rest [] h) [
      | inl same ↦ ap (λ some. chosen_first some (combinations rest)) same
      | inr later ↦ ap (chosen_first choices) (none_combined rest later) ∙ chosen_first-none choices
    ]

-- where the rest with a choice before each begin an empty list, there are none
no_rest : (choice : Set) (rest more : List (List Set)) → map (λ sets. choice ∷ sets) rest ++ more ≡ [] → rest ≡ []
no_rest choice [] more h = refl
no_rest choice (one ∷ rest) more h = cc

-- where there is no combination a list has no choice
pub combined_none : (lists : List (List Set)) → combinations lists ≡ [] → Contains lists []
combined_none [] h = let none : ⊥ = cc in absurd none
combined_none ([] ∷ rest) h = Contains-first [] rest
combined_none ((choice ∷ choices) ∷ rest) h = Contains-later (choice ∷ choices) rest [] (combined_none rest (no_rest choice (combinations rest) (chosen_first choices (combinations rest)) h))

-- a list without a best is empty
pub first_best-none : {A : Type 0} (score : A → PlanScore) (xs : List A) → first_best score xs ≡ None → xs ≡ []
first_best-none score [] h = refl
first_best-none score (x ∷ xs) h = cc
