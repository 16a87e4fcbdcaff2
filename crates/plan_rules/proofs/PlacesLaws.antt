-- Numbers that are entered in a table of places.
use Rattle.std.proofs.Common.{◌≡◌, ◌∙◌, ℕ, suc, ◌<◌, subst, cond, get_or, Bool, true, false, List, [], ◌∷◌, ◌++◌, Option, Some, None, length, slice_get, refl, ap, sym, arith, if◌then◌else◌}
use Rattle.std.specs.Prelude.{◌==◌, ◌||◌, IfSome, IsSome, IsTrue, option_map, option_copied, position, find, is_some, map}
use denote.Ref.{Bor}
use Rattle.std.specs.List.{list_any}
use Rattle.std.specs.Option.{option_or, option_and_then, option_map_or}
use Rattle.std.proofs.lemmas.Bool.Decides.{nat_tests}
use Rattle.std.proofs.lemmas.Option.{gets, IfSome_then}
use Rattle.std.proofs.lemmas.Grind.{common_steps}
use Rattle.plan_rules.specs.declared.fault.ClosureKind.{ClosureKind}
use Rattle.plan_rules.specs.declared.fault.RuleFault.TheVariants.{DoubleClosure}
use Rattle.plan_rules.specs.Faults.{number_fault}
use Rattle.plan_rules.specs.Range.{Capped, cap_of, cap_with}
use Rattle.plan_rules.specs.declared.rule.RuleDef.{RuleDef}
use Rattle.plan_rules.specs.Places.{place_of, ArePlaces}
use Rattle.plan_rules.proofs.Positions.{position-push, is_some-position, find-position, position-map}

-- past its end the table has nothing
pub place_past : (table : List (Option ℕ)) (n : ℕ) → None ≡ slice_get table n → None ≡ place_of table n
place_past table n past = grind (arith, common_steps, gets)

-- a number that has a place is there already
pub number_taken : (kind : ClosureKind) (numbers : List ℕ) (number : ℕ) → is_some (position (λ n. n == number) numbers) ≡ true → number_fault kind numbers number ≡ Some (DoubleClosure kind number)
number_taken kind numbers number taken = rw (sym (is_some-position (λ n. n == number) numbers), taken) refl

-- a number that has no place isn't there
pub number_free : (kind : ClosureKind) (numbers : List ℕ) (number : ℕ) → is_some (position (λ n. n == number) numbers) ≡ false → number_fault kind numbers number ≡ None
number_free kind numbers number free = rw (sym (is_some-position (λ n. n == number) numbers), free) refl

-- what isn't there is none
none_from_is_some : {X : Type 0} (o : Option X) → is_some o ≡ false → o ≡ None
none_from_is_some None h = refl
none_from_is_some (Some x) h = cc

-- the later of two, where the earlier one is none
later_or_found : (b : Bool) (found : Option ℕ) (last : ℕ) → (b ≡ true → found ≡ None) → (if b then Some last else found) ≡ option_or found (if b then Some last else None)
later_or_found true found last none = rw (none refl) refl
later_or_found false None last none = refl
later_or_found false (Some place) last none = refl

-- a new number stands at the end
pub ArePlaces-push : (numbers : List ℕ) (table grown table' : List (Option ℕ)) (number place : ℕ) → ArePlaces numbers table → place ≡ length numbers → is_some (position (λ n. n == number) numbers) ≡ false →
    ((n : ℕ) → place_of grown n ≡ place_of table n) → ((n : ℕ) → place_of table' n ≡ (if number == n then Some place else place_of grown n)) → ArePlaces (numbers ++ number ∷ []) table'
ArePlaces-push numbers table grown table' number place are at free kept put n =
    let none : (number == n) ≡ true → position (λ m. m == n) numbers ≡ None = λ same. (let equal : number ≡ n = grind (arith, nat_tests) in rw (← equal) (none_from_is_some _ free)) in
    rw (position-push (λ m. m == n) numbers number, put n, kept n, are n, at) (later_or_found (number == n) (position (λ m. m == n) numbers) (length numbers) none)

-- the item with a number stands at the number's place
pub find_by_place : {X : Type 0} (f : X → ℕ) (n : ℕ) (xs : List X) (numbers : List ℕ) → numbers ≡ map f xs → find (λ x. f x == n) xs ≡ option_and_then (slice_get xs) (position (λ m. m == n) numbers)
find_by_place f n xs numbers at = rw (at, position-map (λ m. m == n) f xs) (find-position (λ x. f x == n) xs)

-- an item that is found stands at some place
pub record StandsIn {X : Type 0} (xs : List X) (x : X) : Type 0 where
  pub place : ℕ
  pub within : place < length xs
  pub at : get_or xs place x ≡ x

stands_later : {X : Type 0} (x y : X) (xs : List X) → StandsIn xs y → StandsIn (x ∷ xs) y
stands_later x y xs later = record { place = suc later.place; within = (let within = later.within in omega arith); at = later.at }

pub found_stands : {X : Type 0} (p : X → Bool) (xs : List X) → IfSome (find p xs) (StandsIn xs)
found_stands p [] = tt
found_stands p (x ∷ xs) =
    elim (p x) as (λ b. IfSome (cond b (Some x) (find p xs)) (StandsIn (x ∷ xs))) [
      | true ↦ record { place = 0; within = omega arith; at = refl }
      | false ↦ IfSome_then (find p xs) (found_stands p xs) (λ y later. stands_later x y xs later)
    ]

found_first : {X : Type 0} (f : X → ℕ) (n : ℕ) (test : Bool) (y x : X) (later : Option X) → (f y == n) ≡ test → cond test (Some y) later ≡ Some x → (later ≡ Some x → f x ≡ n) → f x ≡ n
found_first f n true y x later is found rest =
    let same : y ≡ x = cc in
    let equal : f y ≡ n = grind (arith, nat_tests) in
    cc
found_first f n false y x later is found rest = rest found

-- what is found by a number has this number
pub found_number : {X : Type 0} (f : X → ℕ) (n : ℕ) (xs : List X) (x : X) → Some x ≡ find (λ y. f y == n) xs → f x ≡ n
found_number f n [] x found = cc
found_number f n (y ∷ ys) x found = found_first f n (f y == n) y x (find (λ z. f z == n) ys) refl (sym found) (λ later. found_number f n ys x (sym later))

-- and so does what a reference to it points to
pub borrowed_stands : {X : Type 0} (p : X → Bool) (xs : List X) (r : Option (Bor X)) → option_copied r ≡ find p xs → IfSome r (λ x. StandsIn xs x.now)
borrowed_stands p xs None is = tt
borrowed_stands p xs (Some x) is = let Q : Option _ → Type 0 = λ o. IfSome o (StandsIn xs) in subst Q (sym is) (found_stands p xs)

-- an item that is found after a map
pub find-map : {X Y : Type 0} (p : Y → Bool) (f : X → Y) (xs : List X) → find p (map f xs) ≡ option_map f (find (λ x. p (f x)) xs)
find-map p f [] = refl
find-map p f (x ∷ xs) = elim (p (f x)) as (λ b. cond b (Some (f x)) (find p (map f xs)) ≡ option_map f (cond b (Some x) (find (λ y. p (f y)) xs))) [ true ↦ refl | false ↦ find-map p f xs ]

mapped_cap : {X : Type 0} (number cap : X → ℕ) (o : Option X) → option_map_or (λ (w : Capped). w.cap) (option_map (λ x. record { number = number x; cap = cap x }) o) 1 ≡ option_map_or cap o 1
mapped_cap number cap None = refl
mapped_cap number cap (Some x) = refl

-- the cap of a number's weigher, by what is found by the number
pub cap_with-found : {X : Type 0} (number cap : X → ℕ) (n : ℕ) (xs : List X) →
    cap_with (map (λ x. record { number = number x; cap = cap x }) xs) n ≡ option_map_or cap (find (λ x. number x == n) xs) 1
cap_with-found number cap n xs =
    rw (find-map (λ (w : Capped). w.number == n) (λ x. record { number = number x; cap = cap x }) xs) (mapped_cap number cap (find (λ x. number x == n) xs))

-- the cap of a rule, by what is found by its weigher's number
pub cap_of-found : {X : Type 0} (number cap : X → ℕ) (rule : RuleDef) (n : ℕ) (xs : List X) → rule.weigh ≡ Some n →
    cap_of (map (λ x. record { number = number x; cap = cap x }) xs) rule ≡ option_map_or cap (find (λ x. number x == n) xs) 1
cap_of-found number cap rule n xs is = rw is (cap_with-found number cap n xs)

-- what is found by a number and is there has this number
pub number_of_found : {X : Type 0} (f : X → ℕ) (n : ℕ) (xs : List X) (r : Option (Bor X)) → option_copied r ≡ find (λ x. f x == n) xs → IsSome r → option_map f (option_copied r) ≡ Some n
number_of_found f n xs None is there = cc
number_of_found f n xs (Some x) is there = ap Some (found_number f n xs x.now is)

-- an item is found where some item passes
is_some-find : {X : Type 0} (p : X → Bool) (xs : List X) → is_some (find p xs) ≡ list_any p xs
is_some-find p [] = refl
is_some-find p (x ∷ xs) = elim (p x) as (λ b. is_some (cond b (Some x) (find p xs)) ≡ (b || list_any p xs)) [ true ↦ refl | false ↦ is_some-find p xs ]

list_any-map : {X Y : Type 0} (p : Y → Bool) (f : X → Y) (xs : List X) → list_any p (map f xs) ≡ list_any (λ x. p (f x)) xs
list_any-map p f [] = refl
list_any-map p f (x ∷ xs) = ap (λ b. p (f x) || b) (list_any-map p f xs)

is_some-option_copied : {X : Type 0} (r : Option (Bor X)) → is_some (option_copied r) ≡ is_some r
is_some-option_copied None = refl
is_some-option_copied (Some x) = refl

-- an item whose number is there is found
pub found_there : {X : Type 0} (f : X → ℕ) (n : ℕ) (xs : List X) (numbers : List ℕ) (r : Option (Bor X)) → numbers ≡ map f xs → option_copied r ≡ find (λ x. f x == n) xs → IsTrue (list_any (λ number. number == n) numbers) → IsSome r
found_there f n xs numbers r at is there =
    sym (is_some-option_copied r) ∙ ap is_some is ∙ is_some-find (λ x. f x == n) xs ∙ sym (list_any-map (λ number. number == n) f xs) ∙ ap (list_any (λ number. number == n)) (sym at) ∙ there
