-- Lists with one more member at their end.
use Rattle.std.proofs.Common.{◌≡◌, zero, suc, List, [], ◌∷◌, ◌++◌, All, map, refl, arith}
use Rattle.std.proofs.lemmas.List.{map-append}
use Rattle.std.proofs.lemmas.List.Elements.{All-append}

all_one : {A : Type 0} (P : A → Type 0) (x : A) → P x → All P (x ∷ [])
all_one P x here zero d within = here
all_one P x here (suc k) d within = absurd (omega arith)

-- what two lists are mapped to stays the same where each gets a member that is mapped to the same
pub same_grown : {A B C : Type 0} (f : A → C) (h : B → C) (xs new : List A) (ys : List B) (x : A) (y : B) → map f xs ≡ map h ys → f x ≡ h y → new ≡ xs ++ x ∷ [] → map f new ≡ map h (ys ++ y ∷ [])
same_grown f h xs new ys x y same one grown = rw (grown, map-append f xs (x ∷ []), map-append h ys (y ∷ []), same, one) refl

-- what holds of each member of a list and of one more holds of each of the longer list
pub all_grown : {A : Type 0} (P : A → Type 0) (xs new : List A) (x : A) → All P xs → P x → new ≡ xs ++ x ∷ [] → All P new
all_grown P xs new x all here grown = rw grown (All-append P xs (x ∷ []) all (all_one P x here))

-- the same where the second list is mapped twice
pub same_grown_twice : {A B C D : Type 0} (f : A → D) (n : B → C) (h : C → D) (xs new : List A) (ys : List B) (x : A) (y : B) → map f xs ≡ map h (map n ys) → f x ≡ h (n y) → new ≡ xs ++ x ∷ [] → map f new ≡ map h (map n (ys ++ y ∷ []))
same_grown_twice f n h xs new ys x y same one grown =
    rw (grown, map-append f xs (x ∷ []), map-append n ys (y ∷ []), map-append h (map n ys) (n y ∷ []), same, one) refl
