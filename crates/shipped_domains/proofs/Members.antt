-- The members of a list of three, and what is made of a list of one.
use Rattle.std.proofs.Common.{◌≡◌, ◌∙◌, ◌<◌, ◌⊎◌, ℕ, zero, suc, List, [], ◌∷◌, map, length, get_or, inl, inr, refl, ap, arith}

-- a member of a list of three is the first, the second or the third
pub one_of_three : {A : Type 0} (x y z : A) (k : ℕ) (d : A) → k < length (x ∷ y ∷ z ∷ []) → (get_or (x ∷ y ∷ z ∷ []) k d ≡ x) ⊎ ((get_or (x ∷ y ∷ z ∷ []) k d ≡ y) ⊎ (get_or (x ∷ y ∷ z ∷ []) k d ≡ z))
one_of_three x y z zero d within = inl refl
one_of_three x y z (suc zero) d within = inr (inl refl)
one_of_three x y z (suc (suc zero)) d within = inr (inr refl)
one_of_three x y z (suc (suc (suc k))) d within = absurd (omega arith)

-- lists of three are the same where their members are
pub three_same : {A : Type 0} {x y z u v w : A} → x ≡ u → y ≡ v → z ≡ w → x ∷ y ∷ z ∷ [] ≡ u ∷ v ∷ w ∷ []
three_same first second third = λ i. first i ∷ second i ∷ third i ∷ []

-- what is made of each member of each list is made of those lists
pub all_mapped : {X A B : Type 0} (f : A → B) (list_of : X → List A) (xs : List X) (lists : List (List A)) → map list_of xs ≡ lists → map (λ x. map f (list_of x)) xs ≡ map (map f) lists
all_mapped f list_of [] lists is = ap (map (map f)) is
all_mapped f list_of (x ∷ xs) lists is = ap (λ rest. map f (list_of x) ∷ rest) (all_mapped f list_of xs (map list_of xs) refl) ∙ ap (map (map f)) is
