-- First faults of two lists of which one is made from the other.
use Rattle.std.proofs.Common.{◌≡◌, ◌∙◌, ℕ, zero, suc, ◌<◌, Bool, true, false, cond, List, [], ◌∷◌, ◌++◌, Option, Some, None, length, take, map, get_or, zip, option_map, refl, sym, ap, arith}
use Rattle.std.specs.Option.{option_or}
use Rattle.std.proofs.lemmas.List.{append_assoc, append-nil, map-append}
use Rattle.plan_facts.specs.First.{first_fault}

-- the first of two faults, by its name
option_map-or : {A B : Type 0} (name : A → B) (a c : Option A) → option_map name (option_or a c) ≡ option_or (option_map name a) (option_map name c)
option_map-or name None c = refl
option_map-or name (Some a) c = refl

-- the first fault of one list is that of the other, by its name, where it is so member by member
pub named_first : {X Y A B : Type 0} (name : A → B) (g : X → Y) (f : List Y → Y → Option A) (h : List X → X → Option B) (earlier xs : List X) →
    ((k : ℕ) (d : X) → k < length xs → h (earlier ++ take k xs) (get_or xs k d) ≡ option_map name (f (map g (earlier ++ take k xs)) (g (get_or xs k d)))) →
    first_fault h earlier xs ≡ option_map name (first_fault f (map g earlier) (map g xs))
named_first name g f h earlier [] each = refl
named_first name g f h earlier (x ∷ xs) each =
    let here : h earlier x ≡ option_map name (f (map g earlier) (g x)) = rw (append-nil earlier) at (each zero x (omega arith)) in
    let more = named_first name g f h (earlier ++ x ∷ []) xs (λ k d lt. rw (append_assoc earlier (x ∷ []) (take k xs)) (each (suc k) d (omega arith))) in
    let rest : first_fault h (earlier ++ x ∷ []) xs ≡ option_map name (first_fault f (map g earlier ++ g x ∷ []) (map g xs)) = rw (map-append g earlier (x ∷ [])) at more in
    (λ i. option_or (here i) (rest i)) ∙ sym (option_map-or name (f (map g earlier) (g x)) (first_fault f (map g earlier ++ g x ∷ []) (map g xs)))

-- no fault stands in a list that is made from another, where it is so member by member
pub none_made : {X Y A : Type 0} (g : X → Y) (f : List Y → Y → Option A) (earlier xs : List X) →
    ((k : ℕ) (d : X) → k < length xs → f (map g (earlier ++ take k xs)) (g (get_or xs k d)) ≡ None) → first_fault f (map g earlier) (map g xs) ≡ None
none_made g f earlier [] each = refl
none_made g f earlier (x ∷ xs) each =
    let here : f (map g earlier) (g x) ≡ None = rw (append-nil earlier) at (each zero x (omega arith)) in
    let more = none_made g f (earlier ++ x ∷ []) xs (λ k d lt. rw (append_assoc earlier (x ∷ []) (take k xs)) (each (suc k) d (omega arith))) in
    let rest : first_fault f (map g earlier ++ g x ∷ []) (map g xs) ≡ None = rw (map-append g earlier (x ∷ [])) at more in
    rw here rest

-- a fault that stands unless a test holds, by its name
pub named_unless : {A B : Type 0} (name : A → B) (test : Bool) (a : A) (b : B) → name a ≡ b → cond test None (Some b) ≡ option_map name (cond test None (Some a))
named_unless name true a b is = refl
named_unless name false a b is = ap Some (sym is)

-- pairs of the members with what is made of them
pub zip-map_right : {A B : Type 0} (f : A → B) (xs : List A) → zip xs (map f xs) ≡ map (λ x. (x, f x)) xs
zip-map_right f [] = refl
zip-map_right f (x ∷ xs) = ap (λ rest. (x, f x) ∷ rest) (zip-map_right f xs)

-- pairs of two things that are made of each member
pub zip-map_both : {A B C : Type 0} (f : A → B) (g : A → C) (xs : List A) → zip (map f xs) (map g xs) ≡ map (λ x. (f x, g x)) xs
zip-map_both f g [] = refl
zip-map_both f g (x ∷ xs) = ap (λ rest. (f x, g x) ∷ rest) (zip-map_both f g xs)

-- the first of a fault and no fault
pub option_or-none_right : {F : Type 0} (a : Option F) → option_or a None ≡ a
option_or-none_right None = refl
option_or-none_right (Some a) = refl
