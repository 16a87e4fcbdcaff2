-- How a loop finds the first fault, and what no fault means.
use Rattle.std.proofs.Common.{◌≡◌, ℕ, zero, suc, ◌+◌, ◌<◌, ◌≤◌, List, [], ◌∷◌, ◌++◌, Option, Some, None, take, drop, length, get_or, refl, sym, arith}
use Rattle.std.proofs.lemmas.List.{drop_more, take_more, drop_all, append_assoc, append-nil}
use Rattle.std.specs.Option.{option_or}
use Rattle.plan_facts.specs.First.{first_fault}

-- the first fault from a place on is that of the member there, or else the first one after it
pub first_fault-from : {A F : Type 0} (fault_of : List A → A → Option F) (xs : List A) (k : ℕ) (x : A) → k < length xs → x ≡ get_or xs k x →
    first_fault fault_of (take k xs) (drop k xs) ≡ option_or (fault_of (take k xs) x) (first_fault fault_of (take (k + 1) xs) (drop (k + 1) xs))
first_fault-from fault_of xs k x lt at = rw (drop_more xs k x lt, take_more xs k x lt, sym at) refl

-- no fault stands past the end
pub first_fault-end : {A F : Type 0} (fault_of : List A → A → Option F) (xs : List A) (k : ℕ) → length xs ≤ k →
    first_fault fault_of (take k xs) (drop k xs) ≡ None
first_fault-end fault_of xs k le = rw (drop_all k xs le) refl

-- where neither gives a fault
pub option_or-none : {F : Type 0} (a b : Option F) → option_or a b ≡ None → (a ≡ None) × (b ≡ None)
option_or-none None b h = (refl, h)
option_or-none (Some fault) b h = cc

-- where there is no first fault, no member has one
pub first_fault-none : {A F : Type 0} (fault_of : List A → A → Option F) (earlier xs : List A) → first_fault fault_of earlier xs ≡ None →
    (k : ℕ) (d : A) → k < length xs → fault_of (earlier ++ take k xs) (get_or xs k d) ≡ None
first_fault-none fault_of earlier [] h k d lt = absurd (omega arith)
first_fault-none fault_of earlier (x ∷ xs) h zero d lt = rw (append-nil earlier) (option_or-none (fault_of earlier x) _ h).0
first_fault-none fault_of earlier (x ∷ xs) h (suc k) d lt =
    rw (append_assoc earlier (x ∷ []) (take k xs)) at (first_fault-none fault_of (earlier ++ x ∷ []) xs (option_or-none (fault_of earlier x) _ h).1 k d (omega arith))

-- where no member has a fault, there is no first one
pub none-first_fault : {A F : Type 0} (fault_of : List A → A → Option F) (earlier xs : List A) →
    ((k : ℕ) (d : A) → k < length xs → fault_of (earlier ++ take k xs) (get_or xs k d) ≡ None) → first_fault fault_of earlier xs ≡ None
none-first_fault fault_of earlier [] h = refl
none-first_fault fault_of earlier (x ∷ xs) h =
    let here : fault_of earlier x ≡ None = rw (append-nil earlier) at (h zero x (omega arith)) in
    rw here (none-first_fault fault_of (earlier ++ x ∷ []) xs (λ k d lt. rw (append_assoc earlier (x ∷ []) (take k xs)) (h (suc k) d (omega arith))))

-- the first fault of two lists in a row is that of the first, or else that of the second
pub first_fault-append : {A F : Type 0} (fault_of : List A → A → Option F) (earlier xs ys : List A) →
    first_fault fault_of earlier (xs ++ ys) ≡ option_or (first_fault fault_of earlier xs) (first_fault fault_of (earlier ++ xs) ys)
first_fault-append fault_of earlier [] ys = rw (append-nil earlier) refl
first_fault-append fault_of earlier (x ∷ xs) ys =
    rw (first_fault-append fault_of (earlier ++ x ∷ []) xs ys, append_assoc earlier (x ∷ []) xs, option_or_assoc (fault_of earlier x) (first_fault fault_of (earlier ++ x ∷ []) xs) _) refl
  where
    option_or_assoc : {G : Type 0} (a b c : Option G) → option_or (option_or a b) c ≡ option_or a (option_or b c)
    option_or_assoc None b c = refl
    option_or_assoc (Some fault) b c = refl
