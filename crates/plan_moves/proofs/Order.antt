-- Sets in the order of their variables, and one more put among them.
use Rattle.std.proofs.Common.{◌≡◌, ◌∙◌, ◌<◌, ◌≤◌, ◌-◌, ℕ, zero, suc, Bool, true, false, cond, map, List, [], ◌∷◌, ◌++◌, length, get_or, take, drop, refl, sym, ap, subst, arith, All}
use Rattle.std.specs.List.{filter, insert}
use Rattle.std.specs.Cmp.{IsTotalOrder}
use Rattle.std.specs.Ordering.{is_lt, is_eq, ordering_reverse}
use Rattle.std.specs.declared.cmp.Ordering.{Ordering}
use Rattle.std.specs.declared.cmp.Ordering.TheVariants.{Less, Equal, Greater}
use Rattle.std.proofs.lemmas.Cmp.{then_total, on_total, nat_cmp_total}
use Rattle.std.proofs.lemmas.List.{take-append-drop, append-nil}
use Rattle.std.proofs.lemmas.List.Elements.{All-map, All-append, All-cons, All-head, All-tail, All-nil, All-weaker, filter-append}
use Rattle.std.proofs.lemmas.List.Folds.{list_any_none, list_any_at}
use Rattle.plan_moves.specs.declared.edit.Set.{Set}
use Rattle.std.proofs.lemmas.List.Kept.{AllPairs-cons}
use Rattle.plan_moves.specs.Edits.{set_order, AreInOrder, IsBefore, is_set_in, with_set, set_back}
use Rattle.plan_facts.specs.Plan.{PlanView}

-- a set in front of others in order
pub in_order_cons : (set : Set) (sets : List Set) → All (IsBefore set) sets → AreInOrder sets → AreInOrder (set ∷ sets)
in_order_cons set sets before order = AllPairs-cons IsBefore set sets before order

-- the first of sets in order comes before the others
pub in_order_head : (set : Set) (sets : List Set) → AreInOrder (set ∷ sets) → All (IsBefore set) sets
in_order_head set sets order = λ k d within. order 0 (suc k) d (omega arith) (omega arith)

-- the others are in order
pub in_order_tail : (set : Set) (sets : List Set) → AreInOrder (set ∷ sets) → AreInOrder sets
in_order_tail set sets order = λ i j d lt within. order (suc i) (suc j) d (omega arith) (omega arith)

-- no sets are in order
pub in_order_none : AreInOrder []
in_order_none = λ i j d lt within. absurd (omega arith)

pub set_order_total : IsTotalOrder set_order
unfolding set_order
set_order_total = then_total (on_total (λ s. s.class) nat_cmp_total) (then_total (on_total (λ s. s.id) nat_cmp_total) (on_total (λ s. s.var) nat_cmp_total))

less_is : (o : Ordering) → is_lt o ≡ true → o ≡ Less
less_is Less h = refl
less_is Equal h = cc
less_is Greater h = cc

pub before_trans : (a b c : Set) → IsBefore a b → IsBefore b c → IsBefore a c
before_trans a b c ab bc = ap is_lt (set_order_total.trans a b c (less_is _ ab) (less_is _ bc))

before_back : (a b : Set) → IsBefore a b → set_order b a ≡ Greater
before_back a b ab = set_order_total.antisymm b a ∙ ap ordering_reverse (less_is _ ab)

settled : (o p : Ordering) → o ≡ ordering_reverse p → is_lt o ≡ false → is_eq p ≡ false → is_lt p ≡ true
settled o Less is lt eq = refl
settled o Equal is lt eq = cc
settled o Greater is lt eq = absurd (let e : is_lt o ≡ true = ap is_lt is in cc)

-- of two different variables, the one that is not after the other comes before it
pub before_settled : (set other : Set) → is_lt (set_order set other) ≡ false → is_eq (set_order other set) ≡ false → IsBefore other set
before_settled set other lt eq = settled (set_order set other) (set_order other set) (set_order_total.antisymm set other) lt eq

All-front : (P : Set → Type 0) (xs ys : List Set) → All P (xs ++ ys) → All P xs
All-front P [] ys all = All-nil P
All-front P (x ∷ xs) ys all = All-cons P x xs (All-head P x (xs ++ ys) all) (All-front P xs ys (All-tail P x (xs ++ ys) all))

All-back : (P : Set → Type 0) (xs ys : List Set) → All P (xs ++ ys) → All P ys
All-back P [] ys all = all
All-back P (x ∷ xs) ys all = All-back P xs ys (All-tail P x (xs ++ ys) all)

-- a set put between those before it and those after it keeps the order
pub in_order_put : (xs ys : List Set) (set : Set) → AreInOrder (xs ++ ys) → All (λ other. IsBefore other set) xs → All (IsBefore set) ys → AreInOrder (xs ++ set ∷ ys)
in_order_put [] ys set order before after = in_order_cons set ys after order
in_order_put (x ∷ xs) ys set order before after =
    let head : All (IsBefore x) (xs ++ ys) = in_order_head x (xs ++ ys) order in
    in_order_cons x (xs ++ set ∷ ys)
    (All-append (IsBefore x) xs (set ∷ ys) (All-front (IsBefore x) xs ys head) (All-cons (IsBefore x) set ys (All-head (λ other. IsBefore other set) x xs before) (All-back (IsBefore x) xs ys head)))
    (in_order_put xs ys set (in_order_tail x (xs ++ ys) order) (All-tail (λ other. IsBefore other set) x xs before) after)

filter_each : (p : Set → Bool) (xs : List Set) → All (λ x. p x ≡ true) xs → filter p xs ≡ xs
filter_each p [] all = refl
filter_each p (x ∷ xs) all = ap (λ b. cond b (x ∷ filter p xs) (filter p xs)) (All-head (λ x. p x ≡ true) x xs all) ∙ ap (λ zs. x ∷ zs) (filter_each p xs (All-tail (λ x. p x ≡ true) x xs all))

filter_no : (p : Set → Bool) (xs : List Set) → All (λ x. p x ≡ false) xs → filter p xs ≡ []
filter_no p [] all = refl
filter_no p (x ∷ xs) all = ap (λ b. cond b (x ∷ filter p xs) (filter p xs)) (All-head (λ x. p x ≡ false) x xs all) ∙ filter_no p xs (All-tail (λ x. p x ≡ false) x xs all)

-- the sets with one more, by the place where it comes
pub with_set_put : (xs ys : List Set) (set : Set) → All (λ other. IsBefore other set) xs → All (IsBefore set) ys → with_set (xs ++ ys) set ≡ xs ++ set ∷ ys
with_set_put xs ys set before after =
    let not_before : All (λ other. is_lt (set_order other set) ≡ false) ys = All-weaker (IsBefore set) (λ other. is_lt (set_order other set) ≡ false) (λ other h. ap is_lt (before_back set other h)) ys after in
    let not_after : All (λ other. is_lt (set_order set other) ≡ false) xs = All-weaker (λ other. IsBefore other set) (λ other. is_lt (set_order set other) ≡ false) (λ other h. ap is_lt (before_back other set h)) xs before in
    let first : filter (λ other. is_lt (set_order other set)) (xs ++ ys) ≡ xs ++ [] = filter-append (λ other. is_lt (set_order other set)) xs ys ∙ ap (λ zs. zs ++ filter (λ other. is_lt (set_order other set)) ys) (filter_each (λ other. is_lt (set_order other set)) xs before) ∙ ap (λ zs. xs ++ zs) (filter_no (λ other. is_lt (set_order other set)) ys not_before) in
    let last : filter (λ other. is_lt (set_order set other)) (xs ++ ys) ≡ ys = filter-append (λ other. is_lt (set_order set other)) xs ys ∙ ap (λ zs. zs ++ filter (λ other. is_lt (set_order set other)) ys) (filter_no (λ other. is_lt (set_order set other)) xs not_after) ∙ filter_each (λ other. is_lt (set_order set other)) ys after in
    ap (λ zs. zs ++ set ∷ filter (λ other. is_lt (set_order set other)) (xs ++ ys)) (first ∙ append-nil xs) ∙ ap (λ zs. xs ++ set ∷ zs) last

-- what is put between is not there already
pub not_set_put : (xs ys : List Set) (set : Set) → All (λ other. IsBefore other set) xs → All (IsBefore set) ys → is_set_in (xs ++ ys) set ≡ false
not_set_put xs ys set before after =
    list_any_none (λ other. is_eq (set_order other set)) (xs ++ ys)
    (All-append (λ other. is_eq (set_order other set) ≡ false) xs ys
    (All-weaker (λ other. IsBefore other set) (λ other. is_eq (set_order other set) ≡ false) (λ other h. ap is_eq (less_is _ h)) xs before)
    (All-weaker (IsBefore set) (λ other. is_eq (set_order other set) ≡ false) (λ other h. ap is_eq (before_back set other h)) ys after))

-- all sets up to a place come before what the last of them comes before
pub before_up_to : (sets : List Set) (set : Set) (place : ℕ) (d : Set) → AreInOrder sets → place < length sets → IsBefore (get_or sets place d) set → All (λ other. IsBefore other set) (take (suc place) sets)
before_up_to [] set place d order within last = absurd (omega arith)
before_up_to (x ∷ xs) set zero d order within last = All-cons (λ other. IsBefore other set) x [] last (All-nil (λ other. IsBefore other set))
before_up_to (x ∷ xs) set (suc place) d order within last =
    All-cons (λ other. IsBefore other set) x (take (suc place) xs) (before_trans x (get_or xs place d) set (in_order_head x xs order place d (omega arith)) last) (before_up_to xs set place d (in_order_tail x xs order) (omega arith) last)

-- where a set is put: those before it and those after it
pub record IsPut (sets : List Set) (set : Set) (place : ℕ) : Type 0 where
  pub order : AreInOrder (insert sets place set)
  pub is : with_set sets set ≡ insert sets place set
  pub new : is_set_in sets set ≡ false

split_put : (xs ys sets : List Set) (set : Set) → sets ≡ xs ++ ys → AreInOrder sets → All (λ other. IsBefore other set) xs → All (IsBefore set) ys → AreInOrder (xs ++ set ∷ ys) × (with_set sets set ≡ xs ++ set ∷ ys) × (is_set_in sets set ≡ false)
split_put xs ys sets set is order before after = (
  in_order_put xs ys set (subst AreInOrder is order) before after,
  ap (λ zs. with_set zs set) is ∙ with_set_put xs ys set before after,
  ap (λ zs. is_set_in zs set) is ∙ not_set_put xs ys set before after,
)

before_place : (sets : List Set) (set : Set) (place : ℕ) → AreInOrder sets → place ≤ length sets → (0 < place → is_lt (set_order set (get_or sets (place - 1) set)) ≡ false) → (0 < place → is_eq (set_order (get_or sets (place - 1) set) set) ≡ false) → All (λ other. IsBefore other set) (take place sets)
before_place sets set zero order within lt eq = All-nil (λ other. IsBefore other set)
before_place sets set (suc place) order within lt eq =
    let e : suc place - 1 ≡ place = omega arith in
    before_up_to sets set place set order (omega arith)
    (before_settled set (get_or sets place set)
    (subst (λ n. is_lt (set_order set (get_or sets n set)) ≡ false) e (lt (omega arith)))
    (subst (λ n. is_eq (set_order (get_or sets n set) set) ≡ false) e (eq (omega arith))))

-- a set that is not there already is put at its place
pub is_put : (sets : List Set) (set : Set) (place : ℕ) → AreInOrder sets → place ≤ length sets → All (IsBefore set) (drop place sets) → (0 < place → is_lt (set_order set (get_or sets (place - 1) set)) ≡ false) → (0 < place → is_eq (set_order (get_or sets (place - 1) set) set) ≡ false) → IsPut sets set place
is_put sets set place order within after lt eq =
    let h = split_put (take place sets) (drop place sets) sets set (sym (take-append-drop place sets)) order (before_place sets set place order within lt eq) after in
    record { order = h.0; is = h.1; new = h.2 }

-- a set whose variable is the one before its place is there already
pub is_there : (sets : List Set) (set : Set) (place : ℕ) → place ≤ length sets → 0 < place → is_eq (set_order (get_or sets (place - 1) set) set) ≡ true → is_set_in sets set ≡ true
is_there sets set place within some eq = list_any_at (λ other. is_eq (set_order other set)) sets (place - 1) set (omega arith) eq

-- a set that takes another back has its variable
pub set_back_order : (plan : PlanView) (one other : Set) → set_order (set_back plan one) (set_back plan other) ≡ set_order one other
unfolding set_order
set_back_order plan one other = refl

-- the sets that take sets in order back are in order
pub backs_in_order : (plan : PlanView) (sets : List Set) → AreInOrder sets → AreInOrder (map (set_back plan) sets)
backs_in_order plan [] order = in_order_none
backs_in_order plan (set ∷ sets) order =
    in_order_cons (set_back plan set) (map (set_back plan) sets)
    (All-map (IsBefore (set_back plan set)) (set_back plan) sets (All-weaker (IsBefore set) (λ later. IsBefore (set_back plan set) (set_back plan later)) (λ later h. ap is_lt (set_back_order plan set later) ∙ h) sets (in_order_head set sets order)))
    (backs_in_order plan sets (in_order_tail set sets order))

-- the last of sets in order comes after those before it
pub before_last : (front rest : List Set) (set : Set) → AreInOrder (front ++ set ∷ rest) → All (λ other. IsBefore other set) front
before_last [] rest set order = All-nil (λ other. IsBefore other set)
before_last (x ∷ front) rest set order =
    All-cons (λ other. IsBefore other set) x front
    (All-head (IsBefore x) set rest (All-back (IsBefore x) front (set ∷ rest) (in_order_head x (front ++ set ∷ rest) order)))
    (before_last front rest set (in_order_tail x (front ++ set ∷ rest) order))
