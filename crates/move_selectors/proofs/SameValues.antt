-- When two lists hold the same values.
use Rattle.std.proofs.Common.{◌≡◌, ◌∙◌, ◌≤◌, ◌&&◌, ℕ, Bool, true, false, nat_eq, Option, Some, None, List, [], ◌∷◌, length, refl, sym, ap, arith}
use Rattle.std.specs.Option.{option_eq}
use Rattle.std.proofs.lemmas.Bool.{eq-eqb}
use Rattle.plan_facts.proofs.Places.{same_eqb}
use Rattle.move_selectors.specs.Pillars.{same_values, is_settled}
use Rattle.move_selectors.specs.Linked.{key_of, is_key}

both_left : (a b : Bool) → (a && b) ≡ true → a ≡ true
both_left true b h = refl
both_left false b h = h

both_right : (a b : Bool) → (a && b) ≡ true → b ≡ true
both_right true b h = h
both_right false b h = cc

true_same : (x : Bool) → x ≡ (x && true)
true_same true = refl
true_same false = refl

option_same : (one other : Option ℕ) → option_eq nat_eq one other ≡ true → one ≡ other
option_same None None e = refl
option_same None (Some n) e = cc
option_same (Some m) None e = cc
option_same (Some m) (Some n) e = ap (λ k. Some k) (same_eqb m n e)

option_itself : (one : Option ℕ) → option_eq nat_eq one one ≡ true
option_itself None = refl
option_itself (Some n) = eq-eqb n n refl

-- what is the same by its values is one
pub same_is : (one other : List (Option ℕ)) → same_values one other ≡ true → one ≡ other
same_is [] [] e = refl
same_is [] (y ∷ ys) e = cc
same_is (x ∷ xs) [] e = cc
same_is (x ∷ xs) (y ∷ ys) e =
    let head = option_same x y (both_left _ _ e) in
    let rest = same_is xs ys (both_right (option_eq nat_eq x y) _ e) in
    λ i. head i ∷ rest i

pub same_itself : (one : List (Option ℕ)) → same_values one one ≡ true
same_itself [] = refl
same_itself (x ∷ xs) = ap (λ b. b && same_values xs xs) (option_itself x) ∙ same_itself xs

pub is_same : (one other : List (Option ℕ)) → one ≡ other → same_values one other ≡ true
is_same one other e = ap (same_values one) (sym e) ∙ same_itself one

bool_same : (a b : Bool) → (a ≡ true → b ≡ true) → (b ≡ true → a ≡ true) → a ≡ b
bool_same true b h k = sym (h refl)
bool_same false true h k = k refl
bool_same false false h k = refl

-- the order of the two doesn't matter
pub same_flipped : (one other : List (Option ℕ)) → same_values one other ≡ same_values other one
same_flipped one other =
    bool_same (same_values one other) (same_values other one) (λ e. is_same other one (sym (same_is one other e))) (λ e. is_same one other (sym (same_is other one e)))

-- lists of at most two values are the same where their keys are
pub key_same : (one other : List (Option ℕ)) → length one ≡ length other → length one ≤ 2 → is_key (key_of one) (key_of other) ≡ same_values one other
key_same [] [] long few = refl
key_same [] (y ∷ ys) long few = absurd (omega arith)
key_same (x ∷ xs) [] long few = absurd (omega arith)
key_same (x ∷ []) (y ∷ []) long few = refl
key_same (x ∷ []) (y ∷ z ∷ ys) long few = absurd (omega arith)
key_same (x ∷ z ∷ xs) (y ∷ []) long few = absurd (omega arith)
key_same (x ∷ z ∷ []) (y ∷ w ∷ []) long few = ap (λ (b : Bool). option_eq nat_eq x y && b) (true_same (option_eq nat_eq z w))
key_same (x ∷ z ∷ []) (y ∷ w ∷ u ∷ ys) long few = absurd (omega arith)
key_same (x ∷ z ∷ u ∷ xs) (y ∷ w ∷ ys) long few = absurd (omega arith)

-- a settled one and another that isn't are different
pub settled_apart : (nullables : List Bool) (one other : List (Option ℕ)) → is_settled nullables one ≡ false → is_settled nullables other ≡ true → same_values one other ≡ false
settled_apart nullables one other unsettled settled =
    elim (same_values one other) as (λ (b : Bool). same_values one other ≡ b → b ≡ false) [
      | true ↦ λ e. sym (ap (is_settled nullables) (same_is one other e) ∙ settled) ∙ unsettled
      | false ↦ λ e. refl
    ] refl
