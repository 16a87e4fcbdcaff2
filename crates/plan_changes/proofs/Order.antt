-- Items stay in the order of their names when one comes behind them.
use Rattle.std.proofs.Common.{◌≡◌, ◌∙◌, ◌<◌, ◌≤◌, ◌-◌, ℕ, zero, suc, Bool, true, false, Option, Some, None, List, [], ◌∷◌, ◌++◌, length, get_or, slice_get, refl, sym, ap, subst, inl, inr, arith}
use Rattle.std.specs.Prelude.{AllPairs}
use Rattle.std.specs.Option.{option_map_or}
use Rattle.std.specs.Ordering.{is_lt, nat_cmp}
use Rattle.std.specs.Cmp.Lexicographic.{slice_cmp}
use Rattle.std.specs.declared.cmp.Ordering.{Ordering}
use Rattle.std.specs.declared.cmp.Ordering.TheVariants.{Less, Equal, Greater}
use Rattle.std.proofs.lemmas.Bool.{cases_lt}
use Rattle.std.proofs.lemmas.Cmp.{nat_list_cmp_total}
use Rattle.std.proofs.lemmas.List.Quantifiers.{all_pairs_push}
use Rattle.plan_changes.specs.Change.{IsNameBefore, is_name_before, last_of}

less_is : (o : Ordering) → is_lt o ≡ true → o ≡ Less
less_is Less h = refl
less_is Equal h = cc
less_is Greater h = cc

before_trans : (a b c : List ℕ) → IsNameBefore a b → IsNameBefore b c → IsNameBefore a c
before_trans a b c ab bc = ap is_lt (nat_list_cmp_total.trans a b c (less_is _ ab) (less_is _ bc))

some_at : {X : Type 0} (xs : List X) (k : ℕ) (d : X) → k < length xs → slice_get xs k ≡ Some (get_or xs k d)
some_at [] k d within = absurd (omega arith)
some_at (x ∷ xs) zero d within = refl
some_at (x ∷ xs) (suc k) d within = some_at xs k d (omega arith)

-- items stay in order with one behind the last
pub in_order_push : {X : Type 0} (name : X → List ℕ) (items : List X) (item : X) → AllPairs (λ one other. IsNameBefore (name one) (name other)) items → option_map_or (λ last. is_name_before (name last) (name item)) (last_of items) true ≡ true → AllPairs (λ one other. IsNameBefore (name one) (name other)) (items ++ item ∷ [])
in_order_push {X = X} name items item order behind = all_pairs_push (λ one other. IsNameBefore (name one) (name other)) items item order each
  where
    each : (k : ℕ) (d : X) → k < length items → IsNameBefore (name (get_or items k d)) (name item)
    each k d within =
        let last : IsNameBefore (name (get_or items (length items - 1) d)) (name item) = sym (ap (λ o. option_map_or (λ x. is_name_before (name x) (name item)) o true) (some_at items (length items - 1) d (omega arith))) ∙ behind in
        elim (cases_lt k (length items - 1)) [
          | inl lt ↦ before_trans (name (get_or items k d)) (name (get_or items (length items - 1) d)) (name item) (order k (length items - 1) d lt (omega arith)) last
          | inr ge ↦ let e : length items - 1 ≡ k = omega arith in subst (λ i. IsNameBefore (name (get_or items i d)) (name item)) e last
        ]
