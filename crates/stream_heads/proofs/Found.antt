-- What is found among the values of a finite map.
use Rattle.std.proofs.Common.{◌≡◌, ◌<◌, ℕ, zero, suc, List, [], ◌∷◌, ◌++◌, Bool, true, false, cond, Option, Some, None, is_some, get_or, length, map, refl, sym, ◌∙◌, ap, subst, arith}
use Rattle.std.specs.Prelude.{◌↔◌, IsTrue, MatchOption, count_by}
use Rattle.std.specs.Bool.{Decides}
use Rattle.std.specs.List.{Contains}
use Rattle.std.specs.Ordering.{nat_cmp, eq_by_cmp}
use Rattle.std.specs.FinMap as finmap
use Rattle.std.specs.FinMap.{entries, get-entries}
use Rattle.std.specs.FinMap.Entries.{find}
use Rattle.std.proofs.lemmas.Bool.Decides.{Decides-ltb}
use Rattle.std.proofs.lemmas.List.Sums.{sum_by-append, sum_by-cons}
use Rattle.std.proofs.lemmas.Map.Made.{Contains-from_values_of}
use Rattle.std.proofs.lemmas.Map.Views.{Contains-from_any}
use Rattle.plan_rules.specs.Bags.{AreSame}
use Rattle.plan_rules.proofs.Sums.{list_any-counted}
use Rattle.tuple_store.proofs.MapLaws.{value_in, value_out}
use Rattle.stream_heads.specs.Bags.{IsPartOf}
use Rattle.stream_heads.specs.Standing.{Under}
use Rattle.stream_heads.proofs.Values.{EachGot, all_got}

some_is : {X : Type 0} {a b : X} → Some a ≡ Some b → a ≡ b
some_is e = cc

none_some : {X : Type 0} {a : X} → None ≡ Some a → ⊥
none_some e = cc

here : {X : Type 0} (x y : X) (xs : List X) → y ≡ x → Contains (y ∷ xs) x
here x y xs e = (0, omega arith, e)

later : {X : Type 0} (x y : X) (xs : List X) → Contains xs x → Contains (y ∷ xs) x
later x y xs h = (suc h.0, omega (arith, h.1), h.2)

module _ {X : Type 0} (things : Under X) where
  values_of : List (ℕ × X) → List X
  values_of es = map (λ (e : ℕ × X). e.1) es

  from_find : (n : ℕ) (x : X) (es : List (ℕ × X)) → find nat_cmp n es ≡ Some x → Contains (map (λ (e : ℕ × X). e.1) es) x
  from_find n x [] is = absurd (none_some is)
  from_find n x (e ∷ es) is =
      elim (eq_by_cmp nat_cmp n e.0) as (λ b. cond b (Some e.1) (find nat_cmp n es) ≡ Some x → Contains (e.1 ∷ map (λ (e : ℕ × X). e.1) es) x) [
        | true ↦ λ p. here x e.1 _ (some_is p)
        | false ↦ λ p. later x e.1 _ (from_find n x es p)
      ] is

  -- what stands at a place is one of the values
  pub value_there : (n : ℕ) (x : X) → finmap.get things n ≡ Some x → Contains (finmap.values things) x
  value_there n x is = from_find n x (entries things) (sym (get-entries things n) ∙ is)

  got_at : (es : List (ℕ × X)) → EachGot things es → (k : ℕ) (d : ℕ × X) → k < length es → finmap.get things (get_or es k d).0 ≡ Some (get_or es k d).1
  got_at [] got k d within = absurd (omega (arith, within))
  got_at (e ∷ es) got zero d within = got.0
  got_at (e ∷ es) got (suc k) d within = got_at es got.1 k d (omega (arith, within))

  -- a value stands at some place
  pub there_value : (x : X) → Contains (finmap.values things) x → (n : ℕ) × (finmap.get things n ≡ Some x)
  there_value x h =
      let at = Contains-from_values_of (entries things) x h in
      let is = got_at (entries things) (all_got things) at.1.0 (at.0, x) at.1.1 in
      (at.0, subst (λ (e : ℕ × X). finmap.get things e.0 ≡ Some e.1) at.1.2 is)

-- a member that is counted is there
pub counted_there : {X : Type 0} (eq : X → X → Bool) (tells : (a b : X) → Decides (eq a b) (a ≡ b)) (x : X) (xs : List X) → IsPartOf (x ∷ []) xs → Contains xs x
counted_there {X} eq tells x xs part =
    let w : X → ℕ = λ y. cond {A = ℕ} (eq x y) 1 0 in
    let a = part.sums w in
    let b = sum_by-cons w x [] in
    let one : w x ≡ 1 = ap (λ (b : Bool). cond {A = ℕ} b 1 0) ((tells x x).1 refl) in
    let c : 0 < count_by (eq x) xs = omega (arith, a, b, one) in
    Contains-from_any (λ x y. (tells x y).0) x xs (list_any-counted (eq x) xs ∙ (Decides-ltb 0 (count_by (eq x) xs)).1 c)

-- one thing more
pub one_in : {X : Type 0} (old new : Under X) (n : ℕ) (x : X) → finmap.get old n ≡ None → new ≡ finmap.insert old n x → AreSame (finmap.values new) (finmap.values old ++ x ∷ [])
one_in old new n x free is = record {
  sums = λ f.
      let a = value_in old new n x free is f in
      let b = sum_by-append f (finmap.values old) (x ∷ []) in
      let c = sum_by-cons f x [] in
      omega (arith, a, b, c);
}

-- one thing less
pub one_out : {X : Type 0} (old new : Under X) (n : ℕ) (x : X) → finmap.get old n ≡ Some x → new ≡ finmap.remove old n → AreSame (finmap.values old) (finmap.values new ++ x ∷ [])
one_out old new n x there is = record {
  sums = λ f.
      let a = value_out old new n x there is f in
      let b = sum_by-append f (finmap.values new) (x ∷ []) in
      let c = sum_by-cons f x [] in
      omega (arith, a, b, c);
}

-- what a look-up finds is among the values
pub has_is : {X : Type 0} (things : Under X) (x : X) (o : Option ℕ) → MatchOption o ((n : ℕ) → finmap.get things n ≡ Some x → ⊥) (λ n. finmap.get things n ≡ Some x) → IsTrue (is_some o) ↔ Contains (finmap.values things) x
has_is things x None m = (λ t. cc, λ h. let at = there_value things x h in absurd (m at.0 at.1))
has_is things x (Some n) m = (λ t. value_there things n x m, λ h. refl)

-- what is part of the values is found
pub not_missed : {X : Type 0} (eq : X → X → Bool) (tells : (a b : X) → Decides (eq a b) (a ≡ b)) (things : Under X) (x : X) → ((n : ℕ) → finmap.get things n ≡ Some x → ⊥) → IsPartOf (x ∷ []) (finmap.values things) → ⊥
not_missed eq tells things x missed part = let at = there_value things x (counted_there eq tells x (finmap.values things) part) in missed at.0 at.1
