-- Lists: what is among them, and what filters keep.
use Rattle.std.proofs.Common.{◌≡◌, ◌<◌, ◌≤◌, ◌+◌, ◌∙◌, ◌||◌, ◌⊎◌, inl, inr, ⊎_elim, ℕ, zero, suc, List, [], ◌∷◌, Bool, true, false, cond, not, filter, get_or, refl, sym, ap, subst, arith}
use Rattle.std.specs.Prelude.{All, sum_by}
use Rattle.std.specs.Bool.{Decides}
use Rattle.std.specs.List.{Contains}
use Rattle.std.proofs.lemmas.List.Elements.{All-contains_itself, All-contains, All-head, All-tail}
use Rattle.std.proofs.lemmas.List.Sums.{get_or-le-sum_by, sum_by-cons}
use Rattle.plan_rules.specs.Bags.{AreSame}
use Rattle.plan_rules.proofs.Rising.{Rising}
use Rattle.plan_rules.proofs.Sums.{sum_by-filter, sum_by-plus, sum_by-same}
use Rattle.stream_heads.specs.declared.cells.Cell.{Cell}
use Rattle.stream_heads.specs.Bags.{IsPartOf}
use Rattle.stream_heads.specs.Equality.{cells_decide, same_cells}
use Rattle.stream_heads.proofs.Found.{counted_there}

-- weights that agree at each member
pub sum_by-on : {X : Type 0} (f g : X → ℕ) (xs : List X) → ((x : X) → Contains xs x → f x ≡ g x) → sum_by f xs ≡ sum_by g xs
sum_by-on {X} f g xs agree = by_all xs (λ k d within. agree (get_or xs k d) (All-contains_itself xs k d within)) where
  by_all : (xs : List X) → All (λ x. f x ≡ g x) xs → sum_by f xs ≡ sum_by g xs
  by_all [] all = refl
  by_all (x ∷ xs) all =
      let P : X → Type 0 = λ x. f x ≡ g x in
      let here : f x ≡ g x = All-head P x xs all in
      let rest = by_all xs (All-tail P x xs all) in
      omega (arith, sum_by-cons f x xs, sum_by-cons g x xs)

pub one-le-all : {X : Type 0} (f : X → ℕ) (xs : List X) (x : X) → Contains xs x → f x ≤ sum_by f xs
one-le-all f xs x (k, within, is) = subst (λ y. f y ≤ sum_by f xs) is (get_or-le-sum_by f xs k x within)

-- what is there is part of them
pub part_one : {X : Type 0} (xs : List X) (x : X) → Contains xs x → IsPartOf (x ∷ []) xs
part_one xs x there = record { sums = λ f. let a = one-le-all f xs x there in omega (arith, a, sum_by-cons f x []) }

-- what is in one of two lists with the same members is in the other
pub same_there : {X : Type 0} (eq : X → X → Bool) (tells : (a b : X) → Decides (eq a b) (a ≡ b)) (xs ys : List X) (x : X) → AreSame xs ys → Contains xs x → Contains ys x
same_there eq tells xs ys x same there =
    counted_there eq tells x ys (record {
      sums = λ f. let a = one-le-all f xs x there in let b = same.sums f in omega (arith, a, b, sum_by-cons f x []);
    })

-- a member of a part is there
pub part_there : (part whole : List (List Cell)) (x : List Cell) → IsPartOf part whole → Contains part x → Contains whole x
part_there part whole x is there =
    counted_there same_cells cells_decide x whole (record {
      sums = λ f. let a = is.sums f in let b = one-le-all f part x there in omega (arith, a, b, sum_by-cons f x []);
    })

pub first_or_rest : {X : Type 0} (y : X) (xs : List X) (x : X) → Contains (y ∷ xs) x → (y ≡ x) ⊎ Contains xs x
first_or_rest y xs x (zero, within, is) = inl is
first_or_rest y xs x (suc k, within, is) = inr (k, omega (arith, within), is)

pub one_cases : {X : Type 0} (y x : X) → Contains (y ∷ []) x → y ≡ x
one_cases y x (zero, within, is) = is
one_cases y x (suc k, within, is) = absurd (omega (arith, within))

pub none_there : {X : Type 0} (x : X) → Contains [] x → ⊥
none_there x (k, within, is) = absurd (omega (arith, within))

pub first_there : {X : Type 0} (x : X) (xs : List X) → Contains (x ∷ xs) x
first_there x xs = (0, omega arith, refl)

pub rest_there : {X : Type 0} (x y : X) (xs : List X) → Contains xs x → Contains (y ∷ xs) x
rest_there x y xs (k, within, is) = (suc k, omega (arith, within), is)

true_false : true ≡ false → ⊥
true_false e = cc

-- what a filter keeps
pub kept_there : {X : Type 0} (p : X → Bool) (xs : List X) (x : X) → Contains xs x → p x ≡ true → Contains (filter p xs) x
kept_there p [] x there passes = absurd (none_there x there)
kept_there {X} p (y ∷ xs) x there passes =
    elim (p y) as (λ b. p y ≡ b → Contains (cond b (y ∷ filter p xs) (filter p xs)) x) [
      | true ↦ λ is. ⊎_elim (λ (same : y ≡ x). (0, omega arith, same)) (λ later. rest_there x y (filter p xs) (kept_there p xs x later passes)) (first_or_rest y xs x there)
      | false ↦ λ is. ⊎_elim (λ (same : y ≡ x). absurd (true_false (sym passes ∙ sym (ap p same) ∙ is))) (λ later. kept_there p xs x later passes) (first_or_rest y xs x there)
    ] refl

pub there_kept : {X : Type 0} (p : X → Bool) (xs : List X) (x : X) → Contains (filter p xs) x → Contains xs x × (p x ≡ true)
there_kept p [] x there = absurd (none_there x there)
there_kept {X} p (y ∷ xs) x there =
    elim (p y) as (λ b. p y ≡ b → Contains (cond b (y ∷ filter p xs) (filter p xs)) x → Contains (y ∷ xs) x × (p x ≡ true)) [
      | true ↦ λ is here. ⊎_elim (λ (same : y ≡ x). ((0, omega arith, same), sym (ap p same) ∙ is)) (λ later. let r = there_kept p xs x later in (rest_there x y xs (r.0), r.1)) (first_or_rest y (filter p xs) x here)
      | false ↦ λ is here. let r = there_kept p xs x here in (rest_there x y xs (r.0), r.1)
    ] refl there

-- nothing passes
pub none_passes : {X : Type 0} (p : X → Bool) (xs : List X) → ((x : X) → Contains xs x → p x ≡ true → ⊥) → filter p xs ≡ []
none_passes p [] none = refl
none_passes p (y ∷ xs) none =
    let rest = none_passes p xs (λ x there. none x (rest_there x y xs there)) in
    elim (p y) as (λ b. p y ≡ b → cond b (y ∷ filter p xs) (filter p xs) ≡ []) [
      | true ↦ λ is. absurd (none y (first_there y xs) is)
      | false ↦ λ is. rest
    ] refl

-- of numbers that rise just one passes a test of its own number
pub one_passes : {X : Type 0} (n : X → ℕ) (p : X → Bool) (xs : List X) (x : X) → Rising (λ (one other : X). n one < n other) xs → Contains xs x → p x ≡ true
    → ((y : X) → p y ≡ true → n y ≡ n x) → filter p xs ≡ x ∷ []
one_passes n p [] x rising there passes only = absurd (none_there x there)
one_passes {X} n p (y ∷ xs) x rising there passes only =
    let above : All (λ (other : X). n y < n other) xs = rising.0 in
    elim (p y) as (λ b. p y ≡ b → cond b (y ∷ filter p xs) (filter p xs) ≡ x ∷ []) [
      | true ↦ λ is.
          let none = none_passes p xs (λ z later good.
          let a = All-contains (λ (other : X). n y < n other) xs z above later in
          let b = only y is in
          let c = only z good in
          absurd (omega (arith, a, b, c))) in
          let same : y ≡ x = ⊎_elim (λ (e : y ≡ x). e) (λ later. let a = All-contains (λ (other : X). n y < n other) xs x above later in let b = only y is in absurd (omega (arith, a, b))) (first_or_rest y xs x there) in
          rw (none, same) refl
      | false ↦ λ is. ⊎_elim (λ (e : y ≡ x). absurd (true_false (sym passes ∙ sym (ap p e) ∙ is))) (λ later. one_passes n p xs x (rising.1) later passes only) (first_or_rest y xs x there)
    ] refl

weigh_kept : (a b : Bool) (n : ℕ) → (b ≡ true → a ≡ false) → ◌≡◌ {A = ℕ} (cond (not a) n 0) (cond (not (a || b)) n 0 + cond b n 0)
weigh_kept true true n apart = absurd (true_false (apart refl))
weigh_kept true false n apart = omega arith
weigh_kept false true n apart = omega arith
weigh_kept false false n apart = omega arith

weigh_taken : (a b : Bool) (n : ℕ) → (b ≡ true → a ≡ false) → ◌≡◌ {A = ℕ} (cond (a || b) n 0) (cond a n 0 + cond b n 0)
weigh_taken true true n apart = absurd (true_false (apart refl))
weigh_taken true false n apart = omega arith
weigh_taken false true n apart = omega arith
weigh_taken false false n apart = omega arith

module _ {X : Type 0} (p q : X → Bool) (apart : (x : X) → q x ≡ true → p x ≡ false) where
  -- a test that keeps out more
  pub kept_less : (r : X → Bool) → ((x : X) → r x ≡ (p x || q x)) → (f : X → ℕ) (xs : List X)
      → sum_by f (filter (λ x. not (p x)) xs) ≡ sum_by f (filter (λ x. not (r x)) xs) + sum_by f (filter q xs)
  kept_less r more f xs =
      let a = sum_by-filter f (λ x. not (p x)) xs in
      let b = sum_by-filter f (λ x. not (r x)) xs in
      let c = sum_by-filter f q xs in
      let d = sum_by-same (λ x. cond (not (p x)) (f x) 0) (λ x. cond (not (r x)) (f x) 0 + cond (q x) (f x) 0) xs (λ x. rw (more x) (weigh_kept (p x) (q x) (f x) (apart x))) in
      let e = sum_by-plus (λ x. cond {A = ℕ} (not (r x)) (f x) 0) (λ x. cond {A = ℕ} (q x) (f x) 0) xs in
      omega (arith, a, b, c, d, e)

  -- a test that lets in more
  pub taken_more : (r : X → Bool) → ((x : X) → r x ≡ (p x || q x)) → (f : X → ℕ) (xs : List X)
      → sum_by f (filter r xs) ≡ sum_by f (filter p xs) + sum_by f (filter q xs)
  taken_more r more f xs =
      let a = sum_by-filter f p xs in
      let b = sum_by-filter f r xs in
      let c = sum_by-filter f q xs in
      let d = sum_by-same (λ x. cond (r x) (f x) 0) (λ x. cond (p x) (f x) 0 + cond (q x) (f x) 0) xs (λ x. rw (more x) (weigh_taken (p x) (q x) (f x) (apart x))) in
      let e = sum_by-plus (λ x. cond {A = ℕ} (p x) (f x) 0) (λ x. cond {A = ℕ} (q x) (f x) 0) xs in
      omega (arith, a, b, c, d, e)

weigh_both : (a : Bool) (n : ℕ) → n ≡ cond (not a) n 0 + cond a n 0
weigh_both true n = omega arith
weigh_both false n = omega arith

-- what a test keeps out and what it lets in are all
pub both_parts : {X : Type 0} (p : X → Bool) (f : X → ℕ) (xs : List X) → sum_by f xs ≡ sum_by f (filter (λ x. not (p x)) xs) + sum_by f (filter p xs)
both_parts p f xs =
    let a = sum_by-filter f (λ x. not (p x)) xs in
    let b = sum_by-filter f p xs in
    let c = sum_by-same f (λ x. cond (not (p x)) (f x) 0 + cond (p x) (f x) 0) xs (λ x. weigh_both (p x) (f x)) in
    let d = sum_by-plus (λ x. cond {A = ℕ} (not (p x)) (f x) 0) (λ x. cond {A = ℕ} (p x) (f x) 0) xs in
    omega (arith, a, b, c, d)
