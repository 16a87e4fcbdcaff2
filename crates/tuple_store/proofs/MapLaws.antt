-- Finite maps from numbers, of which one entry comes or goes.
use Rattle.std.proofs.Common.{◌≡◌, ◌≢◌, ℕ, ◌+◌, ◌-◌, List, [], ◌∷◌, Bool, true, false, cond, Option, Some, None, is_some, map, sum_by, nat_cmp, refl, sym, ◌∙◌, ap, subst, arith, rules, ⊎_elim}
use Rattle.std.proofs.lemmas.Bool.{cases_eq}
use Rattle.std.proofs.lemmas.Grind.{common_steps}
use Rattle.std.proofs.lemmas.List.Sums.{sum_by-cons}
use Rattle.std.specs.Cmp.{nat_cmp_total}
use Rattle.std.specs.declared.cmp.Ordering.TheVariants.{Less, Equal, Greater}
use Rattle.std.specs.FinMap as finmap
use Rattle.std.specs.FinMap.{entries, entries-insert, get-entries, get-insert, get-remove, len-insert, len-remove, same_map, nat_cmp-IsAntisymmetric}
use Rattle.std.specs.FinMap.Entries.{by_order, find, put}
use Rattle.std.specs.Ordering.{eq_by_cmp, is_eq}
use Rattle.tuple_store.specs.Rows.{RowMap}

pub same_number : (q n : ℕ) → eq_by_cmp nat_cmp q n ≡ true → q ≡ n
same_number q n e = grind (arith, common_steps, rules)

pub own_number : (n : ℕ) → eq_by_cmp nat_cmp n n ≡ true
own_number n = grind (arith, common_steps, rules)

pub other_number : (q n : ℕ) → q ≢ n → eq_by_cmp nat_cmp q n ≡ false
other_number q n apart = grind (arith, common_steps, rules)

some_is : {A : Type 0} {a b : A} → Some a ≡ Some b → a ≡ b
some_is e = cc

some_none : {A : Type 0} {a : A} → Some a ≡ None → ⊥
some_none e = cc

-- maps that have the same at each number are one
pub same_rows : {T : Type 0} (a b : RowMap T) → ((q : ℕ) → finmap.get a q ≡ finmap.get b q) → a ≡ b
same_rows a b same = same_map nat_cmp_total nat_cmp-IsAntisymmetric a b same

module _ {T : Type 0} (old new : RowMap T) (n : ℕ) where
  -- what was put at a number is found there
  pub put_there : (x : T) → new ≡ finmap.insert old n x → finmap.get new n ≡ Some x
  put_there x is =
      ap (λ (m : RowMap T). finmap.get m n) is
      ∙ get-insert nat_cmp_total old n x n
      ∙ ap (λ (b : Bool). cond b (Some x) (finmap.get old n)) (own_number n)

  pub put_other : (x : T) → new ≡ finmap.insert old n x → (q : ℕ) → q ≢ n → finmap.get new q ≡ finmap.get old q
  put_other x is q apart =
      ap (λ (m : RowMap T). finmap.get m q) is
      ∙ get-insert nat_cmp_total old n x q
      ∙ ap (λ (b : Bool). cond b (Some x) (finmap.get old q)) (other_number q n apart)

  -- what is found at a number where something was put
  pub put_is : (x y : T) → new ≡ finmap.insert old n x → finmap.get new n ≡ Some y → y ≡ x
  put_is x y is there = some_is (sym there ∙ put_there x is)

  -- nothing is left at a number that was cleared
  pub gone_there : new ≡ finmap.remove old n → finmap.get new n ≡ None
  gone_there is =
      ap (λ (m : RowMap T). finmap.get m n) is
      ∙ get-remove nat_cmp_total old n n
      ∙ ap (λ (b : Bool). cond b None (finmap.get old n)) (own_number n)

  pub gone_other : new ≡ finmap.remove old n → (q : ℕ) → q ≢ n → finmap.get new q ≡ finmap.get old q
  gone_other is q apart =
      ap (λ (m : RowMap T). finmap.get m q) is
      ∙ get-remove nat_cmp_total old n q
      ∙ ap (λ (b : Bool). cond b None (finmap.get old q)) (other_number q n apart)

  -- a map that has this at one number, and what it had at the others
  pub puts : (x : T) → finmap.get new n ≡ Some x → ((q : ℕ) → q ≢ n → finmap.get new q ≡ finmap.get old q) → new ≡ finmap.insert old n x
  puts x there others = same_rows new (finmap.insert old n x) (λ q.
      ⊎_elim
      (λ (at : q ≡ n). rw at (there ∙ ap (λ (b : Bool). cond b (Some x) (finmap.get old n)) (sym (own_number n))))
      (λ apart. others q apart ∙ ap (λ (b : Bool). cond b (Some x) (finmap.get old q)) (sym (other_number q n apart)))
      (cases_eq q n)
      ∙ sym (get-insert nat_cmp_total old n x q))

  -- a map that has nothing at one number, and what it had at the others
  pub clears : finmap.get new n ≡ None → ((q : ℕ) → q ≢ n → finmap.get new q ≡ finmap.get old q) → new ≡ finmap.remove old n
  clears gone others = same_rows new (finmap.remove old n) (λ q.
      ⊎_elim
      (λ (at : q ≡ n). rw at (gone ∙ ap (λ (b : Bool). cond b None (finmap.get old n)) (sym (own_number n))))
      (λ apart. others q apart ∙ ap (λ (b : Bool). cond b None (finmap.get old q)) (sym (other_number q n apart)))
      (cases_eq q n)
      ∙ sym (get-remove nat_cmp_total old n q))

  -- what holds of each entry holds with one more
  pub each_in : (P : ℕ → T → Type 0) (x : T) → new ≡ finmap.insert old n x → P n x → ((q : ℕ) (y : T) → finmap.get old q ≡ Some y → P q y) → (q : ℕ) (y : T) → finmap.get new q ≡ Some y → P q y
  each_in P x is here all q y there =
      ⊎_elim
      (λ (at : q ≡ n). subst (λ (k : ℕ). P k y) (sym at) (subst (P n) (sym (put_is x y is (rw (← at) there))) here))
      (λ apart. all q y (sym (put_other x is q apart) ∙ there))
      (cases_eq q n)

  -- and with one less
  pub each_out : (P : ℕ → T → Type 0) → new ≡ finmap.remove old n → ((q : ℕ) (y : T) → finmap.get old q ≡ Some y → P q y) → (q : ℕ) (y : T) → finmap.get new q ≡ Some y → P q y
  each_out P is all q y there =
      ⊎_elim
      (λ (at : q ≡ n). absurd (some_none (sym there ∙ rw at (gone_there is))))
      (λ apart. all q y (sym (gone_other is q apart) ∙ there))
      (cases_eq q n)

  -- one entry more
  pub len_in : (x : T) → finmap.get old n ≡ None → new ≡ finmap.insert old n x → finmap.len new ≡ finmap.len old + 1
  len_in x free is =
      ap finmap.len is
      ∙ len-insert nat_cmp_total old n x
      ∙ ap (λ (o : Option T). cond (is_some o) (finmap.len old) (finmap.len old + 1)) free

-- what was taken out and is put back leaves the map as it was
pub put_back : {T : Type 0} (rows : RowMap T) (n : ℕ) (x : T) → finmap.get rows n ≡ Some x → finmap.insert (finmap.remove rows n) n x ≡ rows
put_back rows n x there =
    sym (puts (finmap.remove rows n) rows n x there (λ q apart. sym (gone_other rows (finmap.remove rows n) n refl q apart)))

-- what was put and is taken out again leaves the map as it was
pub taken_back : {T : Type 0} (rows : RowMap T) (n : ℕ) (x : T) → finmap.get rows n ≡ None → finmap.remove (finmap.insert rows n x) n ≡ rows
taken_back rows n x free =
    sym (clears (finmap.insert rows n x) rows n free (λ q apart. sym (put_other rows (finmap.insert rows n x) n x refl q apart)))

seconds : {T : Type 0} → List (ℕ × T) → List T
seconds {T} es = map (λ (e : ℕ × T). e.1) es

-- a new entry weighs what its value weighs
put_weighs : {T : Type 0} (f : T → ℕ) (n : ℕ) (x : T) (es : List (ℕ × T)) → find nat_cmp n es ≡ None → sum_by f (seconds (put nat_cmp n x es)) ≡ sum_by f (seconds es) + f x
unfolding seconds
put_weighs f n x [] h = sum_by-cons f x [] ∙ omega arith
put_weighs f n x (e ∷ es) h =
    elim (nat_cmp n e.0) as (λ r. cond (is_eq r) (Some e.1) (find nat_cmp n es) ≡ None → sum_by f (seconds (by_order r ((n, x) ∷ e ∷ es) ((e.0, x) ∷ es) (e ∷ put nat_cmp n x es))) ≡ sum_by f (seconds (e ∷ es)) + f x) [
      | Less ↦ λ p. sum_by-cons f x (seconds (e ∷ es)) ∙ omega arith
      | Equal ↦ λ p. absurd (some_none p)
      | Greater ↦ λ p. let rest = put_weighs f n x es p in omega (arith, sum_by-cons f e.1 (seconds (put nat_cmp n x es)), sum_by-cons f e.1 (seconds es))
    ] h

-- what all values weigh together, with one more
pub value_in : {T : Type 0} (old new : RowMap T) (n : ℕ) (x : T) → finmap.get old n ≡ None → new ≡ finmap.insert old n x → (f : T → ℕ) → sum_by f (finmap.values new) ≡ sum_by f (finmap.values old) + f x
unfolding seconds
value_in old new n x free is f = rw (is, entries-insert nat_cmp_total old n x) (put_weighs f n x (entries old) (sym (get-entries old n) ∙ free))

-- and with one less
pub value_out : {T : Type 0} (old new : RowMap T) (n : ℕ) (x : T) → finmap.get old n ≡ Some x → new ≡ finmap.remove old n → (f : T → ℕ) → sum_by f (finmap.values old) ≡ sum_by f (finmap.values new) + f x
value_out old new n x there is f =
    value_in new old n x (gone_there old new n is) (sym (ap (λ (m : RowMap _). finmap.insert m n x) is ∙ put_back old n x there)) f

-- one entry less
pub len_out : {T : Type 0} (old new : RowMap T) (n : ℕ) (x : T) → finmap.get old n ≡ Some x → new ≡ finmap.remove old n → finmap.len old ≡ finmap.len new + 1
len_out old new n x there is =
    len_in new old n x (gone_there old new n is) (sym (ap (λ (m : RowMap _). finmap.insert m n x) is ∙ put_back old n x there))
