use Rattle.std.proofs.Common.{◌≡◌, ◌≢◌, ℕ, ◌<◌, List, [], ◌∷◌, Option, Some, None, Bool, true, false, cond, is_some, ◌&&◌, filter, map, T, IfSome, IfNone, MatchOption, nat_cmp, is_lt, is_eq, ltb, refl, sym, ◌∙◌, ap, subst, arith, rules, ⊎_elim}
use Rattle.std.proofs.lemmas.Bool.{cases_order, and_parts, false_from_ne_true}
use Rattle.std.proofs.lemmas.Grind.{common_steps}
use Rattle.std.specs.FinMap as finmap
use Rattle.std.specs.FinMap.{entries, entries_sorted, get-entries}
use Rattle.std.specs.FinMap.Entries.{below_all, find, is_sorted}
use Rattle.tuple_store.specs.Numbers.{is_above, numbers_above}

none_some : {X : Type 0} (o : Option X) → is_some o ≡ true → o ≡ None → ⊥
none_some o e f = cc

false_true : {b : Bool} → b ≡ true → b ≡ false → ⊥
false_true e f = cc

from_T : (b : Bool) → T b → b ≡ true
from_T true h = refl
from_T false h = absurd h

module _ {X : Type 0} where
  -- no number at or below all keys is found
  find_below : (n : ℕ) (es : List (ℕ × X)) → below_all nat_cmp n es ≡ true → find nat_cmp n es ≡ None
  find_below n [] h = refl
  find_below n (e ∷ es) h =
      let p = and_parts (is_lt (nat_cmp n e.0)) (below_all nat_cmp n es) h in
      let lt : n < e.0 = grind (arith, common_steps, rules, p.0) in
      let no : is_eq (nat_cmp n e.0) ≡ false = grind (arith, common_steps, rules, lt) in
      rw no (find_below n es p.1)

  below_lower : (n m : ℕ) (es : List (ℕ × X)) → n < m → below_all nat_cmp m es ≡ true → below_all nat_cmp n es ≡ true
  below_lower n m [] lt h = refl
  below_lower n m (e ∷ es) lt h =
      let p = and_parts (is_lt (nat_cmp m e.0)) (below_all nat_cmp m es) h in
      let lm : m < e.0 = grind (arith, common_steps, rules, p.0) in
      let yes : is_lt (nat_cmp n e.0) ≡ true = grind (arith, common_steps, rules, lm) in
      rw yes (below_lower n m es lt p.1)

  after_all : (n : ℕ) (p : ℕ → Bool) (es : List (ℕ × X)) → ((x : ℕ) → n < x → p x ≡ true) → below_all nat_cmp n es ≡ true → filter p (map (λ e. e.0) es) ≡ map (λ e. e.0) es
  after_all n p [] all h = refl
  after_all n p (e ∷ es) all h =
      let q = and_parts (is_lt (nat_cmp n e.0)) (below_all nat_cmp n es) h in
      let lt : n < e.0 = grind (arith, common_steps, rules, q.0) in
      rw (all e.0 lt) (ap (λ (ks : List ℕ). e.0 ∷ ks) (after_all n p es all q.1))

  found_later : (n : ℕ) (e : ℕ × X) (es : List (ℕ × X)) → find nat_cmp n (e ∷ es) ≡ None → find nat_cmp n es ≡ None
  found_later n e es h = by_test (is_eq (nat_cmp n e.0)) h where
    by_test : (b : Bool) → cond b (Some e.1) (find nat_cmp n es) ≡ None → find nat_cmp n es ≡ None
    by_test true f = absurd (none_some (Some e.1) refl f)
    by_test false f = f

  found_here : (e : ℕ × X) (es : List (ℕ × X)) → is_some (find nat_cmp e.0 (e ∷ es)) ≡ true
  found_here e es = let same : is_eq (nat_cmp e.0 e.0) ≡ true = grind (arith, common_steps, rules) in rw same refl

  found_other : (n : ℕ) (e : ℕ × X) (es : List (ℕ × X)) → n ≢ e.0 → find nat_cmp n (e ∷ es) ≡ find nat_cmp n es
  found_other n e es apart = let no : is_eq (nat_cmp n e.0) ≡ false = grind (arith, common_steps, rules) in rw no refl

  dropped : (p : ℕ → Bool) (e : ℕ × X) (es : List (ℕ × X)) → p e.0 ≡ false → filter p (map (λ x. x.0) (e ∷ es)) ≡ filter p (map (λ x. x.0) es)
  dropped p e es h = rw h refl

  above_none : (after : Option ℕ) (es : List (ℕ × X)) → ((q : ℕ) → is_above after q ≡ true → find nat_cmp q es ≡ None) → filter (is_above after) (map (λ e. e.0) es) ≡ []
  above_none after [] h = refl
  above_none after (e ∷ es) h =
      dropped (is_above after) e es (false_from_ne_true _ (λ up. none_some _ (found_here e es) (h e.0 up)))
      ∙ above_none after es (λ q up. found_later q e es (h q up))

  above_first : (after : Option ℕ) (n : ℕ) (es : List (ℕ × X)) → is_sorted nat_cmp es ≡ true → is_above after n ≡ true → ((x : ℕ) → n < x → is_above after x ≡ true) → is_some (find nat_cmp n es) ≡ true → ((q : ℕ) → is_above after q ≡ true → q < n → find nat_cmp q es ≡ None) → filter (is_above after) (map (λ e. e.0) es) ≡ n ∷ filter (is_above (Some n)) (map (λ e. e.0) es)
  above_first after n [] sorted up rest found least = absurd (none_some (find {X = X} nat_cmp n []) found refl)
  above_first after n (e ∷ es) sorted up rest found least =
      let parts = and_parts (below_all nat_cmp e.0 es) (is_sorted nat_cmp es) sorted in
      ⊎_elim
      (λ (same : e.0 ≡ n).
      let kept : is_above after e.0 ≡ true = rw same up in
      let under : below_all nat_cmp n es ≡ true = subst (λ (k : ℕ). below_all nat_cmp k es ≡ true) same parts.0 in
      let gone : ltb n e.0 ≡ false = grind (arith, common_steps, rules, same) in
      rw (kept, gone) (ap (λ (k : ℕ). k ∷ filter (is_above after) (map (λ x. x.0) es)) same
      ∙ ap (λ (ks : List ℕ). n ∷ ks) (after_all n (is_above after) es rest under ∙ sym (after_all n (is_above (Some n)) es (λ x lt. is_lower n x lt) under))))
      (⊎_elim
      (λ (lower : e.0 < n).
      let out : is_above after e.0 ≡ false = false_from_ne_true _ (λ yes. none_some _ (found_here e es) (least e.0 yes lower)) in
      let gone : ltb n e.0 ≡ false = grind (arith, common_steps, rules, lower) in
      let apart : n ≢ e.0 = λ same. absurd (omega arith) in
      dropped (is_above after) e es out
      ∙ above_first after n es parts.1 up rest (ap is_some (sym (found_other n e es apart)) ∙ found) (λ q yes lt. found_later q e es (least q yes lt))
      ∙ ap (λ (ks : List ℕ). n ∷ ks) (sym (dropped (is_above (Some n)) e es gone)))
      (λ (higher : n < e.0).
      let apart : n ≢ e.0 = λ same. absurd (omega arith) in
      absurd (none_some _ found (found_other n e es apart ∙ find_below n es (below_lower n e.0 es higher parts.0)))))
      (cases_order e.0 n)
    where
      is_lower : (a b : ℕ) → a < b → ltb a b ≡ true
      is_lower a b lt = grind (arith, common_steps, rules)

is_above-more : (after : Option ℕ) (n x : ℕ) → is_above after n ≡ true → n < x → is_above after x ≡ true
is_above-more None n x up lt = refl
is_above-more (Some a) n x up lt = grind (arith, common_steps, rules)

-- no live number stands above
pub numbers_above-none : {X : Type 0} (after : Option ℕ) (rows : finmap.FinMap nat_cmp X) → ((q : ℕ) → is_above after q ≡ true → finmap.get rows q ≡ None) → numbers_above after rows ≡ []
numbers_above-none after rows h = above_none after (entries rows) (λ q up. sym (get-entries rows q) ∙ h q up)

-- the least live number above comes first, and then those above it
pub numbers_above-first : {X : Type 0} (after : Option ℕ) (n : ℕ) (rows : finmap.FinMap nat_cmp X) → is_above after n ≡ true → is_some (finmap.get rows n) ≡ true → ((q : ℕ) → is_above after q ≡ true → q < n → finmap.get rows q ≡ None) → numbers_above after rows ≡ n ∷ numbers_above (Some n) rows
numbers_above-first after n rows up live least =
    above_first after n (entries rows) (from_T _ (entries_sorted rows)) up (λ x lt. is_above-more after n x up lt) (ap is_some (sym (get-entries rows n)) ∙ live) (λ q yes lt. sym (get-entries rows q) ∙ least q yes lt)
