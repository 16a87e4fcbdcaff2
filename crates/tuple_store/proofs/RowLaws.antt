use Rattle.std.proofs.Common.{◌≡◌, ◌≢◌, ℕ, zero, suc, ◌+◌, ◌<◌, List, [], ◌∷◌, Option, Some, None, Bool, true, false, cond, is_some, map, length, get_or, nat_cmp, refl, sym, ◌∙◌, ap, subst, arith, rules, ⊎_elim}
use Rattle.std.proofs.lemmas.Bool.{cases_eq}
use Rattle.std.proofs.lemmas.Grind.{common_steps}
use Rattle.std.specs.FinMap as finmap
use Rattle.std.specs.FinMap.{gets, get-empty, get-insert, get-remove, same_map, nat_cmp-IsAntisymmetric}
use Rattle.std.specs.Cmp.{nat_cmp_total}
use Rattle.std.specs.Ordering.{eq_by_cmp}
use Rattle.tuple_store.specs.declared.held.Held.{Held}
use Rattle.tuple_store.specs.declared.held.Mark.{Mark}
use Rattle.tuple_store.specs.declared.held.Mark.TheVariants.{Kept, Added, Killed}
use Rattle.tuple_store.specs.Live.{slot_at}
use Rattle.tuple_store.proofs.MapLaws.{clears, puts, same_rows}
use Rattle.tuple_store.specs.Rows.{is_now, is_base, is_settled, mark_in, numbered, remarked, rows_of, shown}

get_below : {T : Type 0} (n : ℕ) (slots : List (Option T)) (q : ℕ) → q < n → finmap.get (numbered n slots) q ≡ None
get_below n [] q h = get-empty nat_cmp q
get_below n (None ∷ slots) q h = get_below (n + 1) slots q (omega arith)
get_below n (Some row ∷ slots) q h = grind (arith, gets, rules, get_below (n + 1) slots q)

get_numbered : {T : Type 0} (n : ℕ) (slots : List (Option T)) (q : ℕ) → finmap.get (numbered n slots) (n + q) ≡ get_or slots q None
get_numbered n [] q = get-empty nat_cmp (n + q)
get_numbered n (None ∷ slots) zero = get_below (n + 1) slots (n + 0) (omega arith)
get_numbered n (None ∷ slots) (suc q) = let e : n + suc q ≡ n + 1 + q = omega arith in rw e (get_numbered (n + 1) slots q)
get_numbered n (Some row ∷ slots) zero = grind (arith, gets, rules)
get_numbered n (Some row ∷ slots) (suc q) =
    let e : n + suc q ≡ n + 1 + q = omega arith in
    let k = get_numbered (n + 1) slots q in
    grind (arith, gets, rules)

get_or-shown : {T : Type 0} (passes : Mark → Bool) (slots : List (Option (Held T))) (q : ℕ) → get_or (map (shown passes) slots) q None ≡ shown passes (get_or slots q None)
get_or-shown passes [] q = refl
get_or-shown passes (s ∷ slots) zero = refl
get_or-shown passes (s ∷ slots) (suc q) = get_or-shown passes slots q

-- the row of a number is what its slot shows
pub get-rows_of : {T : Type 0} (passes : Mark → Bool) (slots : List (Option (Held T))) (q : ℕ) → finmap.get (rows_of passes slots) q ≡ shown passes (slot_at slots q)
unfolding rows_of
get-rows_of {T} passes slots q =
    let e : 0 + q ≡ q = omega arith in
    subst (λ (k : ℕ). finmap.get (numbered 0 (map (shown passes) slots)) k ≡ get_or (map (shown passes) slots) q None) e (get_numbered 0 (map (shown passes) slots) q)
    ∙ get_or-shown passes slots q

module _ {T : Type 0} (passes : Mark → Bool) (old new : List (Option (Held T))) (n : ℕ) (others : (q : ℕ) → q ≢ n → slot_at new q ≡ slot_at old q) where
  other_rows : (q : ℕ) → q ≢ n → finmap.get (rows_of passes new) q ≡ finmap.get (rows_of passes old) q
  other_rows q apart = get-rows_of passes new q ∙ ap (shown passes) (others q apart) ∙ sym (get-rows_of passes old q)

  -- a slot that shows a row now
  pub rows_of-put : (row : T) → shown passes (slot_at new n) ≡ Some row → rows_of passes new ≡ finmap.insert (rows_of passes old) n row
  rows_of-put row here = puts (rows_of passes old) (rows_of passes new) n row (get-rows_of passes new n ∙ here) other_rows

  -- a slot that shows no row now
  pub rows_of-cleared : shown passes (slot_at new n) ≡ None → rows_of passes new ≡ finmap.remove (rows_of passes old) n
  rows_of-cleared here = clears (rows_of passes old) (rows_of passes new) n (get-rows_of passes new n ∙ here) other_rows

  -- a slot that shows what it showed
  pub rows_of-same : shown passes (slot_at new n) ≡ shown passes (slot_at old n) → rows_of passes new ≡ rows_of passes old
  rows_of-same here = same_rows (rows_of passes new) (rows_of passes old) (λ q.
      ⊎_elim
      (λ (at : q ≡ n). rw at (get-rows_of passes new n ∙ here ∙ sym (get-rows_of passes old n)))
      (other_rows q)
      (cases_eq q n))

some_is : {A : Type 0} {a b : A} → Some a ≡ Some b → a ≡ b
some_is e = cc

none_some : {A : Type 0} {a : A} → None ≡ Some a → ⊥
none_some e = cc

true_false : true ≡ false → ⊥
true_false e = cc

shown_settled : {T : Type 0} (slot : Option (Held T)) → is_settled slot ≡ true → shown is_now slot ≡ shown is_base slot
shown_settled None e = refl
shown_settled (Some held) e = by_mark held.mark refl where
  by_mark : (m : Mark) → held.mark ≡ m → cond (is_now held.mark) (Some held.row) None ≡ cond (is_base held.mark) (Some held.row) None
  by_mark Kept is = rw is refl
  by_mark Added is = absurd (true_false (sym e ∙ ap (λ (m : Mark). cond (is_now m) (is_base m) false) is))
  by_mark Killed is = absurd (true_false (sym e ∙ ap (λ (m : Mark). cond (is_now m) (is_base m) false) is))

-- where all slots are settled, both contents are one
pub rows_of-settled : {T : Type 0} (slots : List (Option (Held T))) → ((q : ℕ) → is_settled (slot_at slots q) ≡ true) → rows_of is_now slots ≡ rows_of is_base slots
rows_of-settled slots all = same_rows _ _ (λ q.
    get-rows_of is_now slots q ∙ shown_settled (slot_at slots q) (all q) ∙ sym (get-rows_of is_base slots q))

-- what a slot with this mark shows
pub shown-marked : {T : Type 0} (passes : Mark → Bool) (slot : Option (Held T)) (mark : Mark) → mark_in slot ≡ Some mark → passes mark ≡ false → shown passes slot ≡ None
shown-marked passes None mark e f = refl
shown-marked passes (Some held) mark e f = ap (λ (b : Bool). cond b (Some held.row) None) (ap passes (some_is e) ∙ f)

-- a slot of this mark that is marked anew shows what it showed, where both marks pass
pub shown-remarked : {T : Type 0} (passes : Mark → Bool) (slot : Option (Held T)) (old new : Mark) → mark_in slot ≡ Some old → passes old ≡ true → passes new ≡ true → shown passes (remarked new slot) ≡ shown passes slot
shown-remarked passes None old new e f g = refl
shown-remarked passes (Some held) old new e f g = ap (λ (b : Bool). cond b (Some held.row) None) (g ∙ sym (ap passes (some_is e) ∙ f))

-- a slot that is marked anew shows nothing where the mark doesn't pass
pub shown-hidden : {T : Type 0} (passes : Mark → Bool) (slot : Option (Held T)) (new : Mark) → passes new ≡ false → shown passes (remarked new slot) ≡ None
shown-hidden passes None new f = refl
shown-hidden passes (Some held) new f = ap (λ (b : Bool). cond b (Some held.row) None) f

pub is_settled-kept : {T : Type 0} (slot : Option (Held T)) → is_settled (remarked Kept slot) ≡ true
is_settled-kept None = refl
is_settled-kept (Some held) = refl

-- a slot that shows a row has one
pub is_some-shown : {T : Type 0} (passes : Mark → Bool) (slot : Option (Held T)) → is_some (shown passes slot) ≡ true → is_some slot ≡ true
is_some-shown passes None e = e
is_some-shown passes (Some held) e = refl

pub none_there : {T : Type 0} {slot : Option T} → slot ≡ None → is_some slot ≡ true → ⊥
none_there e f = cc

-- a slot that is marked anew has a row where it had one
pub is_some-remarked : {T : Type 0} (slot : Option (Held T)) (mark : Mark) → is_some (remarked mark slot) ≡ is_some slot
is_some-remarked None mark = refl
is_some-remarked (Some held) mark = refl

-- no slot gets a row where the one that was written doesn't
pub fewer_slots : {T : Type 0} (old new : List (Option (Held T))) (n : ℕ) → (is_some (slot_at new n) ≡ true → is_some (slot_at old n) ≡ true) → ((q : ℕ) → q ≢ n → slot_at new q ≡ slot_at old q) → (q : ℕ) → is_some (slot_at new q) ≡ true → is_some (slot_at old q) ≡ true
fewer_slots old new n here others q there =
    ⊎_elim (λ at. rw at (here (rw (← at) there))) (λ apart. ap is_some (sym (others q apart)) ∙ there) (cases_eq q n)

-- a slot without a mark is empty
pub no_mark : {T : Type 0} (slot : Option (Held T)) → mark_in slot ≡ None → is_some slot ≡ true → ⊥
no_mark None e there = absurd (false_true there) where
  false_true : false ≡ true → ⊥
  false_true f = cc
no_mark (Some held) e there = absurd (none_some (sym e))
