-- Changes in the order of their keys, one run after the other.
use Rattle.std.proofs.Common.{◌≡◌, ◌≤◌, ◌∙◌, ℕ, ℤ, Bool, true, false, cond, List, [], ◌∷◌, ◌++◌, length, take, filter, refl, ap, sym, subst, arith}
use Rattle.std.specs.Prelude.{All, take_while}
use Rattle.std.specs.declared.cmp.Ordering.TheVariants.{Less, Equal, Greater}
use Rattle.std.specs.Cmp.{IsStrictWeakOrder, int_cmp_total}
use Rattle.std.specs.Cmp.Lexicographic.{lists_total, slice_cmp}
use Rattle.std.specs.List.Sorted.{IsSortedBy}
use Rattle.std.specs.Ordering.{int_cmp, is_eq, is_lt}
use Rattle.std.proofs.lemmas.List.Elements.{All-cons, All-head, All-tail}
use Rattle.std.proofs.lemmas.List.Sums.{take_while-cons}
use Rattle.std.proofs.lemmas.List.MinMax.{ranks_by}
use Rattle.std.proofs.lemmas.List.Sorted.{sorted_far}
use Rattle.plan_rules.proofs.Rising.{Rising, rising_from_pairs}
use Rattle.plan_rules.proofs.RowOrder.{KeyBefore, turned_round}
use Rattle.stream_index.specs.Key.{key_eq}
use Rattle.stream_group.specs.declared.change.Change.{Change}
use Rattle.stream_group.specs.Keyed.{change_key, has_key, is_before}
use Rattle.stream_group.proofs.KeyCounts.{key_apart, key_decides}
use Rattle.stream_group.proofs.KeyRows.{same_test}

pub before_weak : (width : ℕ) → IsStrictWeakOrder (is_before width)
before_weak width = ranks_by (lists_total int_cmp_total) (change_key width)

-- no later change comes before an earlier one
abbrev pub InOrder : ℕ → List Change → Type 0
InOrder width changes = Rising (λ one other. is_before width other one ≡ false) changes

pub in_order : (width : ℕ) (changes : List Change) → IsSortedBy (is_before width) changes → InOrder width changes
in_order width changes sorted = rising_from_pairs (λ one other. is_before width other one ≡ false) changes (λ i j d below within. sorted_far (is_before width) (before_weak width) changes sorted i j d (omega (arith, below)) within)

pub order_rest : (width : ℕ) (front rest : List Change) → InOrder width (front ++ rest) → InOrder width rest
order_rest width [] rest up = up
order_rest width (x ∷ front) rest up = order_rest width front rest (up.1)

-- of two keys that differ, where the one isn't before the other, that one is before it
must_follow : (one other : List ℤ) → key_eq other one ≡ false → is_lt (slice_cmp int_cmp other one) ≡ false → KeyBefore one other
must_follow one other apart not_before =
    elim (slice_cmp int_cmp other one) as (λ o. slice_cmp int_cmp other one ≡ o → KeyBefore one other) [
      | Less ↦ λ is. absurd (let no : true ≡ false = sym (ap is_lt is) ∙ not_before in cc)
      | Equal ↦ λ is. absurd (let no : true ≡ false = sym (same_test other one ∙ ap is_eq is) ∙ apart in cc)
      | Greater ↦ λ is. turned_round other one is
    ] refl

-- a key that stands before another is not that of a change which doesn't come before it
past : (width : ℕ) (key : List ℤ) (x : Change) (rest : List Change) → KeyBefore key (change_key width x) → All (λ other. is_before width other x ≡ false) rest → filter (has_key width key) rest ≡ []
past width key x [] below up = refl
past width key x (y ∷ rest) below up =
    let P : Change → Type 0 = λ other. is_before width other x ≡ false in
    let not : has_key width key y ≡ false = key_apart (change_key width y) key (λ is.
    let yes : is_lt (slice_cmp int_cmp (change_key width y) (change_key width x)) ≡ true = ap (λ (k : List ℤ). is_lt (slice_cmp int_cmp k (change_key width x))) is ∙ ap is_lt below in
    let no : true ≡ false = sym yes ∙ All-head P y rest up in cc) in
    ap (λ (b : Bool). cond b (y ∷ filter (has_key width key) rest) (filter (has_key width key) rest)) not ∙ past width key x rest below (All-tail P y rest up)

-- of changes in order of which none comes before a key, those with the key stand first
pub run_is : (width : ℕ) (key : List ℤ) (rest : List Change) → InOrder width rest → All (λ x. is_lt (slice_cmp int_cmp (change_key width x) key) ≡ false) rest → filter (has_key width key) rest ≡ take_while (has_key width key) rest
run_is width key [] up above = refl
run_is width key (x ∷ rest) up above =
    let P : Change → Type 0 = λ x. is_lt (slice_cmp int_cmp (change_key width x) key) ≡ false in
    elim (has_key width key x) as (λ b. has_key width key x ≡ b → cond b (x ∷ filter (has_key width key) rest) (filter (has_key width key) rest) ≡ cond b (x ∷ take_while (has_key width key) rest) []) [
      | true ↦ λ is. ap (λ (xs : List Change). x ∷ xs) (run_is width key rest (up.1) (All-tail P x rest above))
      | false ↦ λ is. past width key x rest (must_follow key (change_key width x) is (All-head P x rest above)) (up.0)
    ] refl ∙ sym (take_while-cons (has_key width key) x rest)

-- a key doesn't come before itself
not_before_itself : (key : List ℤ) → is_lt (slice_cmp int_cmp key key) ≡ false
not_before_itself key =
    let same : is_eq (slice_cmp int_cmp key key) ≡ true = sym (same_test key key) ∙ (key_decides key key).1 refl in
    elim (slice_cmp int_cmp key key) as (λ o. is_eq o ≡ true → is_lt o ≡ false) [ Less ↦ λ no. absurd (let f : false ≡ true = no in cc) | Equal ↦ λ is. refl | Greater ↦ λ is. refl ] same

-- none comes before the first key
pub first_key : (width : ℕ) (x : Change) (rest : List Change) → InOrder width (x ∷ rest) → All (λ y. is_lt (slice_cmp int_cmp (change_key width y) (change_key width x)) ≡ false) (x ∷ rest)
first_key width x rest up = All-cons (λ (y : Change). is_lt (slice_cmp int_cmp (change_key width y) (change_key width x)) ≡ false) x rest (not_before_itself (change_key width x)) (up.0)

pub long_run : (p : Change → Bool) (xs : List Change) → length (take_while p xs) ≤ length xs
long_run p [] = omega arith
long_run p (x ∷ xs) =
    let rest = long_run p xs in
    subst (λ (ys : List Change). length ys ≤ length (x ∷ xs)) (sym (take_while-cons p x xs))
    (elim (p x) as (λ b. length (cond b (x ∷ take_while p xs) []) ≤ length (x ∷ xs)) [ true ↦ omega (arith, rest) | false ↦ omega arith ])

-- as many as stand first with a test
pub taken_run : (p : Change → Bool) (xs : List Change) → take (length (take_while p xs)) xs ≡ take_while p xs
taken_run p [] = refl
taken_run p (x ∷ xs) =
    subst (λ (ys : List Change). take (length ys) (x ∷ xs) ≡ ys) (sym (take_while-cons p x xs))
    (elim (p x) as (λ b. take (length (cond b (x ∷ take_while p xs) [])) (x ∷ xs) ≡ cond b (x ∷ take_while p xs) []) [ true ↦ ap (λ (ys : List Change). x ∷ ys) (taken_run p xs) | false ↦ refl ])

-- those that stand first pass
pub run_passes : (p : Change → Bool) (xs : List Change) → filter p (take_while p xs) ≡ take_while p xs
run_passes p [] = refl
run_passes p (x ∷ xs) =
    subst (λ (ys : List Change). filter p ys ≡ ys) (sym (take_while-cons p x xs))
    (elim (p x) as (λ b. p x ≡ b → filter p (cond b (x ∷ take_while p xs) []) ≡ cond b (x ∷ take_while p xs) []) [
      | true ↦ λ is. ap (λ (b : Bool). cond b (x ∷ filter p (take_while p xs)) (filter p (take_while p xs))) is ∙ ap (λ (ys : List Change). x ∷ ys) (run_passes p xs)
      | false ↦ λ is. refl
    ] refl)
