-- The rows of one key among grouped rows, one row after the other.
use Rattle.std.proofs.Common.{◌≡◌, ◌∙◌, ℕ, ◌+◌, ◌<◌, ◌≤◌, ℤ, Bool, true, false, cond, List, [], ◌∷◌, ◌++◌, map, take, get_or, length, refl, ap, sym, arith}
use Rattle.std.specs.Prelude.{filter}
use Rattle.std.specs.Ordering.{int_cmp, is_eq}
use Rattle.std.specs.Cmp.Lexicographic.{slice_cmp}
use Rattle.std.proofs.lemmas.List.{append-nil, get_or-map, map_push, take_all}
use Rattle.std.proofs.lemmas.List.Elements.{filter_more}
use Rattle.plan_rules.specs.declared.row.Part.{Part}
use Rattle.plan_rules.specs.declared.rule.Collect.{Collect}
use Rattle.plan_rules.specs.Meaning.{Meaning}
use Rattle.plan_rules.specs.Groups.{group_key, group_row, groups_of, keys_among, rows_with}
use Rattle.plan_rules.proofs.Parts.{key_lengths}
use Rattle.plan_recalc.specs.Groups.{keys_entered}
use Rattle.plan_recalc.proofs.Entered.{keys_among-entered}

key_at : (m : Meaning) (keys : List ℕ) (rows : List (List Part)) (row_keys : List (List ℤ)) (place : ℕ) (row_key : List ℤ) (d : List Part) → row_keys ≡ map (group_key m keys) rows → place < length rows → row_key ≡ get_or row_keys place row_key → group_key m keys (get_or rows place d) ≡ row_key
key_at m keys rows row_keys place row_key d are within is =
    sym (is ∙ ap (λ (ks : List (List ℤ)). get_or ks place row_key) are ∙ get_or-map (group_key m keys) rows place d row_key within)

-- a row with the key is one more
pub with_more : (m : Meaning) (keys : List ℕ) (key : List ℤ) (rows : List (List Part)) (row_keys : List (List ℤ)) (place : ℕ) (row_key : List ℤ) (d : List Part) → row_keys ≡ map (group_key m keys) rows → place < length rows → row_key ≡ get_or row_keys place row_key →
    is_eq (slice_cmp int_cmp row_key key) ≡ true → rows_with m keys (take (place + 1) rows) key ≡ rows_with m keys (take place rows) key ++ get_or rows place d ∷ []
with_more m keys key rows row_keys place row_key d are within is same =
    filter_more (λ (row : List Part). is_eq (slice_cmp int_cmp (group_key m keys row) key)) rows place d within
    ∙ ap (λ (test : Bool). rows_with m keys (take place rows) key ++ cond test (get_or rows place d ∷ []) [])
    (ap (λ (k : List ℤ). is_eq (slice_cmp int_cmp k key)) (key_at m keys rows row_keys place row_key d are within is) ∙ same)

-- a row with another key is none
pub with_other : (m : Meaning) (keys : List ℕ) (key : List ℤ) (rows : List (List Part)) (row_keys : List (List ℤ)) (place : ℕ) (row_key : List ℤ) → row_keys ≡ map (group_key m keys) rows → place < length rows → row_key ≡ get_or row_keys place row_key →
    is_eq (slice_cmp int_cmp row_key key) ≡ false → rows_with m keys (take (place + 1) rows) key ≡ rows_with m keys (take place rows) key
with_other m keys key rows row_keys place row_key are within is other =
    filter_more (λ (row : List Part). is_eq (slice_cmp int_cmp (group_key m keys row) key)) rows place [] within
    ∙ ap (λ (test : Bool). rows_with m keys (take place rows) key ++ cond test (get_or rows place [] ∷ []) [])
    (ap (λ (k : List ℤ). is_eq (slice_cmp int_cmp k key)) (key_at m keys rows row_keys place row_key [] are within is) ∙ other)
    ∙ append-nil (rows_with m keys (take place rows) key)

-- the numbers of the rows with the key, after one more row
pub numbers_more : (m : Meaning) (keys : List ℕ) (key : List ℤ) (number : ℕ) (rows : List (List Part)) (row_keys : List (List ℤ)) (place : ℕ) (row_key : List ℤ) (row : List Part) (numbers grown : List ℤ) (n : ℤ) →
    row_keys ≡ map (group_key m keys) rows → place < length rows → row_key ≡ get_or row_keys place row_key → is_eq (slice_cmp int_cmp row_key key) ≡ true → row ≡ get_or rows place row →
    numbers ≡ map (m.key_of number) (rows_with m keys (take place rows) key) → n ≡ m.key_of number row → grown ≡ numbers ++ n ∷ [] → grown ≡ map (m.key_of number) (rows_with m keys (take (place + 1) rows) key)
numbers_more m keys key number rows row_keys place row_key row numbers grown n are within is same read so_far value pushed =
    pushed ∙ (λ i. so_far i ++ (value ∙ ap (m.key_of number) read) i ∷ []) ∙ sym (map_push (m.key_of number) (rows_with m keys (take place rows) key) (get_or rows place row))
    ∙ ap (map (m.key_of number)) (sym (with_more m keys key rows row_keys place row_key row are within is same))

-- to filter what a map makes
pub length-filter-map : {X Y : Type 0} (p : Y → Bool) (f : X → Y) (xs : List X) → length (filter p (map f xs)) ≡ length (filter (λ x. p (f x)) xs)
length-filter-map p f [] = refl
length-filter-map {X = X} p f (x ∷ xs) =
    let rest = length-filter-map p f xs in
    elim (p (f x)) as (λ b. length (cond b (f x ∷ filter p (map f xs)) (filter p (map f xs))) ≡ length (cond b (x ∷ filter (λ (y : X). p (f y)) xs) (filter (λ (y : X). p (f y)) xs))) [ true ↦ omega arith | false ↦ rest ]

keys_are : (m : Meaning) (keys : List ℕ) (rows : List (List Part)) (row_keys items different : List (List ℤ)) → row_keys ≡ map (group_key m keys) rows → different ≡ keys_entered row_keys → items ≡ different → items ≡ keys_among m keys rows
keys_are m keys rows row_keys items different are entered is = is ∙ entered ∙ ap keys_entered are ∙ sym (keys_among-entered m keys rows)

pub short_key : (m : Meaning) (keys : List ℕ) (rows : List (List Part)) (row_keys items different : List (List ℤ)) (place : ℕ) (key : List ℤ) → row_keys ≡ map (group_key m keys) rows → different ≡ keys_entered row_keys → items ≡ different →
    place < length items → key ≡ get_or items place key → length keys ≤ 2 → length key ≤ 2
short_key m keys rows row_keys items different place key are entered is within read few =
    let all = keys_are m keys rows row_keys items different are entered is in
    let among : place < length (keys_among m keys rows) = rw (← all) within in
    let long : length (get_or items place key) ≡ length keys = rw all (key_lengths m keys rows place key among) in
    let same : length key ≡ length (get_or items place key) = ap (λ (k : List ℤ). length k) read in
    omega arith

pub groups_end : (m : Meaning) (keys : List ℕ) (collect : Collect) (rows made : List (List Part)) (row_keys items different : List (List ℤ)) (n : ℕ) → row_keys ≡ map (group_key m keys) rows → different ≡ keys_entered row_keys → items ≡ different →
    length items ≤ n → made ≡ map (group_row m keys collect rows) (take n items) → made ≡ groups_of m keys collect rows
groups_end m keys collect rows made row_keys items different n are entered is end so_far =
    so_far ∙ ap (map (group_row m keys collect rows)) (take_all n items end ∙ keys_are m keys rows row_keys items different are entered is)
