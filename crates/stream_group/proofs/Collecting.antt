-- What collectors make of numbers, in any order, and of one more.
use Rattle.std.proofs.Common.{◌≡◌, ◌≤◌, ◌+◌, ◌-◌, ◌*◌, ◌^◌, ◌∙◌, ℕ, ℤ, pos, negsuc, neg_ℤ, ◌+ℤ◌, ◌≤ℤ◌, Bool, true, false, cond, List, [], ◌∷◌, ◌++◌, Some, fold, length, map, min, refl, ap, sym, arith, w64}
use Rattle.std.specs.Prelude.{All, sum_by}
use Rattle.std.specs.Int.{int_min, int_max, saturate_signed}
use Rattle.std.specs.Ordering.{int_eq}
use Rattle.std.specs.Cmp.{signed_Decides}
use Rattle.std.specs.Set.{distinct_count}
use Rattle.std.proofs.lemmas.Int.{ints}
use Rattle.std.proofs.lemmas.List.{length-append, length-map}
use Rattle.std.proofs.lemmas.Map.Made.{distinct_count-le}
use Rattle.std.proofs.lemmas.List.Elements.{All-head, All-tail}
use Rattle.std.proofs.lemmas.List.Sorted.{All-permutation}
use Rattle.std.proofs.lemmas.List.Sums.{fold_push, sum_by-cons}
use Rattle.plan_rules.specs.declared.row.Part.{Part}
use Rattle.plan_rules.specs.declared.row.Part.TheVariants.{Fact, Num}
use Rattle.plan_rules.specs.declared.rule.Collect.{Collect}
use Rattle.plan_rules.specs.declared.rule.Collect.TheVariants as collect
use Rattle.plan_rules.specs.Bags.{AreSame}
use Rattle.plan_rules.specs.Groups.{collected, greatest_of, least_of}
use Rattle.plan_rules.specs.Meaning.{IsKeyNumber, Meaning}
use Rattle.plan_rules.proofs.Collected.{collected-same}
use Rattle.plan_rules.proofs.Rearranged.{permutation_from_same}
use Rattle.plan_rules.proofs.Sums.{same-map}
use Rattle.stream_group.specs.Collected.{AreFewKeys, added, counts_different, first_made, made_if_any, made_of, more_made, number_asked, with_more}

-- the numbers that are asked of rows make what the rows make
pub made-collected : (m : Meaning) (collect : Collect) (rows : List (List Part)) → made_of collect (map (number_asked m collect) rows) ≡ collected m collect rows
made-collected m collect.Count rows = ap pos (length-map rows (λ row. pos 0))
made-collected m (collect.CountDistinct key) rows = refl
made-collected m (collect.Sum key) rows = refl
made-collected m (collect.Min key) rows = refl
made-collected m (collect.Max key) rows = refl

abbrev part_number : List Part → ℤ
part_number [] = pos 0
part_number (Num n ∷ rest) = n
part_number (Fact rec ∷ rest) = pos 0

-- numbers as rows of their own
abbrev read : Meaning
read = record { test_of = λ k row. false; key_of = λ k row. part_number row; weight_of = λ k row. 0 }

abbrev alone : ℤ → List Part
alone n = Num n ∷ []

read_alone : (ns : List ℤ) → map part_number (map alone ns) ≡ ns
read_alone [] = refl
read_alone (n ∷ ns) = ap (λ (rest : List ℤ). n ∷ rest) (read_alone ns)

collected_alone : (collect : Collect) (ns : List ℤ) → collected read collect (map alone ns) ≡ made_of collect ns
collected_alone collect.Count ns = ap pos (length-map ns alone)
collected_alone (collect.CountDistinct key) ns = ap (λ (xs : List ℤ). pos (distinct_count int_eq xs)) (read_alone ns)
collected_alone (collect.Sum key) ns = ap (λ (xs : List ℤ). fold (λ a b. a +ℤ b) (pos 0) xs) (read_alone ns)
collected_alone (collect.Min key) ns = ap least_of (read_alone ns)
collected_alone (collect.Max key) ns = ap greatest_of (read_alone ns)

-- in any order
pub made-same : (collect : Collect) (xs ys : List ℤ) → AreSame xs ys → made_of collect xs ≡ made_of collect ys
made-same collect xs ys same = sym (collected_alone collect xs) ∙ collected-same read collect (map alone xs) (map alone ys) (same-map alone xs ys same) ∙ collected_alone collect ys

pub made_if_any-same : (collect : Collect) (xs ys : List ℤ) → AreSame xs ys → made_if_any collect xs ≡ made_if_any collect ys
made_if_any-same collect [] [] same = refl
made_if_any-same collect [] (y ∷ ys) same = absurd (let is = same.sums (λ n. 1) in omega (arith, is, sum_by-cons (λ (n : ℤ). 1) y ys))
made_if_any-same collect (x ∷ xs) [] same = absurd (let is = same.sums (λ n. 1) in omega (arith, is, sum_by-cons (λ (n : ℤ). 1) x xs))
made_if_any-same collect (x ∷ xs) (y ∷ ys) same = ap Some (made-same collect (x ∷ xs) (y ∷ ys) same)

length-counted : {X : Type 0} (xs : List X) → length xs ≡ sum_by (λ x. 1) xs
length-counted [] = refl
length-counted {X} (x ∷ xs) = let rest = length-counted xs in omega (arith, sum_by-cons (λ (x : X). 1) x xs)

pub length-same : {X : Type 0} (xs ys : List X) → AreSame xs ys → length xs ≡ length ys
length-same xs ys same = length-counted xs ∙ same.sums (λ x. 1) ∙ sym (length-counted ys)

-- keys' numbers in any order
pub keys-same : (xs ys : List ℤ) → AreSame xs ys → All IsKeyNumber xs → All IsKeyNumber ys
keys-same xs ys same all = All-permutation IsKeyNumber xs ys (permutation_from_same int_eq signed_Decides xs ys same) all

pub few-same : (xs ys : List ℤ) → AreSame xs ys → AreFewKeys xs → AreFewKeys ys
few-same xs ys same few = record { keys = keys-same xs ys same few.keys; few = let is = length-same xs ys same in let le = few.few in omega (arith, is, le) }

-- how far a sum of keys may be from where it began
low : (a : ℤ) (ns : List ℤ) → All IsKeyNumber ns → (a +ℤ neg_ℤ (pos (1000000000 * length ns))) ≤ℤ (fold (λ a b. a +ℤ b) a ns)
low a [] keys = omega (arith, ints)
low a (n ∷ ns) keys =
    let first = All-head IsKeyNumber n ns keys in
    let rest = low (a +ℤ n) ns (All-tail IsKeyNumber n ns keys) in
    omega (arith, ints, first.0, first.1, rest)

high : (a : ℤ) (ns : List ℤ) → All IsKeyNumber ns → (fold (λ a b. a +ℤ b) a ns) ≤ℤ (a +ℤ pos (1000000000 * length ns))
high a [] keys = omega (arith, ints)
high a (n ∷ ns) keys =
    let first = All-head IsKeyNumber n ns keys in
    let rest = high (a +ℤ n) ns (All-tail IsKeyNumber n ns keys) in
    omega (arith, ints, first.0, first.1, rest)

-- a sum that fits is not cut
uncut : (z : ℤ) → neg_ℤ (pos 4294967296000000000) ≤ℤ z → z ≤ℤ pos 4294967296000000000 → saturate_signed w64 z ≡ z
uncut (pos n) lo hi = ap pos {x = min n (2 ^ 63 - 1)} {y = n} (omega (arith, ints, lo, hi))
uncut (negsuc n) lo hi = ap negsuc {x = min n (2 ^ 63 - 1)} {y = n} (omega (arith, ints, lo, hi))

added_fits : (a b : ℤ) → neg_ℤ (pos 4294967296000000000) ≤ℤ (a +ℤ b) → (a +ℤ b) ≤ℤ (pos 4294967296000000000) → added a b ≡ a +ℤ b
added_fits a b = uncut (a +ℤ b)

count_added : (n : ℕ) → n ≤ 4294967296 → added (pos n) (pos 1) ≡ pos (n + 1)
count_added n few = added_fits (pos n) (pos 1) (omega (arith, ints)) (omega (arith, ints)) ∙ (let e : pos n +ℤ pos 1 ≡ pos (n + 1) = omega (arith, ints) in e)

-- what is made of some numbers and one more
more-made : (collect : Collect) (x : ℤ) (ns : List ℤ) (n : ℤ) (is_new : Bool) → AreFewKeys (x ∷ (ns ++ n ∷ []))
    → (counts_different collect ≡ true → distinct_count int_eq (x ∷ (ns ++ n ∷ [])) ≡ cond is_new 1 0 + distinct_count int_eq (x ∷ ns))
    → more_made collect (made_of collect (x ∷ ns)) n is_new ≡ made_of collect (x ∷ (ns ++ n ∷ []))
more-made collect.Count x ns n is_new few counts =
    let longer : length (x ∷ (ns ++ n ∷ [])) ≡ length (x ∷ ns) + 1 = omega (arith, length-append {A = ℤ} ns (n ∷ [])) in
    let le = few.few in
    count_added (length (x ∷ ns)) (omega (arith, le, longer)) ∙ ap pos (sym longer)
more-made (collect.CountDistinct key) x ns n true few counts =
    let whole = counts refl in
    let le = few.few in
    let short = distinct_count-le int_eq (x ∷ (ns ++ n ∷ [])) in
    count_added (distinct_count int_eq (x ∷ ns)) (omega (arith, le, short, whole)) ∙ ap pos {x = distinct_count int_eq (x ∷ ns) + 1} {y = distinct_count int_eq (x ∷ (ns ++ n ∷ []))} (omega (arith, whole))
more-made (collect.CountDistinct key) x ns n false few counts = ap pos {x = distinct_count int_eq (x ∷ ns)} {y = distinct_count int_eq (x ∷ (ns ++ n ∷ []))} (let whole = counts refl in omega (arith, whole))
more-made (collect.Sum key) x ns n is_new few counts =
    let whole : fold (λ a b. a +ℤ b) (pos 0) (x ∷ (ns ++ n ∷ [])) ≡ fold (λ a b. a +ℤ b) (pos 0) (x ∷ ns) +ℤ n = fold_push (λ a b. a +ℤ b) (pos 0 +ℤ x) ns n in
    let lo = low (pos 0) (x ∷ (ns ++ n ∷ [])) few.keys in
    let hi = high (pos 0) (x ∷ (ns ++ n ∷ [])) few.keys in
    let le = few.few in
    added_fits (fold (λ a b. a +ℤ b) (pos 0) (x ∷ ns)) n (omega (arith, ints, lo, le, whole)) (omega (arith, ints, hi, le, whole)) ∙ sym whole
more-made (collect.Min key) x ns n is_new few counts = sym (fold_push int_min x ns n)
more-made (collect.Max key) x ns n is_new few counts = sym (fold_push int_max x ns n)

first-made : (collect : Collect) (n : ℤ) → first_made collect n ≡ made_of collect (n ∷ [])
first-made collect.Count n = refl
first-made (collect.CountDistinct key) n = refl
first-made (collect.Sum key) n = omega (arith, ints)
first-made (collect.Min key) n = refl
first-made (collect.Max key) n = refl

pub made-more : (collect : Collect) (ns : List ℤ) (n : ℤ) (is_new : Bool) → AreFewKeys (ns ++ n ∷ [])
    → (counts_different collect ≡ true → distinct_count int_eq (ns ++ n ∷ []) ≡ cond is_new 1 0 + distinct_count int_eq ns)
    → Some (with_more collect (made_if_any collect ns) n is_new) ≡ made_if_any collect (ns ++ n ∷ [])
made-more collect [] n is_new few counts = ap Some (first-made collect n)
made-more collect (x ∷ ns) n is_new few counts = ap Some (more-made collect x ns n is_new few counts)
