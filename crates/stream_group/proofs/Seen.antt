-- Numbers that a tally knows, and one more.
use Rattle.std.proofs.Common.{◌≡◌, ◌+◌, ◌∙◌, ◌||◌, ℤ, Bool, true, false, not, cond, List, [], ◌∷◌, ◌++◌, length, refl, ap, sym, true≢false, arith}
use Rattle.std.specs.Ordering.{int_eq}
use Rattle.std.specs.Cmp.{int_eq_equiv}
use Rattle.std.specs.Set.{distinct_count, is_member, unique_keys}
use Rattle.std.proofs.Math.Bool.{or-false}
use Rattle.std.proofs.lemmas.List.Folds.{list_any-append}
use Rattle.std.proofs.lemmas.Map.Steps.{list_any_congr}
use Rattle.plan_rules.specs.Bags.{AreSame}
use Rattle.plan_rules.proofs.Sums.{list_any-same}
use Rattle.stream_group.specs.declared.tally.Tally.{Tally}
use Rattle.stream_group.specs.declared.noted.Noted.{Noted}
use Rattle.stream_group.specs.Noted.{Knows, KnowsMore}
use Rattle.stream_group.specs.Tally.{SeesMore}

-- the numbers of a list and one more
pub member-push : (xs : List ℤ) (n q : ℤ) → is_member int_eq (xs ++ n ∷ []) q ≡ (is_member int_eq xs q || int_eq q n)
member-push xs n q = list_any-append (int_eq q) xs (n ∷ []) ∙ ap (λ (b : Bool). is_member int_eq xs q || b) (or-false (int_eq q n))

-- how many different numbers, where the first is the last too, comes again, and the last is among the rest, or not
counted : (xs ys : List ℤ) (x : ℤ) (same again among : Bool) → length ys ≡ cond (not among) 1 0 + length xs → (same ≡ true → again ≡ among)
    → length (cond (again || same) ys (x ∷ ys)) ≡ cond (not (same || among)) 1 0 + length (cond again xs (x ∷ xs))
counted xs ys x true true true more alike = omega (arith, more)
counted xs ys x true true false more alike = absurd (true≢false (alike refl))
counted xs ys x true false true more alike = absurd (true≢false (sym (alike refl)))
counted xs ys x true false false more alike = omega (arith, more)
counted xs ys x false true among more alike = more
counted xs ys x false false among more alike = omega (arith, more)

-- a number counts where it is none of those before
count_push : (xs : List ℤ) (n : ℤ) → distinct_count int_eq (xs ++ n ∷ []) ≡ cond (not (is_member int_eq xs n)) 1 0 + distinct_count int_eq xs
count_push [] n = refl
count_push (x ∷ xs) n =
    let rest = count_push xs n in
    let after = unique_keys int_eq (xs ++ n ∷ []) in
    let turned = int_eq_equiv.symm x n in
    ap (λ (b : Bool). length (cond b after (x ∷ after))) (member-push xs n x ∙ ap (λ (b : Bool). is_member int_eq xs x || b) turned)
    ∙ counted (unique_keys int_eq xs) after x (int_eq n x) (is_member int_eq xs x) (is_member int_eq xs n) rest (λ same. sym (list_any_congr int_eq_equiv n x xs same))

-- a number that a tally knows besides is seen, and counts if it is new
pub seen_more : (tally : Tally) (numbers : List ℤ) (number : ℤ) (is_new : Bool) → KnowsMore tally.noted numbers number is_new → SeesMore tally numbers number is_new
seen_more tally numbers number is_new more = record {
  sees = λ _. more.knows;
  count = λ _. count_push numbers number ∙ ap (λ (b : Bool). cond b 1 0 + distinct_count int_eq numbers) (sym more.new);
}

-- the same numbers were noted in another order
pub knows-same : (noted : Noted) (xs ys : List ℤ) → AreSame xs ys → Knows noted xs → Knows noted ys
knows-same noted xs ys same was = record { same = λ q. was.same q ∙ list_any-same (int_eq q) xs ys same; first = was.first }
