-- What tallies stand for, one number after the other and in any order.
use Rattle.std.proofs.Common.{◌≡◌, ◌∙◌, ℤ, Bool, true, false, List, [], ◌∷◌, ◌++◌, Option, Some, ap, sym, subst, append_assoc, true≢false, arith}
use Rattle.std.specs.Prelude.{All}
use Rattle.std.proofs.lemmas.List.{length-append}
use Rattle.std.proofs.lemmas.List.Elements.{All-cons, All-head, All-nil, All-tail}
use Rattle.plan_rules.specs.declared.rule.Collect.{Collect}
use Rattle.plan_rules.specs.Bags.{AreSame}
use Rattle.plan_rules.specs.Meaning.{IsKeyNumber}
use Rattle.plan_rules.proofs.Sums.{same-sym}
use Rattle.stream_group.specs.declared.tally.Tally.{Tally}
use Rattle.stream_group.specs.Collected.{AreFewKeys, Makes, MakesMore, counts_different, made_if_any, with_more}
use Rattle.stream_group.specs.Tally.{SeesMore, Tallies, TalliesMore}
use Rattle.stream_group.proofs.Collecting.{few-same, made-more, made_if_any-same}
use Rattle.stream_group.proofs.Seen.{knows-same}

keys_front : (xs ys : List ℤ) → All IsKeyNumber (xs ++ ys) → All IsKeyNumber xs
keys_front [] ys all = All-nil IsKeyNumber
keys_front (x ∷ xs) ys all = All-cons IsKeyNumber x xs (All-head IsKeyNumber x (xs ++ ys) all) (keys_front xs ys (All-tail IsKeyNumber x (xs ++ ys) all))

-- the first of few keys
pub few_front : (xs ys : List ℤ) → AreFewKeys (xs ++ ys) → AreFewKeys xs
few_front xs ys few = record {
  keys = keys_front xs ys few.keys;
  few = let le = few.few in omega (arith, le, length-append xs ys);
}

-- one number more, where what was made of it is known
pub tallied : (old new : Tally) (numbers : List ℤ) (number : ℤ) (is_new : Bool) → new.collect ≡ old.collect
    → new.made ≡ Some (with_more old.collect old.made number is_new) → SeesMore new numbers number is_new → Tallies old numbers → Tallies new (numbers ++ number ∷ [])
tallied old new numbers number is_new collect made sees was = record {
  made = λ few.
      made ∙ ap (λ (m : Option ℤ). Some (with_more old.collect m number is_new)) (was.made (few_front numbers (number ∷ []) few))
      ∙ made-more old.collect numbers number is_new few (λ different. sees.count (ap counts_different collect ∙ different))
      ∙ ap (λ c. made_if_any c (numbers ++ number ∷ [])) (sym collect);
  sees = sees.sees;
}

-- one number more, where each counts
pub each_more : (collect : Collect) (made : Option ℤ) (number : ℤ) → counts_different collect ≡ false → MakesMore collect made (Some (with_more collect made number true)) (number ∷ [])
each_more collect made number each = λ numbers was few.
    ap (λ (m : Option ℤ). Some (with_more collect m number true)) (was (few_front numbers (number ∷ []) few))
    ∙ made-more collect numbers number true few (λ different. absurd (true≢false (sym different ∙ each)))

-- more numbers and more again, of which it is known what is made
pub makes_on : (collect : Collect) (one two three : Option ℤ) (xs ys : List ℤ) → MakesMore collect one two xs → MakesMore collect two three ys → MakesMore collect one three (xs ++ ys)
makes_on collect one two three xs ys first second = λ numbers was. subst (Makes collect three) (append_assoc numbers xs ys) (second (numbers ++ xs) (first numbers was))

-- more numbers, of which it is known what is made, where each counts
pub tallied_each : (old new : Tally) (more : List ℤ) → new.collect ≡ old.collect → counts_different old.collect ≡ false → MakesMore old.collect old.made new.made more → TalliesMore old new more
tallied_each old new more collect each makes = λ numbers was. record {
  made = λ few. makes numbers was.made few ∙ ap (λ c. made_if_any c (numbers ++ more)) (sym collect);
  sees = λ different. absurd (true≢false (sym different ∙ ap counts_different collect ∙ each));
}

-- more numbers and more again
pub tallies_on : (one two three : Tally) (xs ys : List ℤ) → TalliesMore one two xs → TalliesMore two three ys → TalliesMore one three (xs ++ ys)
tallies_on one two three xs ys first second = λ numbers was. subst (Tallies three) (append_assoc numbers xs ys) (second (numbers ++ xs) (first numbers was))

-- the same numbers in another order
tallies-same : (tally : Tally) (xs ys : List ℤ) → AreSame xs ys → Tallies tally xs → Tallies tally ys
tallies-same tally xs ys same was = record {
  made = λ few. was.made (few-same ys xs (same-sym xs ys same) few) ∙ made_if_any-same tally.collect xs ys same;
  sees = λ different. knows-same tally.noted xs ys same (was.sees different);
}

-- a tally that begins anew has what its collector makes of the numbers that it takes, in any order
pub made_anew : (one two : Tally) (collect : Collect) (xs ys : List ℤ) → Tallies one [] → two.collect ≡ collect → TalliesMore one two xs → AreSame xs ys → AreFewKeys ys → two.made ≡ made_if_any collect ys
made_anew one two collect xs ys anew is more same few = (tallies-same two xs ys same (more [] anew)).made few ∙ ap (λ c. made_if_any c ys) is
