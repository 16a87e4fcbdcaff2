-- Numbers from 0 to 63 that are kept as a word, one more at a time.
use Rattle.std.proofs.Common.{◌≡◌, ◌^◌, ◌*◌, ◌%◌, ◌∙◌, ℤ, Bool, true, List, [], ◌∷◌, ◌++◌, Option, Some, None, ap, refl, sym, true≢false, nat_eq, bit_and, bit_or}
use Rattle.std.proofs.Math.IntN.{nat_abs}
use Rattle.plan_rules.specs.declared.rule.Collect.{Collect}
use Rattle.plan_rules.specs.declared.rule.Collect.TheVariants as collect
use Rattle.stream_group.specs.declared.tally.Tally.{Tally}
use Rattle.stream_group.specs.declared.words.Word.{Word}
use Rattle.stream_group.specs.Collected.{counts_different, different_more, with_more}
use Rattle.stream_group.specs.Noted.{is_small}
use Rattle.stream_group.specs.Words.{WordTakes, with_word}
use Rattle.stream_group.proofs.Noting.{small_noted}
use Rattle.stream_group.proofs.Seen.{seen_more}
use Rattle.stream_group.proofs.Tallied.{tallied, tallies_on}

-- one number more, where different ones count
different_is : (collect : Collect) (made : Option ℤ) (number : ℤ) (is_new : Bool) → counts_different collect ≡ true → different_more made is_new ≡ with_more collect made number is_new
different_is collect.Count made number is_new is = absurd (true≢false (sym is))
different_is (collect.CountDistinct key) None number is_new is = refl
different_is (collect.CountDistinct key) (Some made) number is_new is = refl
different_is (collect.Sum key) made number is_new is = absurd (true≢false (sym is))
different_is (collect.Min key) made number is_new is = absurd (true≢false (sym is))
different_is (collect.Max key) made number is_new is = absurd (true≢false (sym is))

-- a word takes a number from 0 to 63
pub takes_small : (word : Word) (number read made : ℤ) → read ≡ number → is_small number ≡ true
    → made ≡ different_more word.made (nat_eq (bit_and word.bits (1 * 2 ^ nat_abs read % 2 ^ 64)) 0)
    → WordTakes word (record { bits = bit_or word.bits (1 * 2 ^ nat_abs read % 2 ^ 64); made = Some made }) (number ∷ [])
takes_small word number read made is small made_is = λ tally different numbers was.
    let bit = 1 * 2 ^ nat_abs read % 2 ^ 64 in
    let is_new = nat_eq (bit_and word.bits bit) 0 in
    let later : Word = record { bits = bit_or word.bits bit; made = Some made } in
    let old : Tally = with_word tally word in
    let new : Tally = with_word tally later in
    tallied old new numbers number is_new refl (ap Some (made_is ∙ different_is tally.collect word.made number is_new different))
    (seen_more new numbers number is_new (small_noted old.noted numbers number read is small (was.sees different))) was

-- a word takes numbers and more again
pub takes_on : (one two three : Word) (xs ys : List ℤ) → WordTakes one two xs → WordTakes two three ys → WordTakes one three (xs ++ ys)
takes_on one two three xs ys first second = λ tally different. tallies_on (with_word tally one) (with_word tally two) (with_word tally three) xs ys (first tally different) (second tally different)
