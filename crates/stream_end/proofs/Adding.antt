-- The weights of rows that go are taken off, and those of rows that come are added, one after the other.
use Rattle.std.proofs.Common.{◌≡◌, ◌<◌, ◌+◌, ◌-◌, ◌∙◌, ℕ, ℤ, List, [], ◌∷◌, ◌++◌, None, Option, Some, get_or, length, take, ap, refl, sym, subst, append_assoc, arith}
use Rattle.std.specs.Prelude.{All}
use Rattle.std.proofs.lemmas.List.{append-nil, map-append, take_more}
use Rattle.std.proofs.lemmas.List.Elements.{All-append, All-cons, All-nil}
use Rattle.std.proofs.lemmas.List.Sums.{sum_by-append, sum_by-cons}
use Rattle.plan_rules.specs.Meaning.{Meaning}
use Rattle.stream_heads.specs.declared.cells.Cell.{Cell}
use Rattle.stream_heads.specs.declared.member.Member.{Member}
use Rattle.stream_heads.specs.Bags.{IsPartOf}
use Rattle.stream_heads.specs.Meant.{Rows}
use Rattle.stream_heads.specs.Sides.{all_numbered, numbered}
use Rattle.stream_end.specs.declared.ahead.EndAhead.{EndAhead}
use Rattle.stream_end.specs.Found.{Adds, TakesOff, TakesOffWeighed, Weighs}
use Rattle.stream_end.specs.Weights.{IsWeight, clipped, come_kept, come_weighed, kept_sum, weight_in, weights_at}

front_part : {X : Type 0} (xs ys zs : List X) → IsPartOf (xs ++ ys) zs → IsPartOf xs zs
front_part xs ys zs part = record { sums = λ f. let a = part.sums f in omega (arith, a, sum_by-append f xs ys) }

back_part : {X : Type 0} (xs ys zs : List X) → IsPartOf (xs ++ ys) zs → IsPartOf ys zs
back_part xs ys zs part = record { sums = λ f. let a = part.sums f in omega (arith, a, sum_by-append f xs ys) }

-- what the rows of two lists weigh
sum_both : (weights : List Cell → List ℤ) (xs ys : List (List Cell)) → kept_sum (all_numbered weights (xs ++ ys)) ≡ kept_sum (all_numbered weights xs) + kept_sum (all_numbered weights ys)
sum_both weights xs ys = ap kept_sum (map-append (numbered weights) xs ys) ∙ sum_by-append weight_in (all_numbered weights xs) (all_numbered weights ys)

less_both : (a b c x y z : ℕ) → b ≡ a - x → c ≡ b - y → z ≡ x + y → c ≡ a - z
less_both a b c x y z one other both = omega (arith, one, other, both)

more_both : (a b c x y z : ℕ) → b ≡ clipped (a + x) → c ≡ clipped (b + y) → z ≡ x + y → c ≡ clipped (a + z)
more_both a b c x y z one other both = omega (arith, one, other, both)

takes_on : (members : List Member) (xs ys : List (List Cell)) (a b c : ℕ) → TakesOff members xs a b → TakesOff members ys b c → TakesOff members (xs ++ ys) a c
takes_on members xs ys a b c one other = λ weights all part.
    let parts = subst (λ (ms : List Member). IsPartOf ms members) (map-append (numbered weights) xs ys) part in
    less_both a b c (kept_sum (all_numbered weights xs)) (kept_sum (all_numbered weights ys)) (kept_sum (all_numbered weights (xs ++ ys)))
    (one weights all (front_part (all_numbered weights xs) (all_numbered weights ys) members parts))
    (other weights all (back_part (all_numbered weights xs) (all_numbered weights ys) members parts)) (sum_both weights xs ys)

-- the weight of one row more was taken off
pub takes_more : (members : List Member) (gone : List (List Cell)) (i : ℕ) (x : List Cell) (a b c : ℕ) → i < length gone → x ≡ get_or gone i x
    → TakesOff members (take i gone) a b → TakesOff members (x ∷ []) b c → TakesOff members (take (i + 1) gone) a c
takes_more members gone i x a b c within is one other =
    subst (λ (rows : List (List Cell)). TakesOff members rows a c) (ap (λ (y : List Cell). take i gone ++ y ∷ []) is ∙ sym (take_more gone i x within)) (takes_on members (take i gone) (x ∷ []) a b c one other)

weighs_on : (weights : List Cell → List ℤ) (xs ys : List (List Cell)) (a b c : EndAhead) → Weighs weights xs a b → Weighs weights ys b c → Weighs weights (xs ++ ys) a c
weighs_on weights xs ys a b c one other = record {
  come_is =
      other.come_is ∙ ap (λ (ms : List Member). ms ++ all_numbered weights ys) one.come_is
      ∙ append_assoc a.come.items (all_numbered weights xs) (all_numbered weights ys)
      ∙ ap (λ (ms : List Member). a.come.items ++ ms) (sym (map-append (numbered weights) xs ys));
  fit = subst (All IsWeight) (sym (map-append (numbered weights) xs ys)) (All-append IsWeight (all_numbered weights xs) (all_numbered weights ys) one.fit other.fit);
  total =
      more_both a.total b.total c.total (kept_sum (all_numbered weights xs)) (kept_sum (all_numbered weights ys)) (kept_sum (all_numbered weights (xs ++ ys)))
      one.total other.total (sum_both weights xs ys);
}

-- one row more was weighed
pub weighs_more : (weights : List Cell → List ℤ) (come : List (List Cell)) (i : ℕ) (x : List Cell) (a b c : EndAhead) → i < length come → x ≡ get_or come i x
    → Weighs weights (take i come) a b → Weighs weights (x ∷ []) b c → Weighs weights (take (i + 1) come) a c
weighs_more weights come i x a b c within is one other =
    subst (λ (rows : List (List Cell)). Weighs weights rows a c) (ap (λ (y : List Cell). take i come ++ y ∷ []) is ∙ sym (take_more come i x within)) (weighs_on weights (take i come) (x ∷ []) a b c one other)

-- rows that nothing weighs weigh 1 each
pub kept_ones : (m : Meaning) (heads : Rows) (rows : List (List Cell)) → kept_sum (all_numbered (weights_at m heads None) rows) ≡ length rows
kept_ones m heads [] = refl
kept_ones m heads (row ∷ rows) =
    let weights = weights_at m heads None in
    let rest = kept_ones m heads rows in
    let more : kept_sum (all_numbered weights (row ∷ rows)) ≡ 1 + kept_sum (all_numbered weights rows) = sum_by-cons weight_in (numbered weights row) (all_numbered weights rows) in
    omega (arith, rest, more)

-- and fit into 32 bits
pub ones_fit : (m : Meaning) (heads : Rows) (rows : List (List Cell)) → All IsWeight (all_numbered (weights_at m heads None) rows)
ones_fit m heads [] = All-nil IsWeight
ones_fit m heads (row ∷ rows) =
    let weights = weights_at m heads None in
    let fits : IsWeight (numbered weights row) = omega arith in
    All-cons IsWeight (numbered weights row) (all_numbered weights rows) fits (ones_fit m heads rows)

-- rows that were weighed were added
pub weighed_adds : (m : Meaning) (heads : Rows) (number : ℕ) (come : List (List Cell)) (before after : EndAhead)
    → Weighs (weights_at m heads (Some number)) come before after → Adds m heads (Some number) come before after
weighed_adds m heads number come before after weighs = record { come_is = weighs.come_is; fit = weighs.fit; total = weighs.total }

-- rows that were counted were added, where nothing weighs them
pub counted_adds : (m : Meaning) (heads : Rows) (come : List (List Cell)) (before after : EndAhead)
    → after.come.items ≡ before.come.items → after.total ≡ clipped (before.total + length come) → Adds m heads None come before after
counted_adds m heads come before after still counted = record {
  come_is = still ∙ sym (append-nil before.come.items);
  fit = ones_fit m heads come;
  total = let ones = kept_ones m heads come in omega (arith, counted, ones);
}

-- the rows fit that were weighed among those that were added
pub weighed_fit : (m : Meaning) (heads : Rows) (weigher : Option ℕ) (come : List (List Cell)) → All IsWeight (all_numbered (weights_at m heads weigher) come) → All IsWeight (come_weighed m heads weigher come)
weighed_fit m heads None come fit = All-nil IsWeight
weighed_fit m heads (Some number) come fit = fit

-- and where they fit all do
pub all_fit : (m : Meaning) (heads : Rows) (weigher : Option ℕ) (come : List (List Cell)) → All IsWeight (come_weighed m heads weigher come) → All IsWeight (all_numbered (weights_at m heads weigher) come)
all_fit m heads None come fit = ones_fit m heads come
all_fit m heads (Some number) come fit = fit

-- the rows that come are kept with their weights
pub kept_weighed : (m : Meaning) (heads : Rows) (weigher : Option ℕ) (come : List (List Cell)) → come_kept weigher come (come_weighed m heads weigher come) ≡ all_numbered (weights_at m heads weigher) come
kept_weighed m heads None come = refl
kept_weighed m heads (Some number) come = refl

-- where nothing weighs the rows, as much was taken off as rows went
pub ones_off : (members : List Member) (gone : List (List Cell)) (before after : ℕ) → after ≡ before - length gone → TakesOffWeighed None members gone before after
ones_off members gone before after is = λ m heads all part. let ones = kept_ones m heads gone in omega (arith, is, ones)
