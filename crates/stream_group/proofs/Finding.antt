-- Rows that go are found, and rows that come are asked, one after the other.
use Rattle.std.proofs.Common.{◌≡◌, ◌<◌, ◌+◌, ◌∙◌, ℕ, ℤ, List, [], ◌∷◌, ◌++◌, map, get_or, length, take, ap, sym, subst, append_assoc, arith}
use Rattle.std.specs.Prelude.{All}
use Rattle.std.proofs.lemmas.List.{map-append, take_more}
use Rattle.std.proofs.lemmas.List.Elements.{All-append}
use Rattle.std.proofs.lemmas.List.Sums.{sum_by-append}
use Rattle.plan_rules.specs.Meaning.{IsKeyNumber}
use Rattle.stream_heads.specs.declared.cells.Cell.{Cell}
use Rattle.stream_heads.specs.declared.member.Member.{Member}
use Rattle.stream_heads.specs.Bags.{IsPartOf}
use Rattle.stream_heads.specs.Sides.{all_numbered, numbered}
use Rattle.stream_group.specs.declared.ahead.GroupAhead.{GroupAhead}
use Rattle.stream_group.specs.declared.change.Change.{Change}
use Rattle.stream_group.specs.Asked.{Asks}
use Rattle.stream_group.specs.Group.{FindsGone}
use Rattle.stream_group.specs.Keyed.{coming, leaving, number_in}

front_part : {X : Type 0} (xs ys zs : List X) → IsPartOf (xs ++ ys) zs → IsPartOf xs zs
front_part xs ys zs part = record { sums = λ f. let a = part.sums f in omega (arith, a, sum_by-append f xs ys) }

back_part : {X : Type 0} (xs ys zs : List X) → IsPartOf (xs ++ ys) zs → IsPartOf ys zs
back_part xs ys zs part = record { sums = λ f. let a = part.sums f in omega (arith, a, sum_by-append f xs ys) }

joined : {X : Type 0} (a b c xs ys : List X) → b ≡ a ++ xs → c ≡ b ++ ys → c ≡ a ++ (xs ++ ys)
joined a b c xs ys one other = other ∙ ap (λ (zs : List _). zs ++ ys) one ∙ append_assoc a xs ys

-- what is made of one list and of one behind it
made_on : {X Y : Type 0} (f : X → Y) (a b c : List Y) (xs ys : List X) → b ≡ a ++ map f xs → c ≡ b ++ map f ys → c ≡ a ++ map f (xs ++ ys)
made_on {X} {Y} f a b c xs ys one other = joined a b c (map f xs) (map f ys) one other ∙ ap (λ (zs : List Y). a ++ zs) (sym (map-append f xs ys))

finds_on : (members : List Member) (xs ys : List (List Cell)) (a b c : List Change) → FindsGone members xs a b → FindsGone members ys b c → FindsGone members (xs ++ ys) a c
finds_on members xs ys a b c one other = λ numbers all part.
    let parts = subst (λ (ms : List Member). IsPartOf ms members) (map-append (numbered numbers) xs ys) part in
    made_on leaving a b c (all_numbered numbers xs) (all_numbered numbers ys) (one numbers all (front_part (all_numbered numbers xs) (all_numbered numbers ys) members parts)) (other numbers all (back_part (all_numbered numbers xs) (all_numbered numbers ys) members parts))
    ∙ ap (λ (ms : List Member). a ++ map leaving ms) (sym (map-append (numbered numbers) xs ys))

-- one row more was found
pub finds_more : (members : List Member) (gone : List (List Cell)) (i : ℕ) (x : List Cell) (a b c : List Change) → i < length gone → x ≡ get_or gone i x
    → FindsGone members (take i gone) a b → FindsGone members (x ∷ []) b c → FindsGone members (take (i + 1) gone) a c
finds_more members gone i x a b c within is one other =
    subst (λ (rows : List (List Cell)). FindsGone members rows a c) (ap (λ (y : List Cell). take i gone ++ y ∷ []) is ∙ sym (take_more gone i x within)) (finds_on members (take i gone) (x ∷ []) a b c one other)

asks_on : (numbers : List Cell → List ℤ) (width : ℕ) (xs ys : List (List Cell)) (a b c : GroupAhead) → Asks numbers width xs a b → Asks numbers width ys b c → Asks numbers width (xs ++ ys) a c
asks_on numbers width xs ys a b c one other = record {
  come_is = made_on (numbered numbers) a.come.items b.come.items c.come.items xs ys one.come_is other.come_is;
  changes_is =
      made_on coming a.changes.items b.changes.items c.changes.items (all_numbered numbers xs) (all_numbered numbers ys) one.changes_is other.changes_is
      ∙ ap (λ (ms : List Member). a.changes.items ++ map coming ms) (sym (map-append (numbered numbers) xs ys));
  range = subst (All IsKeyNumber) (sym (ap (map (number_in width)) (map-append (numbered numbers) xs ys) ∙ map-append (number_in width) (all_numbered numbers xs) (all_numbered numbers ys)))
      (All-append IsKeyNumber (map (number_in width) (all_numbered numbers xs)) (map (number_in width) (all_numbered numbers ys)) one.range other.range);
}

-- one row more was asked
pub asks_more : (numbers : List Cell → List ℤ) (width : ℕ) (come : List (List Cell)) (i : ℕ) (x : List Cell) (a b c : GroupAhead) → i < length come → x ≡ get_or come i x
    → Asks numbers width (take i come) a b → Asks numbers width (x ∷ []) b c → Asks numbers width (take (i + 1) come) a c
asks_more numbers width come i x a b c within is one other =
    subst (λ (rows : List (List Cell)). Asks numbers width rows a c) (ap (λ (y : List Cell). take i come ++ y ∷ []) is ∙ sym (take_more come i x within)) (asks_on numbers width (take i come) (x ∷ []) a b c one other)
