-- The entities of sets in order are in order.
use Rattle.std.proofs.Common.{◌≡◌, ◌∙◌, suc, Bool, true, false, cond, List, [], ◌∷◌, refl, sym, ap, All}
use Rattle.std.specs.Cmp.{IsTotalOrder}
use Rattle.std.specs.Ordering.{is_lt, is_gt, is_eq, nat_cmp, ordering_then}
use Rattle.std.specs.declared.cmp.Ordering.{Ordering}
use Rattle.std.specs.declared.cmp.Ordering.TheVariants.{Less, Equal, Greater}
use Rattle.std.proofs.lemmas.Cmp.{then_total, on_total, nat_cmp_total}
use Rattle.std.proofs.lemmas.List.Elements.{All-nil, All-cons, All-head, All-tail, All-weaker}
use Rattle.std.proofs.lemmas.List.Kept.{AllPairs-cons}
use Rattle.std.proofs.lemmas.Bool.Decides.{nat_tests}
use Rattle.std.proofs.Common.{arith}
use Rattle.plan_moves.specs.declared.edit.Set.{Set}
use Rattle.plan_moves.specs.declared.edit.Touch.{Touch}
use Rattle.plan_moves.specs.Edits.{set_order, touch_order, AreInOrder, AreTouchesInOrder, IsBefore, entity_of, is_same, is_first_touched, touched_by}
use Rattle.plan_moves.proofs.Order.{in_order_head, in_order_tail}

-- one entity comes before another
abbrev Before : Touch → Touch → Type 0
Before one other = is_lt (touch_order one other) ≡ true

-- one entity doesn't come after another
abbrev NotAfter : Touch → Touch → Type 0
NotAfter one other = is_gt (touch_order one other) ≡ false

touch_order_total : IsTotalOrder touch_order
unfolding touch_order
touch_order_total = then_total (on_total (λ t. t.class) nat_cmp_total) (on_total (λ t. t.id) nat_cmp_total)

less_is : (o : Ordering) → is_lt o ≡ true → o ≡ Less
less_is Less h = refl
less_is Equal h = cc
less_is Greater h = cc

before_trans : (a b c : Touch) → Before a b → Before b c → Before a c
before_trans a b c ab bc = ap is_lt (touch_order_total.trans a b c (less_is _ ab) (less_is _ bc))

-- what a longer order says of a shorter one
not_greater : (class id var : Ordering) → is_lt (ordering_then class (ordering_then id var)) ≡ true → is_gt (ordering_then class id) ≡ false
not_greater Less id var h = refl
not_greater Greater id var h = cc
not_greater Equal Less var h = refl
not_greater Equal Equal var h = refl
not_greater Equal Greater var h = cc

not_after : (one other : Set) → IsBefore one other → NotAfter (entity_of one) (entity_of other)
unfolding set_order touch_order
not_after one other before = not_greater (nat_cmp one.class other.class) (nat_cmp one.id other.id) (nat_cmp one.var other.var) before

-- the entities of sets that come later don't come before
touched_after : (set : Set) (sets : List Set) → All (IsBefore set) sets → All (NotAfter (entity_of set)) (touched_by sets)
touched_after set [] before = All-nil (NotAfter (entity_of set))
touched_after set (first ∷ rest) before =
    let others = touched_after set rest (All-tail (IsBefore set) first rest before) in
    elim (is_first_touched (entity_of first) (touched_by rest)) as (λ (there : Bool). All (NotAfter (entity_of set)) (cond there (touched_by rest) (entity_of first ∷ touched_by rest))) [
      | true ↦ others
      | false ↦ All-cons (NotAfter (entity_of set)) (entity_of first) (touched_by rest) (not_after set first (All-head (IsBefore set) first rest before)) others
    ]

neither : (o : Ordering) → is_gt o ≡ false → is_eq o ≡ false → is_lt o ≡ true
neither Less gt eq = refl
neither Equal gt eq = cc
neither Greater gt eq = cc

same_is : (one other : Touch) → is_same one other ≡ is_eq (touch_order one other)
unfolding touch_order
same_is one other = grind (arith, nat_tests)

-- the first is another one, so that all come after
all_after : (touch : Touch) (others : List Touch) → AreTouchesInOrder others → All (NotAfter touch) others → is_first_touched touch others ≡ false → All (Before touch) others
all_after touch [] order later new = All-nil (Before touch)
all_after touch (first ∷ rest) order later new =
    let here : Before touch first = neither (touch_order touch first) (All-head (NotAfter touch) first rest later) (sym (same_is touch first) ∙ new) in
    All-cons (Before touch) first rest here
    (All-weaker (Before first) (Before touch) (λ other after. before_trans touch first other here after) rest (λ k d within. order 0 (suc k) d (omega arith) (omega arith)))

-- the entities of sets in order are in order
pub touched_in_order : (sets : List Set) → AreInOrder sets → AreTouchesInOrder (touched_by sets)
touched_in_order [] order = λ i j d lt within. absurd (omega arith)
touched_in_order (set ∷ rest) order =
    let others = touched_in_order rest (in_order_tail set rest order) in
    let later = touched_after set rest (in_order_head set rest order) in
    elim (is_first_touched (entity_of set) (touched_by rest)) as (λ (there : Bool). is_first_touched (entity_of set) (touched_by rest) ≡ there → AreTouchesInOrder (cond there (touched_by rest) (entity_of set ∷ touched_by rest))) [
      | true ↦ λ is. others
      | false ↦ λ is. AllPairs-cons Before (entity_of set) (touched_by rest) (all_after (entity_of set) (touched_by rest) others later is) others
    ] refl
