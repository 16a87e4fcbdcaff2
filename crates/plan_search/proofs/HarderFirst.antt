-- The order in which harder entities come first is total and tells entities apart.
use Rattle.std.proofs.Common.{◌≡◌, ℤ, refl, arith}
use Rattle.std.proofs.lemmas.Bool.Decides.{nat_tests}
use Rattle.std.proofs.lemmas.Int.{ints}
use Rattle.std.specs.Ordering.{nat_cmp, int_cmp, ordering_then}
use Rattle.std.specs.declared.cmp.Ordering.{Ordering}
use Rattle.std.specs.declared.cmp.Ordering.TheVariants.{Less, Equal, Greater}
use Rattle.std.specs.Cmp.{IsTotalOrder, back_total, int_cmp_total, nat_cmp_total, on_total, then_total}
use Rattle.std.specs.FinMap.{nat_cmp-IsAntisymmetric}
use Rattle.plan_moves.specs.declared.edit.Touch.{Touch}
use Rattle.plan_search.specs.Todo.{harder_first}
use Rattle.plan_search.specs.TodoLaws.{HarderComesFirst}

-- the order is total
pub harder_first_total : (difficulty : Touch → ℤ) → IsTotalOrder (harder_first difficulty)
unfolding harder_first
harder_first_total difficulty =
    then_total (on_total (λ (t : Touch). t.class) nat_cmp_total)
    (then_total (on_total difficulty (back_total int_cmp_total)) (on_total (λ (t : Touch). t.id) nat_cmp_total))

-- where the first of two orders doesn't decide, neither does
then_first : (r s : Ordering) → ordering_then r s ≡ Equal → r ≡ Equal
then_first Less s h = cc
then_first Equal s h = refl
then_first Greater s h = cc

then_second : (r s : Ordering) → ordering_then r s ≡ Equal → s ≡ Equal
then_second Less s h = cc
then_second Equal s h = h
then_second Greater s h = cc

-- it tells entities apart
pub harder_first_apart : (difficulty : Touch → ℤ) (one other : Touch) → harder_first difficulty one other ≡ Equal → one ≡ other
unfolding harder_first
harder_first_apart difficulty one other h =
    let class = nat_cmp-IsAntisymmetric one.class other.class (then_first (nat_cmp one.class other.class) _ h) in
    let id = nat_cmp-IsAntisymmetric one.id other.id (then_second (int_cmp (difficulty other) (difficulty one)) _ (then_second (nat_cmp one.class other.class) _ h)) in
    λ i. record { class = class i; id = id i }

-- what it says in plain words
pub harder_comes_first : HarderComesFirst
unfolding harder_first
harder_comes_first difficulty one other = record {
  class = λ less. let class : nat_cmp one.class other.class ≡ Less = grind (arith, nat_tests) in rw class refl;
  harder = λ same less.
      let class : nat_cmp one.class other.class ≡ Equal = grind (arith, nat_tests) in
      let harder : int_cmp (difficulty other) (difficulty one) ≡ Less = grind (arith, ints) in
      rw (class, harder) refl;
  id = λ same alike less.
      let class : nat_cmp one.class other.class ≡ Equal = grind (arith, nat_tests) in
      let harder : int_cmp (difficulty other) (difficulty one) ≡ Equal = grind (arith, ints) in
      let id : nat_cmp one.id other.id ≡ Less = grind (arith, nat_tests) in
      rw (class, harder, id) refl;
}
