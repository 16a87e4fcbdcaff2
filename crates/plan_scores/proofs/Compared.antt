-- What the comparisons of scores say in plain words.
use Rattle.std.proofs.Common.{◌≡◌, ◌<◌, ◌<ℤ◌, ◌⊎◌, ℕ, ℤ, true, inl, inr, refl, sym, ap, subst, arith}
use Rattle.std.proofs.lemmas.Int.{ints}
use Rattle.std.proofs.lemmas.Bool.Decides.{nat_tests}
use Rattle.std.proofs.lemmas.Cmp.{ranked, int_ranked}
use Rattle.std.specs.declared.cmp.Ordering.{Ordering}
use Rattle.std.specs.declared.cmp.Ordering.TheVariants.{Less, Equal, Greater}
use Rattle.std.specs.Ordering.{MatchOrdering, ordering_then, nat_cmp, int_cmp, is_lt}
use Rattle.plan_scores.specs.declared.score.Score.{Score}
use Rattle.plan_scores.specs.declared.plan_score.PlanScore.{PlanScore}
use Rattle.plan_scores.specs.Order.{score_cmp, plan_score_cmp, is_worse, is_worse_plan, IsLessFirst, IsLessPlaced, TellsApart}

-- one comparison, and the next where that finds no difference
then_equal : (o p : Ordering) → ordering_then o p ≡ Equal → (o ≡ Equal) × (p ≡ Equal)
then_equal Less p e = cc
then_equal Equal p e = (refl, e)
then_equal Greater p e = cc

then_less : (o p : Ordering) → ordering_then o p ≡ Less → (o ≡ Less) ⊎ ((o ≡ Equal) × (p ≡ Less))
then_less Less p e = inl refl
then_less Equal p e = inr (refl, e)
then_less Greater p e = cc

less_first : (o p : Ordering) → o ≡ Less → ordering_then o p ≡ Less
less_first o p e = rw e refl

less_next : (o p : Ordering) → o ≡ Equal → p ≡ Less → ordering_then o p ≡ Less
less_next o p e f = rw (e, f) refl

-- two whole numbers
int_equal : (x y : ℤ) → int_cmp x y ≡ Equal → x ≡ y
int_equal x y e = let P : Ordering → Type 0 = λ o. MatchOrdering o (x <ℤ y) (x ≡ y) (y <ℤ x) in subst P e (int_ranked x y (int_cmp x y) refl)

int_less : (x y : ℤ) → int_cmp x y ≡ Less → x <ℤ y
int_less x y e = let P : Ordering → Type 0 = λ o. MatchOrdering o (x <ℤ y) (x ≡ y) (y <ℤ x) in subst P e (int_ranked x y (int_cmp x y) refl)

less_int : (x y : ℤ) → x <ℤ y → int_cmp x y ≡ Less
less_int x y h = grind (arith, ints)

equal_int : (x y : ℤ) → x ≡ y → int_cmp x y ≡ Equal
equal_int x y e = grind (arith, ints)

nat_equal : (x y : ℕ) → nat_cmp x y ≡ Equal → x ≡ y
nat_equal x y e = let P : Ordering → Type 0 = λ o. MatchOrdering o (x < y) (x ≡ y) (y < x) in subst P e (ranked x y (nat_cmp x y) refl)

nat_less : (x y : ℕ) → nat_cmp x y ≡ Less → x < y
nat_less x y e = let P : Ordering → Type 0 = λ o. MatchOrdering o (x < y) (x ≡ y) (y < x) in subst P e (ranked x y (nat_cmp x y) refl)

less_nat : (x y : ℕ) → x < y → nat_cmp x y ≡ Less
less_nat x y h = grind (arith, nat_tests)

equal_nat : (x y : ℕ) → x ≡ y → nat_cmp x y ≡ Equal
equal_nat x y e = grind (arith, nat_tests)

is_lt_less : (o : Ordering) → is_lt o ≡ true → o ≡ Less
is_lt_less Less e = refl
is_lt_less Equal e = cc
is_lt_less Greater e = cc

pub score_cmp-tells_apart : TellsApart score_cmp
unfolding score_cmp
score_cmp-tells_apart a b e =
    let hard = then_equal (int_cmp a.hard b.hard) (ordering_then (int_cmp a.medium b.medium) (int_cmp a.soft b.soft)) e in
    let rest = then_equal (int_cmp a.medium b.medium) (int_cmp a.soft b.soft) hard.1 in
    let hard_same = int_equal a.hard b.hard hard.0 in
    let medium_same = int_equal a.medium b.medium rest.0 in
    let soft_same = int_equal a.soft b.soft rest.1 in
    λ i. record { hard = hard_same i; medium = medium_same i; soft = soft_same i }

pub plan_score_cmp-tells_apart : TellsApart plan_score_cmp
unfolding plan_score_cmp
plan_score_cmp-tells_apart a b e =
    let both = then_equal (nat_cmp b.unplaced a.unplaced) (score_cmp a.score b.score) e in
    let unplaced_same = sym (nat_equal b.unplaced a.unplaced both.0) in
    let score_same = score_cmp-tells_apart a.score b.score both.1 in
    λ i. record { unplaced = unplaced_same i; score = score_same i }

soft_less : (a b : Score) → ordering_then (int_cmp a.medium b.medium) (int_cmp a.soft b.soft) ≡ Less → (a.medium <ℤ b.medium) ⊎ ((a.medium ≡ b.medium) × (a.soft <ℤ b.soft))
soft_less a b e =
    elim (then_less (int_cmp a.medium b.medium) (int_cmp a.soft b.soft) e) [
      | inl medium ↦ inl (int_less a.medium b.medium medium)
      | inr both ↦ inr (int_equal a.medium b.medium both.0, int_less a.soft b.soft both.1)
    ]

cmp_less : (a b : Score) → score_cmp a b ≡ Less → IsLessFirst a b
unfolding score_cmp
cmp_less a b e =
    elim (then_less (int_cmp a.hard b.hard) (ordering_then (int_cmp a.medium b.medium) (int_cmp a.soft b.soft)) e) [
      | inl hard ↦ inl (int_less a.hard b.hard hard)
      | inr both ↦ inr (int_equal a.hard b.hard both.0, soft_less a b both.1)
    ]

less_soft : (a b : Score) → (a.medium <ℤ b.medium) ⊎ ((a.medium ≡ b.medium) × (a.soft <ℤ b.soft)) → ordering_then (int_cmp a.medium b.medium) (int_cmp a.soft b.soft) ≡ Less
less_soft a b h =
    elim h [
      | inl medium ↦ less_first (int_cmp a.medium b.medium) (int_cmp a.soft b.soft) (less_int a.medium b.medium medium)
      | inr both ↦ less_next (int_cmp a.medium b.medium) (int_cmp a.soft b.soft) (equal_int a.medium b.medium both.0) (less_int a.soft b.soft both.1)
    ]

less_cmp : (a b : Score) → IsLessFirst a b → score_cmp a b ≡ Less
unfolding score_cmp
less_cmp a b h =
    let next = ordering_then (int_cmp a.medium b.medium) (int_cmp a.soft b.soft) in
    elim h [
      | inl hard ↦ less_first (int_cmp a.hard b.hard) next (less_int a.hard b.hard hard)
      | inr both ↦ less_next (int_cmp a.hard b.hard) next (equal_int a.hard b.hard both.0) (less_soft a b both.1)
    ]

-- a worse score is less at the first level that differs, and the other way round
pub is_worse-first : (a b : Score) → is_worse a b ≡ true → IsLessFirst a b
is_worse-first a b e = cmp_less a b (is_lt_less (score_cmp a b) e)

pub first-is_worse : (a b : Score) → IsLessFirst a b → is_worse a b ≡ true
first-is_worse a b h = ap is_lt (less_cmp a b h)

-- a plan's worse score has more null variables, or as many and a worse score, and the other way round
pub is_worse_plan-placed : (a b : PlanScore) → is_worse_plan a b ≡ true → IsLessPlaced a b
unfolding plan_score_cmp
is_worse_plan-placed a b e =
    elim (then_less (nat_cmp b.unplaced a.unplaced) (score_cmp a.score b.score) (is_lt_less (plan_score_cmp a b) e)) [
      | inl unplaced ↦ inl (nat_less b.unplaced a.unplaced unplaced)
      | inr both ↦ inr (nat_equal b.unplaced a.unplaced both.0, cmp_less a.score b.score both.1)
    ]

pub placed-is_worse_plan : (a b : PlanScore) → IsLessPlaced a b → is_worse_plan a b ≡ true
unfolding plan_score_cmp
placed-is_worse_plan a b h =
    let first = nat_cmp b.unplaced a.unplaced in
    let next = score_cmp a.score b.score in
    elim h [
      | inl unplaced ↦ ap is_lt (less_first first next (less_nat b.unplaced a.unplaced unplaced))
      | inr both ↦ ap is_lt (less_next first next (equal_nat b.unplaced a.unplaced both.0) (less_cmp a.score b.score both.1))
    ]
