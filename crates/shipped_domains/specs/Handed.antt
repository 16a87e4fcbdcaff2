-- The closures that are handed in with the rules of a shipped domain.
use Rattle.std.specs.Prelude.{ℕ, ℤ, Bool, map}
use Rattle.plan_rules.specs.Closures.{Boxed}
use Rattle.plan_rules.specs.declared.places.Numbers.{Numbers}
use Rattle.shipped_domains.specs.declared.closures.Closures.{Closures}

module _ {X Y Z : Type 0} {F : X → Type 0} {G : Y → Type 0} {H : Z → Type 0}
    {of_tests : Boxed X F Bool} {of_keys : Boxed Y G ℤ} {of_weighs : Boxed Z H ℕ} where
  -- the numbers of some closures
  abbrev pub numbers_handed : Closures X Y Z F G H of_tests of_keys of_weighs → Numbers
  numbers_handed closures = record {
    tests = map (λ test. test.number) closures.tests.items;
    keys = map (λ key. key.number) closures.keys.items;
    weighs = map (λ weigher. weigher.number) closures.weighers.items;
  }
