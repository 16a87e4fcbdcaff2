-- The closures that were handed in, by their numbers.
use Rattle.std.specs.Prelude.{◌==◌, ℕ, ℤ, Bool, List, map, find, Option}
use denote.Param.Members.{Mut}
use denote.Ref.{Bor}
use Rattle.plan_rules.specs.declared.row.Part.{Part}
use Rattle.plan_rules.specs.declared.closures.Test.{Test}
use Rattle.plan_rules.specs.declared.closures.Key.{Key}
use Rattle.plan_rules.specs.declared.closures.Weigh.{Weigh}
use Rattle.plan_rules.specs.declared.places.Numbers.{Numbers}
use Rattle.plan_rules.specs.Range.{Capped}

-- what is known of boxed closures that answer `A` at a row, by their own types
abbrev pub Boxed : (X : Type 0) → (X → Type 0) → Type 0 → Type 1
Boxed X F A = Mut ((x : X) × F x) (Bor (List Part) × Unit {0}) A

module _ {B X : Type 0} {F : X → Type 0} {of_tests : Boxed X F Bool} where
  -- the numbers of some tests
  abbrev pub test_numbers : List (Test B X F of_tests) → List ℕ
  test_numbers tests = map (λ test. test.number) tests

  -- the test with a number
  abbrev pub test_with : List (Test B X F of_tests) → ℕ → Option (Test B X F of_tests)
  test_with tests number = find (λ test. test.number == number) tests

module _ {B X : Type 0} {F : X → Type 0} {of_keys : Boxed X F ℤ} where
  -- the numbers of some keys
  abbrev pub key_numbers : List (Key B X F of_keys) → List ℕ
  key_numbers keys = map (λ key. key.number) keys

  -- the key with a number
  abbrev pub key_with : List (Key B X F of_keys) → ℕ → Option (Key B X F of_keys)
  key_with keys number = find (λ key. key.number == number) keys

module _ {B X : Type 0} {F : X → Type 0} {of_weighs : Boxed X F ℕ} where
  -- the numbers of some weighers
  abbrev pub weigher_numbers : List (Weigh B X F of_weighs) → List ℕ
  weigher_numbers weighs = map (λ weigher. weigher.number) weighs

  -- the weigher with a number
  abbrev pub weigher_with : List (Weigh B X F of_weighs) → ℕ → Option (Weigh B X F of_weighs)
  weigher_with weighs number = find (λ weigher. weigher.number == number) weighs

  -- each weigher's number and cap
  abbrev pub capped : List (Weigh B X F of_weighs) → List Capped
  capped weighs = map (λ weigher. record { number = weigher.number; cap = weigher.cap }) weighs

module _ {B X Y Z : Type 0} {F : X → Type 0} {G : Y → Type 0} {H : Z → Type 0}
    {of_tests : Boxed X F Bool} {of_keys : Boxed Y G ℤ} {of_weighs : Boxed Z H ℕ} where
  -- the numbers of some closures, kind by kind
  abbrev pub numbers_of : List (Test B X F of_tests) → List (Key B Y G of_keys) → List (Weigh B Z H of_weighs) → Numbers
  numbers_of tests keys weighs =
      record { tests = test_numbers tests; keys = key_numbers keys; weighs = weigher_numbers weighs }
