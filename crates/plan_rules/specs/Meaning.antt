-- What the closures of a domain mean, by their numbers, at a row, and that a closure answers what it means.
use Rattle.std.specs.Prelude.{◌≡◌, ◌≤◌, ℕ, ℤ, pos, neg_ℤ, ◌≤ℤ◌, Bool, List}
use Rattle.plan_rules.specs.declared.row.Part.{Part}
use Rattle.plan_rules.specs.Limits.{key_limit}
use denote.Ref.{Bor}

-- the answer of each test, key and weigher, whether or not a closure with that number was handed in
pub record Meaning : Type 0 where
  pub test_of : ℕ → List Part → Bool
  pub key_of : ℕ → List Part → ℤ
  pub weight_of : ℕ → List Part → ℕ

-- a key is from -10^9 to 10^9
abbrev pub IsKeyNumber : ℤ → Type 0
IsKeyNumber key = (neg_ℤ (pos key_limit) ≤ℤ key) × (key ≤ℤ pos key_limit)

-- each answer that a test may give at a row is its value there
abbrev pub TestAnswers : (Bor (List Part) → Bool → Type 0) → (List Part → Bool) → Type 0
TestAnswers may_give value = (r : Bor (List Part)) (answer : Bool) → may_give r answer → answer ≡ value r.now

-- each answer that a key may give at a row is its value there, and a number that a key may have
abbrev pub KeyAnswers : (Bor (List Part) → ℤ → Type 0) → (List Part → ℤ) → Type 0
KeyAnswers may_give value =
    (r : Bor (List Part)) (answer : ℤ) → may_give r answer → (answer ≡ value r.now) × IsKeyNumber answer

-- each answer that a weigher may give at a row is its value there, and at most its cap
abbrev pub WeighAnswers : (Bor (List Part) → ℕ → Type 0) → ℕ → (List Part → ℕ) → Type 0
WeighAnswers may_give cap value =
    (r : Bor (List Part)) (answer : ℕ) → may_give r answer → (answer ≡ value r.now) × (answer ≤ cap)
