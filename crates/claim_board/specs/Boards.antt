-- Boards and passes as callers see them.
use Rattle.std.specs.Prelude.{ℕ, ◌+◌, List, [], ◌∷◌, ◌++◌, Bool, true, false, cond, ◌==◌, nat_lt}
use Rattle.std.specs.List.{flat_map}
use Rattle.atomic_table.specs.Seated.{TableId}

-- which board it is, how many numbers it gives, and to how many passes
pub record BoardView : Type 0 where
  pub table : TableId
  pub limit : ℕ
  pub seats : ℕ

-- the board that a pass draws from, what it drew, and whether it found none left
pub record PassView : Type 0 where
  pub board : BoardView
  pub draws : List ℕ
  pub is_done : Bool

-- a pass that has drawn nothing
abbrev pub fresh_pass : BoardView → PassView
fresh_pass b = record { board = b; draws = []; is_done = false }

-- the pass after one more draw
abbrev pub with_draw : PassView → ℕ → PassView
with_draw p x = record p { draws = p.draws ++ x ∷ [] }

-- the pass that found none left
abbrev pub done : PassView → PassView
done p = record p { is_done = true }

-- all that the passes drew
abbrev pub all_draws : List PassView → List ℕ
all_draws passes = flat_map (λ p. p.draws) passes

-- how often x stands in the list
abbrev pub times : ℕ → List ℕ → ℕ
times x [] = 0
times x (y ∷ ys) = cond (x == y) 1 0 + times x ys

-- 1 for a number below n, and 0 for others
abbrev pub once_below : ℕ → ℕ → ℕ
once_below x n = cond (nat_lt x n) 1 0

-- one more than the last draw, and 0 before the first
abbrev pub next_after : List ℕ → ℕ
next_after [] = 0
next_after (x ∷ []) = x + 1
next_after (x ∷ y ∷ ys) = next_after (y ∷ ys)
