-- What passes know of a board, the rule over what all of them know, and what a step tells.
use Rattle.std.specs.Prelude.{◌≡◌, ℕ, ◌+◌, ◌-◌, ◌<◌, ◌≤◌, min, List, [], ◌∷◌, ◌++◌, length, slice_index, cond, Bool, All}
use Rattle.std.specs.List.Sorted.{IsStrictlyIncreasing}
use mathlib.Core.Option.{some}
use lib.ListN.{get_elem?}
use Rattle.atomic_table.specs.Table.{State, Me}
use Rattle.claim_board.specs.declared.claims.Claims.{Claims}
use Rattle.claim_board.specs.declared.claims.Size.{Size}
use Rattle.atomic_table.specs.Seated.{TableId}
use Rattle.claim_board.specs.Boards.{BoardView, times, once_below}

-- these parts of a board, with what they drew, and how many of them found none left
abbrev pub claims : Size → ℕ → List ℕ → ℕ → Claims
claims size parts draws ends = record { size = size; parts = parts; draws = draws; ends = ends }

-- before any pass is dealt
abbrev pub all_parts : Size → Claims
all_parts size = claims size size.seats [] 0

-- a part fewer
abbrev pub less : Claims → Claims
less v = record v { parts = v.parts - 1 }

-- a new pass
abbrev pub one_part : Claims → Claims
one_part v = claims v.size 1 [] 0

-- nothing
abbrev pub no_part : Claims
no_part = claims (record { limit = 0; seats = 0 }) 0 [] 0

-- both together
abbrev pub gathered : Claims → Claims → Claims
gathered v w = claims v.size (v.parts + w.parts) (v.draws ++ w.draws) (v.ends + w.ends)

-- f of each, added up
abbrev pub total : (Claims → ℕ) → List Claims → ℕ
total f [] = 0
total f (v ∷ vs) = f v + total f vs

-- what the rule says of one pass: it knows its board, found no more ends than it has parts, and where it found one all numbers are drawn
pub record Fits (size : Size) (count : ℕ) (v : Claims) : Type 0 where
  pub known : 0 < v.parts → v.size ≡ size
  pub ends : v.ends ≤ v.parts
  pub full : 0 < v.ends → size.limit ≤ count
  pub idle : v.parts ≡ 0 → v.draws ≡ []

-- the rule: the draws of all passes are the numbers below the count and the limit, each once, and the count passes the limit by the ends alone
pub record Given (size : Size) (s : State (Unit {0}) Claims) : Type 0 where
  pub one : length s.words ≡ 1
  pub parts : total (λ v. v.parts) s.views ≡ size.seats
  pub few : size.seats ≤ 16
  pub small : size.limit < 4294967296
  pub once : (x : ℕ) → total (λ v. times x v.draws) s.views ≡ once_below x (min (slice_index s.words 0) size.limit)
  pub most : slice_index s.words 0 ≤ size.limit + total (λ v. v.ends) s.views
  pub each : (j : ℕ) (v : Claims) → get_elem? s.views j ≡ some v → Fits size (slice_index s.words 0) v

-- which board passes of this table and size draw from
abbrev pub board_of : TableId → Size → BoardView
board_of table size = record { table = table; limit = size.limit; seats = size.seats }

-- a board has one word and no slot, its size says its limit, and it has passes
abbrev pub IsBoard : TableId → Size → ℕ → Type 0
IsBoard table size limit = (table.words ≡ 1) × (table.slots ≡ 0) × (size.limit ≡ limit) × (1 ≤ size.seats)

-- the pass that drew a number more
abbrev pub drew_more : Claims → ℕ → Claims
drew_more v x = record v { draws = v.draws ++ x ∷ [] }

-- a draw took the number found, which is above its draws before, or it found none left
abbrev pub Drew : Me (Unit {0}) Claims → ℕ → Me (Unit {0}) Claims → Type 0
Drew before found after =
    (found < before.0.size.limit → (after ≡ (drew_more before.0 found, before.1)) × All (λ x. x < found) before.0.draws)
    × (before.0.size.limit ≤ found → after ≡ (record before.0 { ends = before.0.ends + 1 }, before.1))

-- a pass has one part and no slot, its draws increase, and it has an end where it is done
pub record IsPass (me : Me (Unit {0}) Claims) (is_done : Bool) : Type 0 where
  pub slots : me.1 ≡ []
  pub parts : me.0.parts ≡ 1
  pub ends : me.0.ends ≡ cond is_done 1 0
  pub increasing : IsStrictlyIncreasing me.0.draws
