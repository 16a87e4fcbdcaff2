-- The match weights of rows of cells, and what they add up to.
use Rattle.std.specs.Prelude.{◌<◌, ◌^◌, ◌*◌, ◌-◌, ℕ, ℤ, pos, min, List, [], ◌∷◌, None, Option, Some, length, map, slice_get, slice_index_or, sum_by, unsigned_abs}
use Rattle.std.specs.Option.{option_and_then, option_map_or}
use Rattle.plan_rules.specs.declared.rule.RuleDef.{RuleDef}
use Rattle.plan_rules.specs.Meaning.{Meaning}
use Rattle.plan_rules.specs.Named.{weigh_closures}
use Rattle.stream_heads.specs.declared.cells.Cell.{Cell}
use Rattle.stream_heads.specs.declared.member.Member.{Member}
use Rattle.stream_heads.specs.Meant.{Rows, row_at}
use Rattle.stream_heads.specs.Sides.{all_numbered}

-- the weigher that a rule names; none where there is no such rule
abbrev pub weigher_in : List RuleDef → ℕ → Option ℕ
weigher_in defs rule = option_and_then (λ def. def.weigh) (slice_get defs rule)

-- the match weight of what a row means: its weigher's, or 1 where the rule has none
abbrev pub weight_at : Meaning → Rows → Option ℕ → List Cell → ℕ
weight_at m heads weigher row = option_map_or (λ number. m.weight_of number (row_at heads row)) weigher 1

-- the number that is kept with a row: its match weight
abbrev pub weights_at : Meaning → Rows → Option ℕ → List Cell → List ℤ
weights_at m heads weigher row = pos (weight_at m heads weigher row) ∷ []

-- rows that come with their weights, as a weigher gives them; no rows where there is none, and each weighs 1
abbrev pub come_weighed : Meaning → Rows → Option ℕ → List (List Cell) → List Member
come_weighed m heads None come = []
come_weighed m heads (Some number) come = all_numbered (weights_at m heads (Some number)) come

-- what rows add up to
abbrev pub weight_sum : Meaning → Rows → Option ℕ → List (List Cell) → ℕ
weight_sum m heads weigher rows = sum_by (weight_at m heads weigher) rows

-- the weight that is kept with a row
abbrev pub weight_in : Member → ℕ
weight_in member = unsigned_abs (slice_index_or member.numbers 0 (pos 0))

-- a row with its weight
abbrev pub weighed : List Cell → ℕ → Member
weighed row weight = record { cells = row; numbers = pos weight ∷ [] }

-- rows with the weight 1 each
abbrev pub all_ones : List (List Cell) → List Member
all_ones rows = map (λ row. weighed row 1) rows

-- the rows that come as they are kept: those that were weighed, or all with the weight 1 where there is no weigher
abbrev pub come_kept : Option ℕ → List (List Cell) → List Member → List Member
come_kept None come found = all_ones come
come_kept (Some number) come found = found

-- what the weights add up to that are kept with rows
abbrev pub kept_sum : List Member → ℕ
kept_sum members = sum_by weight_in members

-- a weight fits into 32 bits
abbrev pub IsWeight : Member → Type 0
IsWeight member = weight_in member < 2 ^ 32

-- a sum, or the greatest total where it is greater
abbrev pub clipped : ℕ → ℕ
clipped n = min n (2 ^ 64 - 1)

-- the cells of rows that are kept
abbrev pub cells_of : List Member → List (List Cell)
cells_of members = map (λ (member : Member). member.cells) members

-- as many calls as rows that come may cost: one for each where the rule names a weigher, else none
abbrev pub calls_of : Option ℕ → List (List Cell) → ℕ
calls_of weigher come = length (weigh_closures weigher) * length come
