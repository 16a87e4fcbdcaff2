-- The groups of a list of rows, by their keys.
use Rattle.std.specs.Prelude.{ℕ, ℤ, pos, ◌+ℤ◌, List, [], ◌∷◌, ◌++◌, map, filter, fold, length, if◌then◌else◌}
use Rattle.std.specs.Ordering.{int_eq, int_cmp, is_lt, is_eq}
use Rattle.std.specs.Cmp.Lexicographic.{slice_cmp}
use Rattle.std.specs.Int.{int_min, int_max}
use Rattle.std.specs.Set.{distinct_count}
use Rattle.plan_rules.specs.declared.row.Part.{Part}
use Rattle.plan_rules.specs.declared.row.Part.TheVariants.{Num}
use Rattle.plan_rules.specs.declared.rule.Collect.{Collect}
use Rattle.plan_rules.specs.declared.rule.Collect.TheVariants as collect
use Rattle.plan_rules.specs.Meaning.{Meaning}

-- the key of a row: the number of each of the group's keys
abbrev pub group_key : Meaning → List ℕ → List Part → List ℤ
group_key m keys row = map (λ key. m.key_of key row) keys

-- a key among increasing ones, in its order, where it isn't one of them
abbrev pub key_entered : List ℤ → List (List ℤ) → List (List ℤ)
key_entered key [] = key ∷ []
key_entered key (first ∷ rest) =
    if is_lt (slice_cmp int_cmp key first) then key ∷ first ∷ rest
    else if is_eq (slice_cmp int_cmp key first) then first ∷ rest
    else first ∷ key_entered key rest

-- the keys that occur among rows, each once, increasing
abbrev pub keys_among : Meaning → List ℕ → List (List Part) → List (List ℤ)
keys_among m keys [] = []
keys_among m keys (row ∷ rest) = key_entered (group_key m keys row) (keys_among m keys rest)

-- the rows with a key, in their order
abbrev pub rows_with : Meaning → List ℕ → List (List Part) → List ℤ → List (List Part)
rows_with m keys rows key = filter (λ row. is_eq (slice_cmp int_cmp (group_key m keys row) key)) rows

-- the least and the greatest of some numbers, of which there is one
abbrev pub least_of : List ℤ → ℤ
least_of [] = pos 0
least_of (first ∷ rest) = fold int_min first rest

abbrev pub greatest_of : List ℤ → ℤ
greatest_of [] = pos 0
greatest_of (first ∷ rest) = fold int_max first rest

-- what a collector makes of the rows of one key
abbrev pub collected : Meaning → Collect → List (List Part) → ℤ
collected m collect.Count rows = pos (length rows)
collected m (collect.CountDistinct key) rows = pos (distinct_count int_eq (map (m.key_of key) rows))
collected m (collect.Sum key) rows = fold (λ a b. a +ℤ b) (pos 0) (map (m.key_of key) rows)
collected m (collect.Min key) rows = least_of (map (m.key_of key) rows)
collected m (collect.Max key) rows = greatest_of (map (m.key_of key) rows)

-- the row of a group: its key's numbers, then the collected one
abbrev pub group_row : Meaning → List ℕ → Collect → List (List Part) → List ℤ → List Part
group_row m keys collect rows key =
    map (λ n. Num n) key ++ Num (collected m collect (rows_with m keys rows key)) ∷ []

-- a row for each key that occurs, the keys increasing
abbrev pub groups_of : Meaning → List ℕ → Collect → List (List Part) → List (List Part)
groups_of m keys collect rows = map (group_row m keys collect rows) (keys_among m keys rows)
