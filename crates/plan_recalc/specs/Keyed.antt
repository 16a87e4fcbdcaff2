-- Rows with the keys that they are grouped by.
use Rattle.std.specs.Prelude.{◌≡◌, ℕ, ℤ, List, map}
use Rattle.plan_rules.specs.declared.row.Part.{Part}
use Rattle.plan_rules.specs.Groups.{group_key, rows_with}
use Rattle.plan_rules.specs.Meaning.{Meaning}
use Rattle.plan_recalc.specs.declared.keyed.Keyed.{Keyed}

-- each row's key stands at its place
abbrev pub IsKeyed : Meaning → Keyed → Type 0
IsKeyed m keyed = keyed.row_keys.now ≡ map (group_key m keyed.keys.now) keyed.rows.now

-- the rows with a key, in their order
abbrev pub rows_keyed : Meaning → Keyed → List ℤ → List (List Part)
rows_keyed m keyed key = rows_with m keyed.keys.now keyed.rows.now key

-- the number that a key gives each of them
abbrev pub numbers_keyed : Meaning → Keyed → List ℤ → ℕ → List ℤ
numbers_keyed m keyed key number = map (m.key_of number) (rows_keyed m keyed key)
