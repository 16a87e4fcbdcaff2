-- The numbers that a group node asks of its rows.
use Rattle.std.specs.Prelude.{◌++◌, ◌*◌, ℕ, ℤ, All, List, [], ◌∷◌, length, map}
use Rattle.plan_rules.specs.declared.places.Numbers.{Numbers}
use Rattle.plan_rules.specs.declared.row.Part.{Part}
use Rattle.plan_rules.specs.declared.rule.Named.{Named}
use Rattle.plan_rules.specs.Groups.{group_key}
use Rattle.plan_rules.specs.Meaning.{Meaning}
use Rattle.plan_rules.specs.Named.{collect_closures, key_named}
use Rattle.plan_rules.specs.Sound.{IsHandedIn}
use Rattle.stream_heads.specs.declared.cells.Cell.{Cell}
use Rattle.stream_group.specs.declared.grouping.Grouping.{Grouping}
use Rattle.stream_group.specs.Collected.{number_asked}

-- the closures that are asked: the keys, then that of the collector
abbrev pub closures_of : Grouping → List Named
closures_of by = map key_named by.keys ++ collect_closures by.collect

-- the numbers of a row: those of its keys, then the collected one
abbrev pub numbers_of : Meaning → Grouping → List Part → List ℤ
numbers_of m by row = group_key m by.keys row ++ number_asked m by.collect row ∷ []

-- the closures that are asked were handed in
abbrev pub AreHandedIn : Numbers → Grouping → Type 0
AreHandedIn numbers by = All (IsHandedIn numbers) (closures_of by)

-- as many calls as rows that come may cost: one of each closure for each row
abbrev pub calls_of : Grouping → List (List Cell) → ℕ
calls_of by come = length (closures_of by) * length come
