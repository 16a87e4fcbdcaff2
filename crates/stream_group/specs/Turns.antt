-- What a change of rows makes of groups.
use Rattle.std.specs.Prelude.{◌≡◌, ◌≤◌, ◌+◌, ◌++◌, ℕ, ℤ, Bool, false, List, [], ◌∷◌, Option, Some, None, filter, map, length, take, if◌then◌else◌}
use Rattle.std.specs.List.{flat_map, list_any}
use Rattle.std.specs.Option.{option_eq}
use Rattle.std.specs.Ordering.{int_eq}
use Rattle.plan_rules.specs.declared.rule.Collect.TheVariants as collect
use Rattle.plan_rules.specs.Bags.{AreDifferent}
use Rattle.plan_rules.specs.Limits.{row_limit}
use Rattle.stream_index.specs.Key.{key_eq}
use Rattle.stream_heads.specs.declared.cells.Cell.{Cell}
use Rattle.stream_heads.specs.declared.cells.Cell.TheVariants as cell
use Rattle.stream_heads.specs.declared.delta.CellsDelta.{CellsDelta}
use Rattle.stream_heads.specs.declared.member.Member.{Member}
use Rattle.stream_heads.specs.Sides.{SideView, members_of}
use Rattle.stream_group.specs.declared.change.Change.{Change}
use Rattle.stream_group.specs.declared.grouping.Grouping.{Grouping}
use Rattle.stream_group.specs.Collected.{AreFewKeys, made_if_any}
use Rattle.stream_group.specs.Keyed.{AreThere, AreThereUnder, changed, come_in, gone_in, has_key, number_in, under}

-- the collected numbers of the rows under a key
abbrev pub numbers_under : ℕ → List Member → List ℤ → List ℤ
numbers_under width members key = map (number_in width) (under width key members)

-- what the collector makes of the rows under a key; nothing where there are none
abbrev pub made_under : Grouping → List Member → List ℤ → Option ℤ
made_under by members key = made_if_any by.collect (numbers_under (length by.keys) members key)

-- where the collected numbers of a key are few keys', this was made of them
abbrev pub MakesUnder : Grouping → List Member → List ℤ → Option ℤ → Type 0
MakesUnder by members key made =
    AreFewKeys (numbers_under (length by.keys) members key) → made ≡ made_under by members key

-- where the collected numbers of a key are few keys' once changes are done, whose rows that go are there, this was made
-- of them
abbrev pub MakesLater : Grouping → List Member → List Change → List ℤ → Option ℤ → Type 0
MakesLater by members changes key made =
    AreThereUnder (length by.keys) key changes members → MakesUnder by (changed changes members) key made

-- how many rows of a side are under the first numbers of these
abbrev pub rows_under : SideView → List ℤ → ℕ
rows_under side numbers = length (under side.width (take side.width numbers) (members_of side))

-- this was made of so many rows, where they are counted
abbrev pub MakesCount : ℕ → Option ℤ → Type 0
MakesCount rows made =
    (numbers : List ℤ) → length numbers ≡ rows → AreFewKeys numbers → made ≡ made_if_any collect.Count numbers

-- so many rows are left of some where each change takes one of them or puts one besides
abbrev pub CountsOn : ℕ → List Change → ℕ → Type 0
CountsOn rows changes left =
    (stay : ℕ) → rows ≡ stay + length (gone_in changes) → stay + length (come_in changes) ≤ row_limit
    → left ≡ stay + length (come_in changes)

-- this was made of as many rows as stay of some and come, where they are counted and each that goes is one of them
abbrev pub MakesCountAfter : ℕ → List Change → Option ℤ → Type 0
MakesCountAfter rows changes made =
    (stay : ℕ) → rows ≡ stay + length (gone_in changes) → MakesCount (stay + length (come_in changes)) made

-- the row of a group: its key's numbers, then the collected one
abbrev pub group_cells : List ℤ → ℤ → List Cell
group_cells key number = map (λ n. cell.Num n) key ++ cell.Num number ∷ []

-- the rows of a key: one where something was made
abbrev pub rows_of_key : List ℤ → Option ℤ → List (List Cell)
rows_of_key key None = []
rows_of_key key (Some number) = group_cells key number ∷ []

-- what goes or comes of these rows, where another number may be made of a key: nothing where it is the same
abbrev pub unless_same : Option ℤ → Option ℤ → List (List Cell) → List (List Cell)
unless_same before after rows = if option_eq int_eq before after then [] else rows

-- the rows of a key that go where rows are changed, and those that come
abbrev pub key_goes : Grouping → List Member → List Member → List ℤ → List (List Cell)
key_goes by members later key =
    unless_same (made_under by members key) (made_under by later key) (rows_of_key key (made_under by members key))

abbrev pub key_comes : Grouping → List Member → List Member → List ℤ → List (List Cell)
key_comes by members later key =
    unless_same (made_under by members key) (made_under by later key) (rows_of_key key (made_under by later key))

-- the key is one of these
abbrev pub is_one_key : List (List ℤ) → List ℤ → Bool
is_one_key keys key = list_any (key_eq key) keys

-- where the collected numbers of a key are few keys' and the rows that go are there, what its changes make of its group
-- was appended
abbrev pub TurnsKey : Grouping → List Member → List Change → List ℤ → CellsDelta → CellsDelta → Type 0
TurnsKey by members changes key before after =
    AreThereUnder (length by.keys) key changes members
    → AreFewKeys (numbers_under (length by.keys) members key)
    → AreFewKeys (numbers_under (length by.keys) (changed changes members) key)
    → (after.gone.items ≡ before.gone.items ++ key_goes by members (changed changes members) key)
    × (after.come.items ≡ before.come.items ++ key_comes by members (changed changes members) key)

-- the keys of changes, each once, and what these make of their groups was appended
pub record TurnsEach (by : Grouping) (members later : List Member)
    (changes : List Change) (before after : CellsDelta) : Type 0 where
  pub keys : List (List ℤ)
  pub different : AreDifferent keys
  pub all : (key : List ℤ) → is_one_key keys key ≡ false → filter (has_key (length by.keys) key) changes ≡ []
  pub gone : after.gone.items ≡ before.gone.items ++ flat_map (key_goes by members later) keys
  pub come : after.come.items ≡ before.come.items ++ flat_map (key_comes by members later) keys

-- where the collected numbers are few keys' and the rows that go are there, what changes make of groups was appended
abbrev pub TurnsAll : Grouping → List Member → List Change → CellsDelta → CellsDelta → Type 0
TurnsAll by members changes before after =
    AreThere changes members
    → AreFewKeys (map (number_in (length by.keys)) members)
    → AreFewKeys (map (number_in (length by.keys)) (changed changes members))
    → TurnsEach by members (changed changes members) changes before after
