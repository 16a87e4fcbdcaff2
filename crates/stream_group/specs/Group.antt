-- What a group node stands for.
use Rattle.std.specs.Prelude.{◌≡◌, ◌≤◌, ◌++◌, ℤ, All, Bool, List, length, map}
use Rattle.plan_rules.specs.Bags.{AreDifferent, AreSame, Leads}
use Rattle.plan_rules.specs.Groups.{collected, keys_among, rows_with}
use Rattle.plan_rules.specs.Limits.{row_limit}
use Rattle.plan_rules.specs.Meaning.{IsKeyNumber, Meaning}
use Rattle.stream_heads.specs.declared.cells.Cell.{Cell}
use Rattle.stream_heads.specs.declared.delta.CellsDelta.{CellsDelta}
use Rattle.stream_heads.specs.declared.member.Member.{Member}
use Rattle.stream_heads.specs.Bags.{IsPartOf}
use Rattle.stream_heads.specs.Change.{GainsExact}
use Rattle.stream_heads.specs.Exact.{IsExact}
use Rattle.stream_heads.specs.Meant.{Rows, meant, row_at}
use Rattle.stream_heads.specs.Sides.{IsNumbered, all_numbered}
use Rattle.stream_group.specs.declared.change.Change.{Change}
use Rattle.stream_group.specs.declared.grouping.Grouping.{Grouping}
use Rattle.stream_group.specs.Grouped.{numbers_of}
use Rattle.stream_group.specs.Keyed.{leaving, number_in}
use Rattle.stream_group.specs.Turns.{group_cells}

-- a group node: how it groups, its left rows with their numbers, those that a rollback brings back, whether a trial is
-- open, and whether a change was cut off
pub record GroupView : Type 0 where
  pub by : Grouping
  pub now : List Member
  pub base : List Member
  pub is_open : Bool
  pub is_torn : Bool

-- the numbers of what a row means
abbrev pub numbers_at : Meaning → Rows → Grouping → List Cell → List ℤ
numbers_at m heads by cells = numbers_of m by (row_at heads cells)

-- a row for each key that occurs among what left rows mean, the keys increasing
abbrev pub group_rows : Meaning → Rows → Grouping → List (List Cell) → List (List Cell)
group_rows m heads by lefts =
    map (λ key. group_cells key (collected m by.collect (rows_with m by.keys (meant heads lefts) key)))
    (keys_among m by.keys (meant heads lefts))

-- just the left rows are kept, of which there are no more than may be, with the numbers that closures answer
pub record IsGrouped (m : Meaning) (heads : Rows) (by : Grouping)
    (lefts : List (List Cell)) (kept : List Member) : Type 0 where
  pub members : AreSame kept (all_numbered (numbers_at m heads by) lefts)
  pub keys : All IsKeyNumber (map (number_in (length by.keys)) kept)
  pub few : length lefts ≤ row_limit

-- left rows lead on to others, of which there are no more than may be
pub record LeftsLead (lefts : List (List Cell)) (left : CellsDelta) (later : List (List Cell)) : Type 0 where
  pub different : AreDifferent lefts
  pub exact : IsExact lefts left.gone.items left.come.items later
  pub few : length later ≤ row_limit

-- where a group node stands for rows, its own change was appended
abbrev pub GainsGroups : Meaning → Rows → Grouping → CellsDelta → List Member → CellsDelta → CellsDelta → Type 0
GainsGroups m heads by left members before after =
    (lefts later : List (List Cell)) → IsGrouped m heads by lefts members → LeftsLead lefts left later
    → GainsExact before after (group_rows m heads by lefts) (group_rows m heads by later)

-- where a group node stood for rows, it stands for those that the change leads to, and its own change was appended
abbrev pub LeadsGroups : Meaning → Rows → Grouping → CellsDelta → List Member → List Member
    → CellsDelta → CellsDelta → Type 0
LeadsGroups m heads by left old new before after =
    (lefts later : List (List Cell)) → IsGrouped m heads by lefts old → LeftsLead lefts left later
    → IsGrouped m heads by later new
    × GainsExact before after (group_rows m heads by lefts) (group_rows m heads by later)

-- where each row stood with the numbers that it has, those that went and those that came lead from the old rows to the
-- new ones
abbrev pub LeadsNumbered : List Member → List (List Cell) → List Member → List Member → Type 0
LeadsNumbered old gone come new =
    (numbers : List Cell → List ℤ) → All (IsNumbered numbers) old → IsPartOf (all_numbered numbers gone) old
    → Leads old (all_numbered numbers gone) come new

-- where each row stood with the numbers that it has, rows that are there are found with their numbers
abbrev pub FindsGone : List Member → List (List Cell) → List Change → List Change → Type 0
FindsGone members gone before after =
    (numbers : List Cell → List ℤ) → All (IsNumbered numbers) members → IsPartOf (all_numbered numbers gone) members
    → after ≡ before ++ map leaving (all_numbered numbers gone)
