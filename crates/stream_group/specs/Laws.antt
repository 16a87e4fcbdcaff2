-- What the rows of group nodes mean.
use Rattle.std.specs.Prelude.{◌≡◌, List}
use Rattle.plan_rules.specs.Groups.{groups_of}
use Rattle.plan_rules.specs.Meaning.{Meaning}
use Rattle.stream_heads.specs.declared.cells.Cell.{Cell}
use Rattle.stream_heads.specs.Meant.{Rows, meant}
use Rattle.stream_group.specs.declared.grouping.Grouping.{Grouping}
use Rattle.stream_group.specs.Group.{group_rows}

-- the rows of a group node mean the groups of what its left rows mean
abbrev pub GroupRowsMeanGroups : Type 0
GroupRowsMeanGroups = (m : Meaning) (heads : Rows) (by : Grouping) (lefts : List (List Cell))
    → meant heads (group_rows m heads by lefts) ≡ groups_of m by.keys by.collect (meant heads lefts)
