-- What always holds of a group node.
use Rattle.std.specs.Prelude.{◌≡◌, ◌≤◌, Bool, false, length}
use Rattle.stream_heads.specs.Sides.{SideView}
use Rattle.stream_group.specs.declared.grouping.Grouping.{Grouping}

-- its rows are found by its keys, of which there are at most two, and it is torn in a trial alone
pub record IsWhole (by : Grouping) (side : SideView) (torn : Bool) : Type 0 where
  pub width : side.width ≡ length by.keys
  pub few : length by.keys ≤ 2
  pub whole : side.rows.is_open ≡ false → torn ≡ false
