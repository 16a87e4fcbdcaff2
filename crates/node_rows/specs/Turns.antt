-- What holds of a node of the tests between its turns: its closures were handed in, a trial is open or not, and no
-- change was cut off.
use Rattle.std.specs.Prelude.{◌≡◌, Bool, false, All}
use Rattle.plan_rules.specs.declared.places.Numbers.{Numbers}
use Rattle.plan_rules.specs.Named.{test_named, weigh_closures}
use Rattle.plan_rules.specs.Sound.{IsHandedIn}
use Rattle.join_keys.specs.Keys as keys
use Rattle.stream_join.specs.Filter.{FilterView}
use Rattle.stream_join.specs.Join.{JoinView}
use Rattle.stream_exists.specs.Views.{ExistsView, is_open}
use Rattle.stream_group.specs.Group.{GroupView}
use Rattle.stream_group.specs.Grouped as grouped
use Rattle.stream_end.specs.Ends.{EndView}

-- a filter
abbrev pub FilterStands : Bool → Numbers → FilterView → Type 0
FilterStands opened numbers filter =
    IsHandedIn numbers (test_named filter.test) × (filter.is_open ≡ opened) × (filter.is_torn ≡ false)

-- a join
abbrev pub JoinStands : Bool → Numbers → JoinView → Type 0
JoinStands opened numbers join =
    keys.AreHandedIn numbers join.joiners × (join.is_open ≡ opened) × (join.is_torn ≡ false)

-- a node of left rows that are met, or that aren't
abbrev pub ExistsStands : Bool → Numbers → ExistsView → Type 0
ExistsStands opened numbers node =
    keys.AreHandedIn numbers node.joiners × (is_open node ≡ opened) × (node.is_torn ≡ false)

-- a node of groups
abbrev pub GroupStands : Bool → Numbers → GroupView → Type 0
GroupStands opened numbers node =
    grouped.AreHandedIn numbers node.by × (node.is_open ≡ opened) × (node.is_torn ≡ false)

-- the end of a rule
abbrev pub EndStands : Bool → Numbers → EndView → Type 0
EndStands opened numbers node =
    All (IsHandedIn numbers) (weigh_closures node.weigher) × (node.is_open ≡ opened) × (node.is_torn ≡ false)
