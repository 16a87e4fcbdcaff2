-- What holds of a node that is filled: the closures that it asks were handed in, a trial is open or not, and nothing is
-- torn.
use Rattle.std.specs.Prelude.{◌≡◌, Bool, false}
use Rattle.plan_rules.specs.declared.places.Numbers.{Numbers}
use Rattle.join_keys.specs.Keys as keys
use Rattle.stream_join.specs.Join.{JoinView}
use Rattle.stream_exists.specs.Views.{ExistsView, is_open}
use Rattle.stream_group.specs.Group.{GroupView}
use Rattle.stream_group.specs.Grouped as grouped

-- a join without a trial
abbrev pub JoinStands : Numbers → JoinView → Type 0
JoinStands numbers join =
    keys.AreHandedIn numbers join.joiners × (join.is_open ≡ false) × (join.is_torn ≡ false)

-- a node of left rows that are met
abbrev pub ExistsStands : Bool → Numbers → ExistsView → Type 0
ExistsStands opened numbers node =
    keys.AreHandedIn numbers node.joiners × (is_open node ≡ opened) × (node.is_torn ≡ false)

-- a node of groups without a trial
abbrev pub GroupStands : Numbers → GroupView → Type 0
GroupStands numbers node =
    grouped.AreHandedIn numbers node.by × (node.is_open ≡ false) × (node.is_torn ≡ false)
