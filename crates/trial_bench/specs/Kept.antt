-- What holds of a node that is measured: the closures that it asks were handed in.
use Rattle.plan_rules.specs.declared.places.Numbers.{Numbers}
use Rattle.join_keys.specs.Keys as keys
use Rattle.stream_group.specs.Grouped as grouped
use Rattle.trial_bench.specs.declared.kept.KeptNode.{KeptNode}
use Rattle.trial_bench.specs.declared.kept.KeptNode.TheVariants as kept

-- all closures that a node asks were handed in
abbrev pub AreHandedIn : Numbers → KeptNode → Type 0
AreHandedIn numbers (kept.Join node) = keys.AreHandedIn numbers node.joiners
AreHandedIn numbers (kept.Exists node) = keys.AreHandedIn numbers node.joiners
AreHandedIn numbers (kept.Group node) = grouped.AreHandedIn numbers node.by
