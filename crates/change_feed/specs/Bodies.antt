-- What a line of a feed is read as.
use Rattle.std.specs.Prelude.{ℕ, List, Option, Some, None, if◌then◌else◌}
use Rattle.std.specs.Option.{option_map_or}
use Rattle.serde_json.specs.Data.{Data}
use Rattle.json_values.specs.Values.{is_object, value_of}
use Rattle.plan_changes.specs.declared.change.Deed.{Deed}
use Rattle.plan_changes.specs.declared.line.Spot.{Spot}
use Rattle.plan_changes.specs.declared.line.Spot.TheVariants.{Json, Object, Do}
use Rattle.plan_changes.specs.declared.line.LineFault.TheVariants.{Syntax, LongLine}
use Rattle.plan_changes.specs.declared.line.Body.{Body}
use Rattle.plan_changes.specs.declared.line.Body.TheVariants.{Do as DoIt, Bad}
use Rattle.change_feed.specs.Changes.{change_of}
use Rattle.change_feed.specs.Deeds.{deed_of}
use Rattle.change_feed.specs.Flaws.{deed_flaw}

-- the line is no change, for this
abbrev pub bad : Spot → Body
bad spot = Bad (Syntax spot)

-- a line of the deed: the first thing that is wrong, or else the change
abbrev pub deed_body : Deed → Data → Body
deed_body deed line = option_map_or bad (deed_flaw deed line) (DoIt (change_of deed line))

-- an object, by its deed
abbrev pub object_body : Option Deed → Data → Body
object_body None line = bad Do
object_body (Some deed) line = deed_body deed line

-- a line that is JSON
abbrev pub value_body : Data → Body
value_body line = if is_object line then object_body (deed_of line) line else bad Object

-- a line that isn't too long: what the value is that serde_json reads from it
abbrev pub body_of : List ℕ → Body
body_of line = option_map_or value_body (value_of line) (bad Json)

-- a line as it was given; none is one that is too long
abbrev pub line_body : Option (List ℕ) → Body
line_body given = option_map_or body_of given (Bad LongLine)
