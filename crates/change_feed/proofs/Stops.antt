-- What a line is read as is no stop.
use Rattle.std.proofs.Common.{◌≡◌, ℕ, Bool, true, false, cond, List, Option, Some, None, refl}
use Rattle.std.specs.Option.{option_map_or}
use Rattle.serde_json.specs.Data.{Data}
use Rattle.json_values.specs.Values.{is_object, value_of}
use Rattle.plan_changes.specs.Change.{ChangeView}
use Rattle.plan_changes.specs.declared.change.Deed.{Deed}
use Rattle.plan_changes.specs.declared.line.Spot.{Spot}
use Rattle.plan_changes.specs.declared.line.Spot.TheVariants.{Json, Object}
use Rattle.plan_changes.specs.declared.line.Body.TheVariants.{Do as DoIt}
use Rattle.change_feed.specs.Bodies.{bad, object_body, value_body, line_body}
use Rattle.change_feed.specs.Changes.{change_of}
use Rattle.change_feed.specs.Deeds.{deed_of}
use Rattle.change_feed.specs.Feeds.{is_stop}
use Rattle.change_feed.specs.Flaws.{deed_flaw}

of_flaw : (flaw : Option Spot) (change : ChangeView) → is_stop (option_map_or bad flaw (DoIt change)) ≡ false
of_flaw None change = refl
of_flaw (Some spot) change = refl

of_deed : (deed : Option Deed) (line : Data) → is_stop (object_body deed line) ≡ false
of_deed None line = refl
of_deed (Some deed) line = of_flaw (deed_flaw deed line) (change_of deed line)

of_object : (b : Bool) (line : Data) → is_stop (cond b (object_body (deed_of line) line) (bad Object)) ≡ false
of_object true line = of_deed (deed_of line) line
of_object false line = refl

of_value : (value : Option Data) → is_stop (option_map_or value_body value (bad Json)) ≡ false
of_value None = refl
of_value (Some line) = of_object (is_object line) line

-- a line is never a stop
pub no_stop : (line : Option (List ℕ)) → is_stop (line_body line) ≡ false
no_stop None = refl
no_stop (Some line) = of_value (value_of line)
