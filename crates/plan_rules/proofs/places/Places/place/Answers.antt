use Rattle.std.proofs.Common.{◌∙◌}
use Rattle.plan_rules.proofs.PlacesLaws.{place_past}
use Rattle.plan_rules.proofs.places.Places.place.Goals as goal

pub returns-in-None : goal.returns-in-None
returns-in-None c = rw (← c.self.view_is) (place_past c.self.inside.table c.args.number c.in-None.ensures ∙ c.self.invariant c.args.number)
