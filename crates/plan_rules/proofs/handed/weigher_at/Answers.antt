use Rattle.std.proofs.Common.{refl}
use Rattle.plan_rules.proofs.PlacesLaws.{find_by_place}
use Rattle.plan_rules.proofs.handed.weigher_at.Goals as goal

pub returns-in-Some : goal.returns-in-Some
returns-in-Some g c =
    rw (find_by_place (λ weigher. weigher.number) c.args.number c.args.weighs.now _ c.requires, ← c.place.ensures, c.in-Some.is) c.get.ensures

pub returns-in-None : goal.returns-in-None
returns-in-None g c =
    rw (find_by_place (λ weigher. weigher.number) c.args.number c.args.weighs.now _ c.requires, ← c.place.ensures, c.in-None.is) refl
