use Rattle.std.proofs.Common.{refl}
use Rattle.plan_rules.proofs.PlacesLaws.{cap_of-found}
use Rattle.plan_rules.proofs.handed.cap_of.Goals as goal

pub returns-in-Some-weigher_at : goal.returns-in-Some-weigher_at
returns-in-Some-weigher_at g c =
    rw (cap_of-found (λ weigher. weigher.number) (λ weigher. weigher.cap) c.args.rule.now c.in-Some.number c.args.weighs.now c.in-Some.is, ← c.weigher_at.ensures, c.in-Some-weigher_at.is) refl

pub returns-in-None : goal.returns-in-None
returns-in-None g c =
    rw (cap_of-found (λ weigher. weigher.number) (λ weigher. weigher.cap) c.args.rule.now c.in-Some.number c.args.weighs.now c.in-Some.is, ← c.weigher_at.ensures, c.in-None.is) refl
