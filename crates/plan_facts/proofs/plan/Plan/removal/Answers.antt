use Rattle.std.proofs.Common.{◌≡◌, All, List, length, subst, sym}
use Rattle.plan_facts.specs.Plan.{ClassView, plan_with}
use Rattle.plan_facts.proofs.PutBack.{values_long}
use Rattle.plan_facts.proofs.plan.Plan.removal.Goals as goal

pub all_holders-requires : goal.all_holders-requires
all_holders-requires c =
    subst (λ (tables : List ClassView). All (λ view. All (λ raw. length raw.values ≡ length view.ranges) view.facts) tables) (sym c.deref.ensures.value)
    (values_long (plan_with c.self.inside.tables.items c.self.inside.made) c.self.invariant.0)
