use Rattle.std.proofs.Common.{◌∙◌, length, ap, sym, List, ℕ}
use Rattle.plan_facts.proofs.Sound.{record_fits}
use Rattle.plan_facts.proofs.plan.Plan.resolve_into.Goals as goal

pub refill-requires-clause-values : goal.refill-requires-clause-values
refill-requires-clause-values c =
    record_fits c.args.self.now c.in-Some.table.now c.args.id c.in-Some-get.raw.now c.in-Some.ensures.table.1 (sym c.in-Some-get.ensures) ∙ ap (λ (ranges : List ℕ). length ranges) (sym c.ranges-2.ensures)
