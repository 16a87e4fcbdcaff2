-- A choice depends on the verdicts alone, whatever their order.
use Rattle.std.proofs.Common.{ℕ, Option, ap}
use Rattle.std.proofs.Math.Path.{fun_ext}
use Rattle.plan_search.specs.declared.found.Found.{Found}
use Rattle.search_core.specs.declared.event.Event.TheVariants.{Choose}
use Rattle.search_core.specs.Desk.{answer}
use Rattle.search_core.specs.Laws.{OrderMakesNoDifference}

pub order-same : OrderMakesNoDifference
order-same t d claims verdicts step same =
    ap (λ (v : ℕ → Option (Option Found)). answer t (record d { claims = claims; verdicts = v }) (Choose step)) (fun_ext same)
