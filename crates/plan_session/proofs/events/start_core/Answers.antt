use Rattle.std.proofs.Common.{[], ◌∷◌}
use Rattle.search_core.specs.declared.event.Event.TheVariants.{Cut}
use Rattle.search_core.specs.Desk.{Terms}
use Rattle.plan_session.proofs.Begun.{start_is_due}
use Rattle.plan_session.proofs.events.start_core.Goals as goal

pub take-requires-clause-no_fault : goal.take-requires-clause-no_fault
take-requires-clause-no_fault c =
    let terms : Terms = record { settings = c.args.settings.now; buffer = c.args.asked } in
    start_is_due terms c.cut.new.core c.args.score (c.in_ok-cut.ensures terms [] c.in_ok-core.ensures)

pub returns : goal.returns
returns c =
    let terms : Terms = record { settings = c.args.settings.now; buffer = c.args.asked } in
    (c.in_ok-take.ensures terms (Cut 0 ∷ []) (c.in_ok-cut.ensures terms [] c.in_ok-core.ensures)).stands
