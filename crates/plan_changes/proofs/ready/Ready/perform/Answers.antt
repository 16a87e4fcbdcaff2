use Rattle.std.proofs.Common.{length, sym, subst}
use Rattle.plan_changes.specs.Fits.{IsOfSchema}
use Rattle.plan_changes.proofs.Prepared.{room_left}
use Rattle.plan_changes.proofs.Schemas.{performed_schema}
use Rattle.plan_changes.proofs.ready.Ready.perform.Goals as goal

pub perform_numbering-requires-clause-room : goal.perform_numbering-requires-clause-room
perform_numbering-requires-clause-room c =
    room_left c.args.self.now c.args.plan.now (length c.args.weights.now) c.args.names.now c.requires.may c.requires.room c.count-count.ensures.numbered.few

pub returns-in-Ok-clause-schema : goal.returns-in-Ok-clause-schema
returns-in-Ok-clause-schema c =
    λ classes is. subst (IsOfSchema classes) (sym c.in-Ok.ensures.plan) (performed_schema c.args.self.now c.args.plan.now (length c.args.weights.now) c.args.names.now classes c.requires.may is)
