use Rattle.std.proofs.Common.{◌+◌, ◌<◌, ◌^◌, ℕ, sym, subst}
use Rattle.plan_session.proofs.Opened.{post_is_due, posted_one, posts_are, same_after}
use Rattle.plan_session.proofs.events.post_one.Goals as goal

pub take-requires-clause-room : goal.take-requires-clause-room
take-requires-clause-room c =
    subst (λ (n : ℕ). n + 1 < 2 ^ 32) (sym (posts_are c.args.core.now c.args.boundary c.args.number c.requires.ended)) c.requires.few

pub take-requires-clause-no_fault : goal.take-requires-clause-no_fault
take-requires-clause-no_fault c = post_is_due c.args.core.now c.args.boundary c.args.number c.requires.ended c.args.number

pub returns-clause-ended : goal.returns-clause-ended
returns-clause-ended c =
    posted_one c.args.core.now c.args.boundary c.args.number c.requires.ended c.take.new.core c.args.number c.in_ok-take.field-0 c.in_ok-take.ensures

pub returns-clause-terms : goal.returns-clause-terms
returns-clause-terms c =
    same_after c.args.core.now c.args.boundary c.args.number c.requires.ended c.take.new.core c.args.number c.in_ok-take.field-0 c.in_ok-take.ensures
