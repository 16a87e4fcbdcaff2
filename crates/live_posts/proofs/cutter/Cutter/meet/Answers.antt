use Rattle.std.proofs.Common.{◌∙◌, ap, subst}
use mathlib.Core.List.{IsPrefix}
use Rattle.change_inbox.specs.Seats.{own_of}
use Rattle.live_posts.specs.Cuts.{taken_by}
use Rattle.live_posts.proofs.Cutting.{cutter_on, own_on, taken_on}
use Rattle.live_posts.proofs.cutter.Cutter.meet.Goals as goal

pub invariant_of-self : goal.invariant_of-self
invariant_of-self g c = cutter_on c.self.inside.seat c.meet.new.seat c.self.inside.taken c.meet.ensures.later c.meet.ensures.seat.1 c.self.invariant

pub returns-clause-took : goal.returns-clause-took
returns-clause-took g c = taken_on c.self.inside.seat c.meet.new.seat c.meet.ensures.later c.meet.ensures.seat.1 ∙ ap (λ s. taken_by s) c.self.view_is

pub returns-clause-own : goal.returns-clause-own
returns-clause-own g c = own_on c.self.inside.seat c.meet.new.seat c.meet.ensures.later c.meet.ensures.seat.1 ∙ ap (λ s. own_of s) c.self.view_is

pub returns-clause-later : goal.returns-clause-later
returns-clause-later g c = subst (λ s. IsPrefix s.seen c.meet.new.seat.seen) c.self.view_is c.meet.ensures.later.later
