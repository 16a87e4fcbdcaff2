use Rattle.std.proofs.Common.{rules, ◌≡◌, ◌∙◌, [], ap}
use Rattle.change_inbox.specs.Seats.{own_of}
use Rattle.live_posts.proofs.Opening.{one_left, some_seats, two_fresh}
use Rattle.live_posts.proofs.run.open_run.Goals as goal

pub unreachable-requires : goal.unreachable-requires
unreachable-requires g c = some_seats _ _ c.in_ok-inbox.ensures.seats c.in_default.ensures.none

pub unreachable-requires-in_default-pop : goal.unreachable-requires-in_default-pop
unreachable-requires-in_default-pop g c = one_left _ _ _ _ c.in_ok-inbox.ensures.seats c.in-Some.ensures.last c.in_default-pop.ensures.none

pub new-requires : goal.new-requires
new-requires g c =
    let none : own_of c.in-Some.last ≡ [] = ap (λ s. own_of s) (two_fresh _ _ _ _ _ _ c.in_ok-inbox.ensures.seats c.in-Some.ensures.last c.in-Some-pop.ensures.last).1 in
    search rules

pub returns-clause-feeder : goal.returns-clause-feeder
returns-clause-feeder g c = (two_fresh _ _ _ _ _ _ c.in_ok-inbox.ensures.seats c.in-Some.ensures.last c.in-Some-pop.ensures.last).0

pub returns-clause-cutter : goal.returns-clause-cutter
returns-clause-cutter g c = c.new.ensures ∙ (two_fresh _ _ _ _ _ _ c.in_ok-inbox.ensures.seats c.in-Some.ensures.last c.in-Some-pop.ensures.last).1
