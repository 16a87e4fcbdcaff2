use Rattle.std.proofs.Common.{◌∙◌, refl, ap, arith, length, ◌∷◌, ◌++◌, []}
use Rattle.change_inbox.specs.Entries.{posts_in}
use Rattle.change_inbox.specs.Books.{shut}
use Rattle.change_inbox.specs.Law.{seen_of}
use Rattle.change_inbox.proofs.Calls.{came_back, seat_saw, seat_view, goes_on, may_shut, counts_after}
use Rattle.change_inbox.proofs.inbox.Inbox.shut.Goals as goal

pub add_shut-requires : goal.add_shut-requires
add_shut-requires g c = may_shut _ _ _ _ _ _ c.seat.view_is c.seat.invariant c.enter-ticket.ensures.found c.requires.once

pub invariant_of-seat : goal.invariant_of-seat
invariant_of-seat g c =
    let back = came_back _ _ _ _ _ _ _ _ c.seat.invariant c.enter-ticket.ensures.token.1 c.leave.ensures.rests in
    let found = c.enter-ticket.ensures.found in
    let counts = counts_after _ _ _ _ _ (shut c.seat.inside.number) c.seat.invariant found (ap (λ b. b.entries) c.add_shut.ensures.added) refl in
    let limits = ap (λ b. b.limits.posts) c.add_shut.ensures.added ∙ ap (λ l. l.posts) found.same_limits in
    let few = c.add_shut.ensures.few in
    seat_saw _ _ _ _ _ back (omega arith) (omega arith)

pub returns-clause-shut : goal.returns-clause-shut
returns-clause-shut g c =
    let back = came_back _ _ _ _ _ _ _ _ c.seat.invariant c.enter-ticket.ensures.token.1 c.leave.ensures.rests in
    let number = ap (λ s. s.number) c.seat.view_is in
    let new = ap (λ b. b.entries) c.add_shut.ensures.added ∙ ap (λ n. c.enter-ticket.result.1.entries ++ shut n ∷ []) number in (
      c.enter-ticket.result.1.entries,
      goes_on _ _ _ _ _ _ c.seat.view_is c.seat.invariant c.enter-ticket.ensures.found,
      seat_view _ _ c.seat.inside.token.me _ _ _ _ _ c.seat.view_is (c.leave.ensures.token ∙ c.enter-ticket.ensures.token.0) back new,
    )

pub returns-clause-few : goal.returns-clause-few
returns-clause-few g c =
    let back = came_back _ _ _ _ _ _ _ _ c.seat.invariant c.enter-ticket.ensures.token.1 c.leave.ensures.rests in
    let found = c.enter-ticket.ensures.found in
    let few = c.add_shut.ensures.few in
    let seen = ap (λ m. length (posts_in (seen_of m.0))) back in
    let limits = ap (λ b. b.limits.posts) c.add_shut.ensures.added ∙ (ap (λ l. l.posts) found.same_limits ∙ (ap (λ s. s.inbox.limits.posts) c.seat.view_is ∙ ap (λ i. i.limits.posts) c.requires.own)) in
    omega arith
