use Rattle.std.proofs.Common.{◌∙◌, refl, ap, arith, length, ◌∷◌, ◌++◌, []}
use Rattle.change_inbox.specs.Entries.{posts_in}
use Rattle.change_inbox.specs.Books.{post}
use Rattle.change_inbox.specs.Seats.{own_of}
use Rattle.change_inbox.specs.Law.{seen_of}
use Rattle.change_inbox.proofs.BySeat.{posts-by_seat-le}
use Rattle.change_inbox.proofs.Calls.{came_back, seat_saw, seat_view, goes_on, counts_after, own_after, later_after, no_shut, not_full}
use Rattle.change_inbox.proofs.inbox.Inbox.post.Goals as goal

pub overflow_add-seat : goal.overflow_add-seat
overflow_add-seat g c =
    let on = goes_on _ _ _ _ _ _ c.seat.view_is c.seat.invariant c.enter-ticket.ensures.found in
    let own = ap (λ l. length (posts_in l)) on.same_own in
    let counts = c.seat.invariant.counts ∙ ap (λ s. length (posts_in (own_of s))) c.seat.view_is in
    let le = posts-by_seat-le c.args.seat.now.number c.enter-ticket.result.1.entries in
    omega (arith, c.if-is_full.ensures.room)

pub invariant_of-seat-2 : goal.invariant_of-seat-2
invariant_of-seat-2 g c =
    let back = came_back _ _ _ _ _ _ _ _ c.seat.invariant c.enter-ticket.ensures.token.1 c.leave-2.ensures.rests in
    let found = c.enter-ticket.ensures.found in
    let counts = counts_after _ _ _ _ _ (post c.seat.inside.number c.seat.inside.posts c.args.body) c.seat.invariant found (ap (λ b. b.entries) c.add_post.ensures.added) refl in
    let limits = ap (λ b. b.limits.posts) c.add_post.ensures.added ∙ ap (λ l. l.posts) found.same_limits in
    let few = c.add_post.ensures.few in
    seat_saw _ _ _ _ _ back (omega arith) (omega arith)

pub returns-clause-answer : goal.returns-clause-answer
returns-clause-answer g c =
    let back = came_back _ _ _ _ _ _ _ _ c.seat.invariant c.enter-ticket.ensures.token.1 c.leave-2.ensures.rests in
    let found = c.enter-ticket.ensures.found in
    let on = goes_on _ _ _ _ _ _ c.seat.view_is c.seat.invariant found in
    let number = ap (λ s. s.number) c.seat.view_is in
    let new = ap (λ b. b.entries) c.add_post.ensures.added ∙ ap (λ n. c.enter-ticket.result.1.entries ++ post n c.seat.inside.posts c.args.body ∷ []) number in
    let view = seat_view _ _ c.seat.inside.token.me _ _ _ _ _ c.seat.view_is (c.leave-2.ensures.token ∙ c.enter-ticket.ensures.token.0) back new in
    let limits = ap (λ l. l.posts) found.same_limits ∙ ap (λ s. s.inbox.limits.posts) c.seat.view_is in
    let room = not_full c.enter-ticket.result.1.limits.posts (length (posts_in c.enter-ticket.result.1.entries)) c.if-is_full.ensures.full in (
      c.enter-ticket.result.1.entries,
      on,
      (
        no_shut _ c.if-is_shut.ensures.shut,
        omega arith,
        c.seat.invariant.counts ∙ ap (λ s. length (posts_in (own_of s))) c.seat.view_is,
        view,
        ap own_of view ∙ own_after c.args.seat.now c.enter-ticket.result.1.entries (post c.args.seat.now.number c.seat.inside.posts c.args.body) on refl,
      ),
    )

pub returns-clause-few : goal.returns-clause-few
returns-clause-few g c =
    let back = came_back _ _ _ _ _ _ _ _ c.seat.invariant c.enter-ticket.ensures.token.1 c.leave-2.ensures.rests in
    let found = c.enter-ticket.ensures.found in
    let few = c.add_post.ensures.few in
    let seen = ap (λ m. length (posts_in (seen_of m.0))) back in
    let limits = ap (λ b. b.limits.posts) c.add_post.ensures.added ∙ (ap (λ l. l.posts) found.same_limits ∙ (ap (λ s. s.inbox.limits.posts) c.seat.view_is ∙ ap (λ i. i.limits.posts) c.requires)) in
    omega arith

pub returns-clause-later : goal.returns-clause-later
returns-clause-later g c =
    let back = came_back _ _ _ _ _ _ _ _ c.seat.invariant c.enter-ticket.ensures.token.1 c.leave-2.ensures.rests in
    let on = goes_on _ _ _ _ _ _ c.seat.view_is c.seat.invariant c.enter-ticket.ensures.found in
    let view = seat_view _ _ c.seat.inside.token.me _ _ _ _ _ c.seat.view_is (c.leave-2.ensures.token ∙ c.enter-ticket.ensures.token.0) back (ap (λ b. b.entries) c.add_post.ensures.added) in
    later_after c.args.seat.now _ c.enter-ticket.result.1.entries _ on view
