use Rattle.std.proofs.Common.{ap, arith, [], ◌∷◌}
use Rattle.change_inbox.specs.Books.{shut}
use Rattle.change_inbox.specs.Entries.{shuts_in}
use Rattle.change_inbox.proofs.EntryLists.{has_room, with_shut, length-posts-append}
use Rattle.change_inbox.proofs.book.Book.add_shut.Goals as goal

pub push_reserved-requires : goal.push_reserved-requires
push_reserved-requires g c =
    let h = c.self.invariant in
    let less = c.requires in
    let es = ap (λ b. shuts_in b.entries) c.self.view_is in
    let limits = ap (λ b. b.limits.seats) c.self.view_is in
    let k = c.self.inside.entries.ok in
    let room = has_room _ _ _ _ _ _ h (omega (arith, h.posts, h.cuts)) in omega arith

pub invariant_of-self : goal.invariant_of-self
invariant_of-self g c =
    let less = c.requires in
    let es = ap (λ b. shuts_in b.entries) c.self.view_is in
    let limits = ap (λ b. b.limits.seats) c.self.view_is in
    rw (c.push_reserved.ensures.items, c.push_reserved.ensures.capacity) (with_shut _ _ _ _ _ _ c.args.seat c.self.invariant (omega arith))

pub returns-clause-few : goal.returns-clause-few
returns-clause-few g c = let few = c.self.invariant.posts in rw c.push_reserved.ensures.items (omega (arith, length-posts-append c.self.inside.entries.items (shut c.args.seat ∷ [])))
