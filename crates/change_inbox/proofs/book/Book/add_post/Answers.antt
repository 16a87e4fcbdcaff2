use Rattle.std.proofs.Common.{ap, arith, length, [], ◌∷◌}
use Rattle.change_inbox.specs.Books.{post}
use Rattle.change_inbox.specs.Entries.{posts_in}
use Rattle.change_inbox.proofs.EntryLists.{length-post_places, has_room, with_post, length-posts-append}
use Rattle.change_inbox.proofs.book.Book.add_post.Goals as goal

pub push_reserved-requires : goal.push_reserved-requires
push_reserved-requires g c =
    let h = c.self.invariant in
    let places = ap length h.knows_places in
    let less = c.requires in
    let es = ap (λ b. length (posts_in b.entries)) c.self.view_is in
    let limits = ap (λ b. b.limits.posts) c.self.view_is in
    omega (arith, length-post_places 0 c.self.inside.entries.items, h.has_post_room)

pub push_reserved-requires-2 : goal.push_reserved-requires-2
push_reserved-requires-2 g c =
    let h = c.self.invariant in
    let less = c.requires in
    let es = ap (λ b. length (posts_in b.entries)) c.self.view_is in
    let limits = ap (λ b. b.limits.posts) c.self.view_is in
    let k = c.self.inside.entries.ok in
    let room = has_room _ _ _ _ _ _ h (omega (arith, h.cuts, h.shuts)) in omega arith

pub invariant_of-self : goal.invariant_of-self
invariant_of-self g c =
    let less = c.requires in
    let es = ap (λ b. length (posts_in b.entries)) c.self.view_is in
    let limits = ap (λ b. b.limits.posts) c.self.view_is in
    rw (c.push_reserved-2.ensures.items, c.push_reserved.ensures.items, c.push_reserved-2.ensures.capacity, c.push_reserved.ensures.capacity)
    (with_post _ _ _ _ _ _ c.args.seat c.args.number c.args.body c.len.result (omega (arith, c.len.ensures, c.self.inside.entries.ok)) c.self.invariant (omega arith))

pub returns-clause-few : goal.returns-clause-few
returns-clause-few g c =
    let less = c.requires in
    let es = ap (λ b. length (posts_in b.entries)) c.self.view_is in
    let limits = ap (λ b. b.limits.posts) c.self.view_is in
    rw c.push_reserved-2.ensures.items (omega (arith, length-posts-append c.self.inside.entries.items (post c.args.seat c.args.number c.args.body ∷ [])))
