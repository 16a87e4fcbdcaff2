use Rattle.std.proofs.Common.{ap, arith, length}
use Rattle.change_inbox.specs.Entries.{posts_in}
use Rattle.change_inbox.proofs.EntryLists.{length-post_places}
use Rattle.change_inbox.proofs.book.Book.posts.Goals as goal

pub prove-unreachable-requires : goal.prove-unreachable-requires
prove-unreachable-requires g c =
    let h = c.self.invariant in
    let k = ap length h.knows_places in
    omega (arith, length-post_places 0 c.self.inside.entries.items, c.len-count.ensures, c.self.inside.places.ok, h.posts)

pub returns-clause-count : goal.returns-clause-count
returns-clause-count g c =
    let h = c.self.invariant in
    let k = ap length h.knows_places in
    let es = ap (λ b. length (posts_in b.entries)) c.self.view_is in
    omega (arith, length-post_places 0 c.self.inside.entries.items, c.len-count.ensures, c.self.inside.places.ok)

pub returns-clause-few : goal.returns-clause-few
returns-clause-few g c =
    let limits = ap (λ b. b.limits.posts) c.self.view_is in
    omega arith
