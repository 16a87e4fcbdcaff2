use Rattle.std.proofs.Common.{◌∙◌, ap, arith, length, slice_get}
use Rattle.change_inbox.specs.Entries.{posts_in}
use Rattle.change_inbox.proofs.EntryLists.{length-post_places, stands_at_place, same_body}
use Rattle.change_inbox.proofs.book.Book.post.Goals as goal

pub index-place-requires : goal.index-place-requires
index-place-requires g c =
    let h = c.self.invariant in
    let k = ap length h.knows_places in
    let ok = c.self.inside.places.ok in
    let es = ap (λ b. length (posts_in b.entries)) c.self.view_is in
    omega (arith, length-post_places 0 c.self.inside.entries.items, c.posts.ensures.count)

pub index-requires : goal.index-requires
index-requires g c =
    let es = ap (λ b. length (posts_in b.entries)) c.self.view_is in
    let t = stands_at_place c.self.inside.entries.items _ c.args.n _ c.self.invariant.knows_places (omega (arith, c.posts.ensures.count)) c.index-place.ensures in
    omega (arith, t.within, c.self.inside.entries.ok)

pub unreachable-requires : goal.unreachable-requires
unreachable-requires g c =
    let es = ap (λ b. length (posts_in b.entries)) c.self.view_is in
    let t = stands_at_place c.self.inside.entries.items _ c.args.n _ c.self.invariant.knows_places (omega (arith, c.posts.ensures.count)) c.index-place.ensures in
    c.in_default.not-Post t.seat t.number t.body (c.index.ensures ∙ t.is c.index.result.now)

pub returns : goal.returns
returns g c =
    let es = ap (λ b. length (posts_in b.entries)) c.self.view_is in
    let t = stands_at_place c.self.inside.entries.items _ c.args.n _ c.self.invariant.knows_places (omega (arith, c.posts.ensures.count)) c.index-place.ensures in
    same_body _ _ _ t c.index.result.now c.in-Post.seat c.in-Post.number c.in-Post.body c.index.ensures c.in-Post.is ∙ ap (λ b. slice_get (posts_in b.entries) c.args.n) c.self.view_is
