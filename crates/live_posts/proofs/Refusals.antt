-- Why no post of a feeder is refused.
use Rattle.std.proofs.Common.{◌≡◌, ◌∙◌, ◌<◌, ◌≤◌, ◌++◌, List, length, ap, subst, append-nil, length-append, arith}
use mathlib.Core.List.{IsPrefix}
use Rattle.plan_changes.specs.declared.line.Post.{Post}
use Rattle.change_inbox.specs.declared.entry.Entry.{Entry}
use Rattle.change_inbox.specs.Entries.{posts_in, shuts_in}
use Rattle.change_inbox.proofs.EntryLists.{posts_in-append, shuts_in-append}
use Rattle.live_posts.specs.Feeding.{Shows, lines_among, posts_of, stops_behind}
use Rattle.live_posts.specs.Laws.{FindsRoom, GoesOnUnshut}

-- a longer journal has no fewer posts
posts_later : (seen journal : List (Entry Post)) → IsPrefix seen journal → length (posts_in seen) ≤ length (posts_in journal)
posts_later seen journal p =
    let parts = ap length (posts_in-append seen p.0) ∙ length-append (posts_in seen) (posts_in p.0) in
    let whole : length (posts_in (seen ++ p.0)) ≡ length (posts_in journal) = ap (λ es. length (posts_in es)) p.1 in
    omega arith

pub finds_room : FindsRoom
finds_room fed feeder journal closed room full =
    let all : length (posts_in feeder.seen) ≡ feeder.inbox.limits.posts = subst (λ f. Shows f feeder) full closed.shows in
    let lines : posts_of feeder ≡ lines_among (posts_of feeder) =
    closed.stop
    ∙ (ap (λ f. lines_among (posts_of feeder) ++ stops_behind (length (lines_among (posts_of feeder))) f) full
    ∙ append-nil (lines_among (posts_of feeder))) in
    let count = ap length lines in
    let few = closed.few in
    let later = posts_later feeder.seen journal closed.seen in
    let posts = ap length closed.posts in
    omega arith

pub goes_on_unshut : GoesOnUnshut
goes_on_unshut fed feeder journal closed none shut =
    let some : 0 < shuts_in feeder.seen = subst (λ f. Shows f feeder) shut closed.shows in
    let parts = shuts_in-append feeder.seen closed.seen.0 in
    let whole : shuts_in (feeder.seen ++ closed.seen.0) ≡ shuts_in journal = ap shuts_in closed.seen.1 in
    omega arith
