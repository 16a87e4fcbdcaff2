use Rattle.std.proofs.Common.{◌∙◌, ◌<◌, ◌++◌, ◌∷◌, [], length, sym, ap, subst}
use Rattle.change_inbox.specs.Books.{post}
use Rattle.change_inbox.specs.Entries.{posts_in, shuts_in}
use Rattle.change_inbox.specs.Seats.{own_of}
use Rattle.live_posts.proofs.feeder.post_next.Goals as goal

pub returns-in-Stored-clause-stored : goal.returns-in-Stored-clause-stored
returns-in-Stored-clause-stored g c =
    let answer = c.in-Stored.ensures.answer.2 in
    answer.4 ∙ ap (λ number. own_of c.args.seat.now ++ post c.args.seat.now.number number c.args.post ∷ []) answer.2

pub returns-in-Full-clause-shows : goal.returns-in-Full-clause-shows
returns-in-Full-clause-shows g c =
    let answer = c.in-Full.ensures.answer.2 in
    ap (λ s. length (posts_in s.seen)) answer.3 ∙ answer.1 ∙ sym (ap (λ s. s.inbox.limits.posts) answer.3)

pub returns-clause-shows : goal.returns-clause-shows
returns-clause-shows g c =
    let answer = c.in-Shut.ensures.answer.2 in
    subst (λ s. 0 < shuts_in s.seen) (sym answer.2) answer.0
