use Rattle.std.proofs.Common.{◌∙◌, length, sym, ap}
use Rattle.change_inbox.specs.Entries.{posts_in}
use Rattle.change_inbox.specs.Seats.{own_of}
use Rattle.live_posts.proofs.cutter.Cutter.into_seat.Goals as goal

pub returns-clause-posts_nothing : goal.returns-clause-posts_nothing
returns-clause-posts_nothing g c = sym (ap (λ s. length (posts_in (own_of s))) c.self.view_is) ∙ c.self.invariant.posts_nothing
