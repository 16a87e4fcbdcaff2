use Rattle.std.proofs.Common.{◌≡◌, All, false, take}
use Rattle.change_feed.specs.Feeds.{is_stop}
use Rattle.plan_session.proofs.leading.stop_in.Given as goal

-- no post so far is a stop
abbrev pub invariant-posts : goal.invariant-posts
invariant-posts l = All (λ post. is_stop post.body ≡ false) (take l.post-index l.posts)
