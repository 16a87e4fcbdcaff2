use Rattle.live_posts.proofs.Refusals.{finds_room, goes_on_unshut}
use Rattle.live_posts.proofs.laws.no_post_is_refused.Goals as goal

pub returns-clause-room : goal.returns-clause-room
returns-clause-room c = finds_room

pub returns-clause-unshut : goal.returns-clause-unshut
returns-clause-unshut c = goes_on_unshut
