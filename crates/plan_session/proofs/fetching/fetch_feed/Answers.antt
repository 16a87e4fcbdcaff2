use Rattle.plan_session.proofs.ShelfLaws.{feed_held}
use Rattle.plan_session.proofs.fetching.fetch_feed.Goals as goal

pub returns-clause-feed : goal.returns-clause-feed
returns-clause-feed g c =
    feed_held (λ posts. posts.items) c.read_feed-read.result (g.S.Shelf.state c.args.shelf.now) c.args.name.now _ c.in-Ok.ensures.opens
    c.read_feed-read.ensures.lines c.read_feed-read.ensures.bodies c.read_feed-read.ensures.within

pub returns-clause-overlong : goal.returns-clause-overlong
returns-clause-overlong g c = λ over told.
    (_, c.in-Ok.ensures.opens.holds told, c.read_feed-read.ensures.overrun (c.in-Ok.ensures.opens.tells told) over)
