use Rattle.live_posts.proofs.Looking.{met_all}
use Rattle.inbox_rows.proofs.tests.posts.fed_in_a_thread.Goals as goal

pub returns-clause-all : goal.returns-clause-all
returns-clause-all g c = c.close_run.ensures.all (met_all _ _ c.meet.new.self c.cut.new.self c.meet.ensures.other c.meet.ensures.met c.in_ok-cut.ensures.all)
