use Rattle.std.proofs.Common.{sym}
use Rattle.plan_search.specs.RunLines.{no_feed}
use Rattle.move_workers.proofs.InGame.{found_in_game, played_in_game}
use Rattle.move_workers.proofs.laws.workers_search.Goals as goal

pub returns-clause-finds : goal.returns-clause-finds
returns-clause-finds c posed state step number = sym (found_in_game no_feed.handle posed state step number)

pub returns-clause-plays : goal.returns-clause-plays
returns-clause-plays c posed state step number = played_in_game no_feed.handle posed state step number
