use Rattle.search_core.proofs.OfRun.{events_of-are, to_cut-are}
use Rattle.search_core.proofs.laws.events_are_of_run.Goals as goal

pub returns-clause-to_cut : goal.returns-clause-to_cut
returns-clause-to_cut g c = λ game t cuts range few. to_cut-are game t cuts range few

pub returns-clause-to_step : goal.returns-clause-to_step
returns-clause-to_step g c = λ game t cuts range few. events_of-are game t cuts range few
