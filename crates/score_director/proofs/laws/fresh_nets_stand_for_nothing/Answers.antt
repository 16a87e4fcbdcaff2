use Rattle.score_director.proofs.FreshLaws.{fresh_nets_stand}
use Rattle.score_director.proofs.laws.fresh_nets_stand_for_nothing.Goals as goal

pub returns : goal.returns
returns c = fresh_nets_stand
