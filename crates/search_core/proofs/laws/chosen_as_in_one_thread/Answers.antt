use Rattle.search_core.proofs.Agrees.{choices-are}
use Rattle.search_core.proofs.laws.chosen_as_in_one_thread.Goals as goal

pub returns : goal.returns
returns g c = λ game t lines events taken holds. choices-are game t lines events taken holds
