-- What a search without a feed came to.
use Rattle.std.specs.Prelude.{◌≡◌, ℕ}
use Rattle.plan_search.specs.Posed.{Posed, state_score}
use Rattle.plan_search.specs.Quiet.{leg_after}
use Rattle.plan_session.specs.declared.searching.Searched.{Searched}
use Rattle.plan_session.specs.Course.{best_in}
use Rattle.plan_session.specs.Toured.{wins_after}

-- this is what so many steps came to
pub record HasSearched (posed : Posed) (n : ℕ) (searched : Searched) : Type 0 where
  pub best : searched.best ≡ (best_in posed (leg_after posed n)).plan
  pub score : searched.score ≡ state_score posed (best_in posed (leg_after posed n))
  pub wins : searched.wins ≡ wins_after posed n
