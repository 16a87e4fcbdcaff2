-- A worker finds and plays what the search of a posed problem does.
use Rattle.std.specs.Prelude.{◌≡◌, ℕ}
use Rattle.std.specs.Option.{option_map_or}
use Rattle.score_director.specs.View.{at_rest}
use Rattle.plan_search.specs.Game.{found_at}
use Rattle.plan_search.specs.Posed.{Posed, State, candidate_at}
use Rattle.plan_search.specs.Quiet.{game}
use Rattle.move_workers.specs.Judging.{WorkerView, found_by, played}

-- a worker on the plan of a state
abbrev pub worker_on : Posed → State → WorkerView
worker_on posed state =
    record { director = at_rest posed.rules state.weights state.plan; seed = posed.settings.seed }

-- it finds of a candidate what the search does
abbrev pub FindsAsTheSearch : Type 0
FindsAsTheSearch = (posed : Posed) (state : State) (step number : ℕ) →
    found_by posed.meaning (worker_on posed state).director (candidate_at posed step number state.plan)
    ≡ found_at (game posed) step state number

-- by a candidate it comes to the plan that the search comes to
abbrev pub PlaysAsTheSearch : Type 0
PlaysAsTheSearch = (posed : Posed) (state : State) (step number : ℕ) →
    played (worker_on posed state) (candidate_at posed step number state.plan)
    ≡ worker_on posed (option_map_or (λ move. move.after) ((game posed).candidate step number state) state)
