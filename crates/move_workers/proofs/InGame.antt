-- A worker on the plan of a state finds and plays what the game of the posed problem does.
use Rattle.std.proofs.Common.{◌≡◌, ℕ, List, Option, Some, None, refl}
use Rattle.std.specs.Prelude.{option_map}
use Rattle.std.specs.Option.{option_map_or}
use Rattle.plan_moves.specs.declared.edit.Set.{Set}
use Rattle.plan_search.specs.Game.{found_at, found_of}
use Rattle.plan_search.specs.Posed.{Posed, State, candidate_at, game_of, move_of, plan_score}
use Rattle.move_workers.specs.Judging.{found_by, played}
use Rattle.move_workers.specs.Laws.{worker_on}

-- what is found of a candidate
same_found : {Line : Type 0} (handle : State → Line → State) (posed : Posed) (state : State) (candidate : Option (List Set)) → option_map (found_of (game_of handle posed)) (option_map (move_of state) candidate) ≡ found_by posed.meaning (worker_on posed state).director candidate
unfolding plan_score
same_found handle posed state None = refl
same_found handle posed state (Some sets) = refl

-- what is found of a step's candidate under a number
pub found_in_game : {Line : Type 0} (handle : State → Line → State) (posed : Posed) (state : State) (step number : ℕ) → found_at (game_of handle posed) step state number ≡ found_by posed.meaning (worker_on posed state).director (candidate_at posed step number state.plan)
found_in_game handle posed state step number =
    same_found handle posed state (candidate_at posed step number state.plan)

-- the worker after a candidate was played
same_played : (posed : Posed) (state : State) (candidate : Option (List Set)) → played (worker_on posed state) candidate ≡ worker_on posed (option_map_or (λ move. move.after) (option_map (move_of state) candidate) state)
same_played posed state None = refl
same_played posed state (Some sets) = refl

-- the worker after a step's candidate under a number was played
pub played_in_game : {Line : Type 0} (handle : State → Line → State) (posed : Posed) (state : State) (step number : ℕ) → played (worker_on posed state) (candidate_at posed step number state.plan) ≡ worker_on posed (option_map_or (λ move. move.after) ((game_of handle posed).candidate step number state) state)
played_in_game handle posed state step number = same_played posed state (candidate_at posed step number state.plan)
