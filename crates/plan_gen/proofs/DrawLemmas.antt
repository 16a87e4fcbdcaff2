-- The states of the generator, one after another.
use Rattle.std.proofs.Common.{◌≡◌, ℕ, ◌+◌, add-one}
use Rattle.plan_gen.specs.Draw.{next_state, state_after}

-- one draw further, wherever the generator stands
pub state_after-more : (number drawn further old new : ℕ) → old ≡ state_after number drawn → new ≡ next_state old → drawn + 1 ≡ further → new ≡ state_after number further
unfolding state_after
state_after-more number drawn further old new at_old moves more = rw (← more, add-one, ← at_old) moves
