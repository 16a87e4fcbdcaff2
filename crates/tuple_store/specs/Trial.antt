use Rattle.std.specs.Prelude.{◌≡◌, ℕ, ◌<◌, List, [], Option, Bool, true, false, is_some}
use Rattle.tuple_store.specs.declared.held.Held.{Held}
use Rattle.tuple_store.specs.Live.{slot_at}
use Rattle.tuple_store.specs.Log.{LogView, is_noted}
use Rattle.tuple_store.specs.Rows.{is_settled}

-- each slot that a trial changed is noted, each row's number has room in the log, and between trials
-- nothing is noted
pub record IsLogged {T : Type 0} (slots : List (Option (Held T))) (log : LogView) (in_trial : Bool) : Type 0 where
  pub noted : (n : ℕ) → is_settled (slot_at slots n) ≡ false → is_noted log.numbers n ≡ true
  pub room : (n : ℕ) → is_some (slot_at slots n) ≡ true → n < log.room
  pub idle : in_trial ≡ false → log.numbers ≡ []
