use Rattle.std.proofs.Common.{◌≡◌, ℕ, true, false, is_some, length}
use Rattle.tuple_store.specs.Live.{slot_at}
use Rattle.tuple_store.specs.Log.{is_noted}
use Rattle.tuple_store.specs.Rows.{is_base, is_settled, rows_of}
use Rattle.tuple_store.proofs.trial.restore_all.Given as goal

-- what the end of the trial keeps is as before, and the slots that aren't settled yet are noted
abbrev pub invariant-loop-n : goal.invariant-loop-n
invariant-loop-n g l = record {
  base : rows_of is_base l.rows.slots ≡ rows_of is_base l.fn.rows.slots;
  noted : (q : ℕ) → is_settled (slot_at l.rows.slots q) ≡ false → is_noted l.log.numbers q ≡ true;
  fewer : (q : ℕ) → is_some (slot_at l.rows.slots q) ≡ true → is_some (slot_at l.fn.rows.slots q) ≡ true;
  room : l.log.room ≡ l.fn.log.room;
}

abbrev pub decreases-loop-n : goal.decreases-loop-n
decreases-loop-n g l = length l.log.numbers
