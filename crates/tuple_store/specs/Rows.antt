use Rattle.std.specs.Prelude.{ℕ, ◌+◌, List, [], ◌∷◌, map, Option, Some, None, Bool, true, false, if◌then◌else◌}
use Rattle.std.specs.Ordering.{nat_cmp}
use Rattle.std.specs.FinMap as finmap
use Rattle.slab.specs.Slab.{Slab, get}
use Rattle.tuple_store.specs.declared.held.Held.{Held}
use Rattle.tuple_store.specs.declared.held.Mark.{Mark}
use Rattle.tuple_store.specs.declared.held.Mark.TheVariants.{Kept, Added, Killed}

-- rows by number
abbrev pub RowMap : Type 0 → Type 0
RowMap T = finmap.FinMap nat_cmp T

-- a row of this mark is in the contents
abbrev pub is_now : Mark → Bool
is_now Kept = true
is_now Added = true
is_now Killed = false

-- a row of this mark is in what a rollback brings back
abbrev pub is_base : Mark → Bool
is_base Kept = true
is_base Added = false
is_base Killed = true

-- the row in a slot, where its mark passes
abbrev pub shown : {T : Type 0} → (Mark → Bool) → Option (Held T) → Option T
shown passes None = None
shown passes (Some held) = if passes held.mark then Some held.row else None

-- the row of the contents under a number
abbrev pub live_at : {T : Type 0} → Slab (Held T) → ℕ → Option T
live_at rows n = shown is_now (get rows n)

-- the rows in slots, where the first slot has this number
abbrev pub numbered : {T : Type 0} → ℕ → List (Option T) → RowMap T
numbered n [] = finmap.empty
numbered n (None ∷ slots) = numbered (n + 1) slots
numbered n (Some row ∷ slots) = finmap.insert (numbered (n + 1) slots) n row

-- the rows whose mark passes, by number
unfoldable pub rows_of : {T : Type 0} → (Mark → Bool) → List (Option (Held T)) → RowMap T
rows_of passes slots = numbered 0 (map (shown passes) slots)

-- a slot's row stands in both contents, or the slot is empty
abbrev pub is_settled : {T : Type 0} → Option (Held T) → Bool
is_settled None = true
is_settled (Some held) = if is_now held.mark then is_base held.mark else false

-- the mark of the row in a slot
abbrev pub mark_in : {T : Type 0} → Option (Held T) → Option Mark
mark_in None = None
mark_in (Some held) = Some held.mark

-- the slot with its row marked anew
abbrev pub remarked : {T : Type 0} → Mark → Option (Held T) → Option (Held T)
remarked mark None = None
remarked mark (Some held) = Some (record held { mark = mark })
