-- What a word picks of a list.
use Rattle.std.specs.Prelude.{ℕ, ◌==◌, List, Option, Some, None, length, slice_get, if◌then◌else◌}
use Rattle.std.specs.Option.{option_and_then}
use Rattle.plan_draws.specs.Draws.{pick}

-- the place below a length that a word picks; none where there is no place
unfoldable pub picked_place : ℕ → ℕ → Option ℕ
picked_place word len = if len == 0 then None else Some (pick word len)

-- the member of a list that a word picks; none of an empty list
unfoldable pub picked : {A : Type 0} → ℕ → List A → Option A
picked word items = option_and_then (slice_get items) (picked_place word (length items))
