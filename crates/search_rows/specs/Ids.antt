-- The ids of a row's records and of their rooms, which the closures of the tests ask.
use Rattle.std.specs.Prelude.{ℕ, List, Option, None, Some, slice_get}
use Rattle.plan_facts.specs.declared.record.Value.{Value}
use Rattle.plan_rules.specs.declared.row.Part.{Part}
use Rattle.plan_rules.specs.declared.row.Part.TheVariants.{Fact, Num}

-- the id of a part, 0 where it is no record
abbrev pub part_id : Option Part → ℕ
part_id None = 0
part_id (Some (Fact rec)) = rec.id
part_id (Some (Num n)) = 0

-- the id of the record at a place of a row, 0 where there is none
abbrev pub id_at : List Part → ℕ → ℕ
id_at row place = part_id (slice_get row place)

-- the id of what a variable holds, 0 where it is null or isn't there
abbrev pub held_id : Option (Option Value) → ℕ
held_id None = 0
held_id (Some None) = 0
held_id (Some (Some value)) = value.id

-- the id of a part's room, which its second variable holds, 0 where it has none
abbrev pub part_room : Option Part → ℕ
part_room None = 0
part_room (Some (Fact rec)) = held_id (slice_get rec.planned 1)
part_room (Some (Num n)) = 0

-- the id of the room of the record at a place of a row, 0 where it has none
abbrev pub room_at : List Part → ℕ → ℕ
room_at row place = part_room (slice_get row place)
