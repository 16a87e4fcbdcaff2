-- Changes of the records of each class.
use Rattle.std.specs.Prelude.{◌≡◌, ◌++◌, Bool, List, [], map, slice_index_or, if◌then◌else◌}
use Rattle.std.specs.List.{flat_map}
use Rattle.stream_heads.specs.declared.cells.Cell.{Cell}
use Rattle.stream_heads.specs.declared.delta.CellsDelta.{CellsDelta}
use Rattle.stream_heads.specs.Without.{without}
use Rattle.head_changes.specs.declared.changes.ClassChange.{ClassChange}
use Rattle.head_changes.specs.Takers.{Takers}

-- the change of the records of one class that take part
abbrev pub taking : ClassChange → Bool → CellsDelta
taking change nulls = if nulls then change.all else change.placed

-- nothing went, nothing came
pub record IsNoChange (change : ClassChange) : Type 0 where
  pub gone : (nulls : Bool) → (taking change nulls).gone.items ≡ []
  pub come : (nulls : Bool) → (taking change nulls).come.items ≡ []

-- the places of the records of one class that went, of those that take part
abbrev pub went : Bool → ClassChange → List (List Cell)
went nulls change = (taking change nulls).gone.items

-- and those of the records that came
abbrev pub came : Bool → ClassChange → List (List Cell)
came nulls change = (taking change nulls).come.items

-- the places of records that went, of each class; none of a class that the changes don't have
abbrev pub gone_of : List ClassChange → Takers
gone_of changes class nulls = slice_index_or (map (went nulls) changes) class []

-- and those of records that came
abbrev pub come_of : List ClassChange → Takers
come_of changes class nulls = slice_index_or (map (came nulls) changes) class []

-- the places of all records that went
abbrev pub all_gone : List ClassChange → List (List Cell)
all_gone changes = flat_map (λ (change : ClassChange). change.all.gone.items) changes

-- the places of all records that came
abbrev pub all_come : List ClassChange → List (List Cell)
all_come changes = flat_map (λ (change : ClassChange). change.all.come.items) changes

-- the records that take part once some went and others came
abbrev pub led : Takers → Takers → Takers → Takers
led gone come takers class nulls = without (gone class nulls) (takers class nulls) ++ come class nulls

-- the records that take part once changes are done
abbrev pub led_by : List ClassChange → Takers → Takers
led_by changes takers = led (gone_of changes) (come_of changes) takers
