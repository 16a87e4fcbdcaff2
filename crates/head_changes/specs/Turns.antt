-- The change of one record.
use Rattle.std.specs.Prelude.{◌≡◌, ◌==◌, ◌&&◌, ◌||◌, ◌++◌, ◌⊎◌, ℕ, Bool, true, false, List, MatchOption, None, Option, Some, [], ◌∷◌, slice_index_or, slice_set, if◌then◌else◌}
use Rattle.std.specs.Option.{option_and_then, option_map_or}
use Rattle.std.specs.FinMap as finmap
use Rattle.plan_facts.specs.Plan.{PlanView, record_of}
use Rattle.plan_facts.specs.declared.record.Rec.{Rec}
use Rattle.plan_moves.specs.declared.edit.Touch.{Touch}
use Rattle.plan_rules.specs.declared.row.Part.{Part}
use Rattle.plan_rules.specs.declared.row.Part.TheVariants.{Fact, Num}
use Rattle.plan_rules.specs.Rows.{is_placed, row_of}
use Rattle.stream_heads.specs.declared.cells.Cell.{Cell}
use Rattle.stream_heads.specs.declared.cells.Cell.TheVariants as cell
use Rattle.stream_heads.specs.Meant.{Rows}
use Rattle.head_changes.specs.declared.changes.ClassChange.{ClassChange}
use Rattle.head_changes.specs.Changes.{taking}
use Rattle.head_changes.specs.Takers.{heads_without}

-- the record that a row begins with, if it begins with one
abbrev pub fact_in : List Part → Option Rec
fact_in [] = None
fact_in (Fact rec ∷ rest) = Some rec
fact_in (Num n ∷ rest) = None

-- the record at a place, if it is live
abbrev pub fact_at : Rows → ℕ → Option Rec
fact_at heads place = option_and_then fact_in (finmap.get heads place)

-- there is a record, and it has this class and id
abbrev pub has_key : Touch → Option Rec → Bool
has_key key None = false
has_key key (Some rec) = (rec.class == key.class) && (rec.id == key.id)

-- the place of a record with this class and id, or none where there is no such record
abbrev pub FindsKey : Rows → Touch → Option ℕ → Type 0
FindsKey heads key found =
    MatchOption found
    ((place : ℕ) → has_key key (fact_at heads place) ≡ true → ⊥)
    (λ place. has_key key (fact_at heads place) ≡ true)

-- a record without a null variable stands at the place
abbrev pub is_placed_at : Rows → ℕ → Bool
is_placed_at heads place = option_map_or is_placed (fact_at heads place) false

-- the row of a place, for the records that take part
abbrev pub row_taking : Bool → ℕ → Bool → List (List Cell)
row_taking placed place nulls = if nulls || placed then (cell.Place place ∷ []) ∷ [] else []

-- the record at a place went, with a null variable or without
pub record Goes (old new : ClassChange) (place : ℕ) (placed : Bool) : Type 0 where
  pub gone : (nulls : Bool)
      → (taking new nulls).gone.items ≡ (taking old nulls).gone.items ++ row_taking placed place nulls
  pub come : (nulls : Bool) → (taking new nulls).come.items ≡ (taking old nulls).come.items

-- a record came, under a place that wasn't live
pub record Comes (heads later : Rows) (old new : ClassChange) (rec : Rec) : Type 0 where
  pub place : ℕ
  pub fresh : finmap.get heads place ≡ None
  pub heads_are : later ≡ finmap.insert heads place (row_of rec)
  pub come : (nulls : Bool)
      → (taking new nulls).come.items ≡ (taking old nulls).come.items ++ row_taking (is_placed rec) place nulls
  pub gone : (nulls : Bool) → (taking new nulls).gone.items ≡ (taking old nulls).gone.items

-- a record goes if there is one at the place
abbrev pub Leaves : Rows → ClassChange → ClassChange → Option ℕ → Type 0
Leaves heads old new place =
    MatchOption place (new ≡ old) (λ place. Goes old new place (is_placed_at heads place))

-- a record comes if there is one
abbrev pub Enters : Rows → Rows → ClassChange → ClassChange → Option Rec → Type 0
Enters heads later old new rec =
    MatchOption rec ((later ≡ heads) × (new ≡ old)) (λ rec. Comes heads later old new rec)

-- the record at a place goes, and another one comes, as far as there are such
pub record Turns (heads later : Rows) (old new : ClassChange) (place : Option ℕ) (rec : Option Rec) : Type 0 where
  pub between : ClassChange
  pub leaves : Leaves heads old between place
  pub enters : Enters heads later between new rec

-- there are both a place and a record, and the record stands there
abbrev pub IsSame : Rows → Option ℕ → Option Rec → Type 0
IsSame heads None rec = ⊥
IsSame heads (Some place) None = ⊥
IsSame heads (Some place) (Some rec) = fact_at heads place ≡ Some rec

-- the change of one class turned, and no other
pub record TurnsClass (heads later : Rows) (changes new : List ClassChange) (class : ℕ) (place : Option ℕ)
    (rec : Option Rec) : Type 0 where
  pub old : ClassChange
  pub next : ClassChange
  pub was : old ≡ slice_index_or changes class old
  pub is : new ≡ slice_set changes class next
  pub turns : Turns heads later old next place rec

-- what a key's record turned into is gathered: nothing if it is the same
pub record TurnsKey (heads later : Rows) (changes new : List ClassChange) (key : Touch)
    (rec : Option Rec) : Type 0 where
  pub place : Option ℕ
  pub finds : FindsKey heads key place
  pub turns : (IsSame heads place rec × (later ≡ heads) × (new ≡ changes))
      ⊎ ((IsSame heads place rec → ⊥) × TurnsClass heads later changes new key.class place rec)

-- what a key's record turned into by a plan is gathered
abbrev pub TurnsByPlan : Rows → Rows → List ClassChange → List ClassChange → Touch → PlanView → Type 0
TurnsByPlan heads later changes new key plan = TurnsKey heads later changes new key (record_of plan key.class key.id)

-- without what came, the heads are what they were without what came before, whatever else goes
abbrev pub TakesBack : Rows → Rows → List (List Cell) → List (List Cell) → Type 0
TakesBack heads later old new =
    (front back : List (List Cell))
    → heads_without (front ++ (new ++ back)) later ≡ heads_without (front ++ (old ++ back)) heads

-- the place that a row is, if it is one
abbrev pub place_in : List Cell → Option ℕ
place_in [] = None
place_in (cell.Num n ∷ rest) = None
place_in (cell.Place place ∷ []) = Some place
place_in (cell.Place place ∷ more ∷ rest) = None
