-- The records of facts that take part, as rows of one cell each.
use Rattle.std.specs.Prelude.{◌≡◌, ◌==◌, ◌&&◌, ◌||◌, ℕ, Bool, true, not, All, Contains, List, [], ◌∷◌, Some, filter, length, map}
use Rattle.std.specs.FinMap as finmap
use Rattle.std.specs.List.{list_any}
use Rattle.plan_facts.specs.declared.record.Rec.{Rec}
use Rattle.plan_moves.specs.declared.edit.Touch.{Touch}
use Rattle.plan_rules.specs.declared.row.Part.{Part}
use Rattle.plan_rules.specs.Bags.{AreDifferent, AreSame}
use Rattle.plan_rules.specs.Order.{AreById}
use Rattle.plan_rules.specs.Rows as rows
use Rattle.plan_rules.specs.Rows.{Facts, is_placed}
use Rattle.stream_heads.specs.declared.cells.Cell.{Cell}
use Rattle.stream_heads.specs.declared.cells.Cell.TheVariants as cell
use Rattle.stream_heads.specs.Exact.{is_among}
use Rattle.stream_heads.specs.Meant.{IsOneRecord, Rows, all_live, record_at, record_in}

-- the rows of one cell for the records that take part, by their class and whether those with null variables do
abbrev pub Takers : Type 0
Takers = ℕ → Bool → List (List Cell)

-- a record takes part: it has no null variable, or those with null variables are let in
abbrev pub takes : Bool → Rec → Bool
takes nulls rec = nulls || is_placed rec

-- rows of so many cells with live places, none of which stands twice
pub record AreRows (heads : Rows) (width : ℕ) (rows : List (List Cell)) : Type 0 where
  pub different : AreDifferent rows
  pub live : all_live heads rows ≡ true
  pub wide : All (λ row. length row ≡ width) rows

-- the records that take part are rows of one cell each
abbrev pub AreTakers : Rows → Takers → Type 0
AreTakers heads takers = (class : ℕ) (nulls : Bool) → AreRows heads 1 (takers class nulls)

-- the rows of one cell mean the records of facts that take part, in any order
pub record MeanFacts (heads : Rows) (takers : Takers) (facts : Facts) : Type 0 where
  pub records : (class : ℕ) (nulls : Bool) → All (IsOneRecord heads) (takers class nulls)
  pub same : (class : ℕ) (nulls : Bool)
      → AreSame (map (record_at heads) (takers class nulls)) (rows.takers facts class nulls)

-- the records of facts stand by their ids, each under its class
pub record AreFacts (facts : Facts) : Type 0 where
  pub by_id : AreById facts
  pub classed : (class : ℕ) → All (λ (rec : Rec). rec.class ≡ class) (facts class)

-- a record's place is among those of its class, of each kind that it takes part in
abbrev pub IsTaken : Takers → ℕ → Rec → Type 0
IsTaken takers place rec =
    (nulls : Bool) → takes nulls rec ≡ true → Contains (takers rec.class nulls) (cell.Place place ∷ [])

-- heads hold the records of facts and no others
pub record HeadsHold (heads : Rows) (takers : Takers) (facts : Facts) : Type 0 where
  pub takers_are : AreTakers heads takers
  pub mean : MeanFacts heads takers facts
  pub all : (place : ℕ) (row : List Part) → finmap.get heads place ≡ Some row
      → IsTaken takers place (record_in row)

-- the key is that of the record
abbrev pub is_keyed : ℕ → Rec → Touch → Bool
is_keyed class rec key = (key.class == class) && (key.id == rec.id)

-- the key of a record is one of these
abbrev pub is_key : List Touch → ℕ → Rec → Bool
is_key keys class rec = list_any (is_keyed class rec) keys

-- facts turn into later ones at these keys alone: all other records are the same
pub record FactsTurn (keys : List Touch) (facts later : Facts) : Type 0 where
  pub differ : AreDifferent keys
  pub old : AreFacts facts
  pub new : AreFacts later
  pub same : (class : ℕ)
      → filter (λ rec. not (is_key keys class rec)) (facts class)
      ≡ filter (λ rec. not (is_key keys class rec)) (later class)

-- heads without the records whose places these rows are
abbrev pub heads_without : List (List Cell) → Rows → Rows
heads_without rows heads = finmap.retain_keys heads (λ place. not (is_among rows (cell.Place place ∷ [])))
