-- What is gathered of a change of facts.
use Rattle.std.specs.Prelude.{ℕ, Bool, Contains, List}
use Rattle.plan_facts.specs.Plan.{PlanView, records_of}
use Rattle.plan_moves.specs.declared.edit.Touch.{Touch}
use Rattle.plan_rules.specs.Rows.{Facts}
use Rattle.stream_heads.specs.declared.cells.Cell.{Cell}
use Rattle.stream_heads.specs.Exact.{IsExact}
use Rattle.stream_heads.specs.Meant.{Extends, Rows, record_at}
use Rattle.head_changes.specs.declared.changes.ClassChange.{ClassChange}
use Rattle.head_changes.specs.Changes.{all_gone, come_of, gone_of, led_by}
use Rattle.head_changes.specs.Takers.{AreTakers, FactsTurn, HeadsHold, MeanFacts, Takers, heads_without}

-- the changes lead from the records of each class that take part to those that take part later
abbrev pub TakersLead : List ClassChange → Takers → Takers → Type 0
TakersLead changes takers later =
    (class : ℕ) (nulls : Bool)
    → IsExact (takers class nulls) (gone_of changes class nulls) (come_of changes class nulls) (later class nulls)

-- none of the records that came was one of the facts: a record that is the same is left out
abbrev pub ComeChanged : Rows → List ClassChange → Facts → Type 0
ComeChanged heads changes facts =
    (class : ℕ) (nulls : Bool) (row : List Cell) → Contains (come_of changes class nulls) row
    → Contains (facts class) (record_at heads row) → ⊥

-- changes lead on the records that old heads held; new ones have those that came besides, and hold just the later ones
-- once those that went are let go
pub record Gathered (old new : Rows) (changes : List ClassChange) (takers : Takers) (facts later : Facts) : Type 0 where
  pub lead : TakersLead changes takers (led_by changes takers)
  pub takers_are : AreTakers new (led_by changes takers)
  pub mean : MeanFacts new (led_by changes takers) later
  pub extends : Extends old new
  pub changed : ComeChanged new changes facts
  pub hold : HeadsHold (heads_without (all_gone changes) new) (led_by changes takers) later
  pub less : Extends (heads_without (all_gone changes) new) new

-- whatever facts the heads held that turned at these keys into those of the plan, the change is gathered
abbrev pub Gathers : Rows → Rows → List ClassChange → List Touch → PlanView → Type 0
Gathers heads later changes keys plan =
    (takers : Takers) (facts : Facts) → HeadsHold heads takers facts → FactsTurn keys facts (records_of plan)
    → Gathered heads later changes takers facts (records_of plan)
