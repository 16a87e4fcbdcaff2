-- What the rows of cells of rules mean, and that they stay what they are while heads change.
use Rattle.std.specs.Prelude.{◌≡◌, ℕ, Bool, true, false, List}
use Rattle.plan_rules.specs.declared.rule.RuleDef.{RuleDef}
use Rattle.plan_rules.specs.Bags.{AreSame}
use Rattle.plan_rules.specs.Faults.{lacks_room}
use Rattle.plan_rules.specs.Meaning.{Meaning}
use Rattle.plan_rules.specs.Named.{head_parts}
use Rattle.plan_rules.specs.Order.{AreById}
use Rattle.plan_rules.specs.Range.{AreWithin, has_too_many_rows}
use Rattle.plan_rules.specs.Rows.{Facts, rule_rows}
use Rattle.stream_heads.specs.declared.cells.Cell.{Cell}
use Rattle.stream_heads.specs.Meant.{Extends, Rows, all_live, meant}
use Rattle.head_changes.specs.Takers.{MeanFacts}
use Rattle.score_director.specs.Stations.{AreFew, AreOnTheWay, Station, cells_after, head_cells, rule_cells, stations_of}
use Rattle.head_changes.specs.Takers.{AreTakers, Takers}

-- the rows at a rule's end mean just the rows of the rule
abbrev pub CellsMeanRows : Type 0
CellsMeanRows = (m : Meaning) (heads : Rows) (takers : Takers) (facts : Facts) (rule : RuleDef)
    → AreTakers heads takers → MeanFacts heads takers facts → AreById facts
    → lacks_room (head_parts rule.head) rule.nodes ≡ false
    → AreSame (meant heads (rule_cells m heads takers rule)) (rule_rows m facts rule)

-- from station to station of a rule there are rows as they have to be
abbrev pub RulesAreOnTheWay : Type 0
RulesAreOnTheWay = (m : Meaning) (heads : Rows) (takers : Takers) (rule : RuleDef)
    → AreTakers heads takers
    → lacks_room (head_parts rule.head) rule.nodes ≡ false
    → AreOnTheWay m heads takers 1 (head_cells takers rule.head) (stations_of rule)

-- and no more than may be, where there are no more facts than sizes say
abbrev pub RulesAreFew : Type 0
RulesAreFew = (m : Meaning) (heads : Rows) (takers : Takers) (facts : Facts) (sizes : List ℕ) (rule : RuleDef)
    → AreTakers heads takers → MeanFacts heads takers facts → AreById facts
    → lacks_room (head_parts rule.head) rule.nodes ≡ false
    → AreWithin sizes facts → has_too_many_rows sizes rule ≡ false
    → AreFew m heads takers (head_cells takers rule.head) (stations_of rule)

-- all places of the records that take part are live
abbrev pub AreLive : Rows → Takers → Type 0
AreLive heads takers = (class : ℕ) (nulls : Bool) → all_live heads (takers class nulls) ≡ true

-- the rows behind a station have live places where those before it have
abbrev pub StationsKeepLive : Type 0
StationsKeepLive = (m : Meaning) (heads read : Rows) (takers : Takers) (rows : List (List Cell)) (station : Station)
    → AreLive heads takers → all_live heads rows ≡ true
    → all_live heads (cells_after m read takers rows station) ≡ true

-- the rows behind a station are the same while the heads gain records
abbrev pub CellsStay : Type 0
CellsStay = (m : Meaning) (heads more : Rows) (takers : Takers) (rows : List (List Cell)) (station : Station)
    → Extends heads more → AreLive heads takers → all_live heads rows ≡ true
    → cells_after m more takers rows station ≡ cells_after m heads takers rows station
