-- From station to station of a rule there are rows as they have to be.
use Rattle.std.proofs.Common.{◌≡◌, ◌<◌, ◌&&◌, ℕ, Bool, true, false, List, [], ◌∷◌, ◌++◌, map, arith}
use Rattle.std.specs.Prelude.{nat_le}
use Rattle.plan_rules.specs.declared.rule.Head.{Head}
use Rattle.plan_rules.specs.declared.rule.Head.TheVariants as head
use Rattle.plan_rules.specs.declared.rule.Node.{Node}
use Rattle.plan_rules.specs.Faults.{appends_record, lacks_room}
use Rattle.plan_rules.specs.Meaning.{Meaning}
use Rattle.plan_rules.specs.Named.{head_parts, parts_after}
use Rattle.plan_rules.proofs.Untrue.{below, neither}
use Rattle.stream_heads.specs.declared.cells.Cell.{Cell}
use Rattle.stream_heads.specs.Meant.{Rows}
use Rattle.score_director.specs.Meaning.{RulesAreOnTheWay}
use Rattle.score_director.specs.Stations as station
use Rattle.score_director.specs.Stations.{AreOnTheWay, HasRoom, Station, cells_after, head_cells, head_stations, width_after}
use Rattle.score_director.proofs.Alive.{stations_keep_live}
use Rattle.score_director.proofs.Apart.{station_apart}
use Rattle.score_director.proofs.Widths.{station_wide}
use Rattle.head_changes.specs.Takers.{AreRows, AreTakers, Takers}

-- a node that appends a record has room for it
room_at : (parts : ℕ) (appends : Bool) → (appends && nat_le 4 parts) ≡ false → appends ≡ true → parts < 4
room_at parts true none is = below 4 parts none
room_at parts false none is = cc

pub room_first : (width : ℕ) (n : Node) (nodes : List Node) → lacks_room width (n ∷ nodes) ≡ false → HasRoom width (station.Of n)
room_first width n nodes room = room_at width (appends_record n) (neither (appends_record n && nat_le 4 width) (lacks_room (parts_after width n) nodes) room).0

pub room_rest : (width : ℕ) (n : Node) (nodes : List Node) → lacks_room width (n ∷ nodes) ≡ false → lacks_room (parts_after width n) nodes ≡ false
room_rest width n nodes room = (neither (appends_record n && nat_le 4 width) (lacks_room (parts_after width n) nodes) room).1

module _ (m : Meaning) (heads : Rows) (takers : Takers) (taking : AreTakers heads takers) where
  -- behind a station there are rows where there are some before it
  pub rows_after : (width : ℕ) (rows : List (List Cell)) (at : Station) → HasRoom width at → AreRows heads width rows → AreRows heads (width_after width at) (cells_after m heads takers rows at)
  rows_after width rows at room are = record {
    different = station_apart m heads takers width rows at (λ class nulls. (taking class nulls).wide) (λ class nulls. (taking class nulls).different) room are.wide are.different;
    live = stations_keep_live m heads heads takers rows at (λ class nulls. (taking class nulls).live) are.live;
    wide = station_wide m heads takers width rows at (λ class nulls. (taking class nulls).wide) room are.wide;
  }

  nodes_on_the_way : (width : ℕ) (rows : List (List Cell)) (nodes : List Node) → lacks_room width nodes ≡ false → AreRows heads width rows → AreOnTheWay m heads takers width rows (map station.Of nodes)
  nodes_on_the_way width rows [] room are = are
  nodes_on_the_way width rows (n ∷ nodes) room are =
      let first = room_first width n nodes room in
      (are, first, nodes_on_the_way (width_after width (station.Of n)) (cells_after m heads takers rows (station.Of n)) nodes (room_rest width n nodes room) (rows_after width rows (station.Of n) first are))

  head_on_the_way : (h : Head) (nodes : List Node) → lacks_room (head_parts h) nodes ≡ false → AreOnTheWay m heads takers 1 (head_cells takers h) (head_stations h ++ map station.Of nodes)
  head_on_the_way (head.ForEach class) nodes room = nodes_on_the_way 1 (takers class false) nodes room (taking class false)
  head_on_the_way (head.ForEachNulls class) nodes room = nodes_on_the_way 1 (takers class true) nodes room (taking class true)
  head_on_the_way (head.Pairs class joiners) nodes room =
      let first : HasRoom 1 (station.Rising class false joiners) = λ is. omega arith in (
        taking class false,
        first,
        nodes_on_the_way 2 (cells_after m heads takers (takers class false) (station.Rising class false joiners)) nodes room (rows_after 1 (takers class false) (station.Rising class false joiners) first (taking class false)),
      )

pub rules_are_on_the_way : RulesAreOnTheWay
rules_are_on_the_way m heads takers rule taking room = head_on_the_way m heads takers taking rule.head rule.nodes room
