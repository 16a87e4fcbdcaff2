-- The rows behind a station stay while the heads gain records.
use Rattle.std.proofs.Common.{◌≡◌, ◌&&◌, ◌||◌, not, [], ◌∷◌, refl, Option, Bool, true, false, List, map, nat_lt, get_or, ap}
use Rattle.std.specs.Prelude.{All, unwrap_or}
use Rattle.std.specs.List.{list_all, list_any}
use Rattle.plan_rules.specs.declared.row.Part.{Part}
use Rattle.plan_rules.specs.declared.rule.Joiner.{Joiner}
use Rattle.plan_rules.specs.declared.rule.Node.{Node}
use Rattle.plan_rules.specs.declared.rule.Node.TheVariants as node
use Rattle.plan_rules.specs.Groups.{collected, keys_among, rows_with}
use Rattle.plan_rules.specs.Meaning.{Meaning}
use Rattle.join_keys.specs.Keys.{left_numbers, numbers_meet, right_numbers, tests_hold}
use Rattle.stream_heads.specs.declared.cells.Cell.{Cell}
use Rattle.stream_heads.specs.declared.cells.Cell.TheVariants as cell
use Rattle.stream_heads.specs.Beside.{beside}
use Rattle.stream_heads.specs.Meant.{Extends, Rows, all_live, is_live, parts_at, record_in}
use Rattle.stream_heads.proofs.Meanings.{filter_stays, row_stays, rows_stay}
use Rattle.stream_join.specs.Pairing.{first_record, holds, joined_cells}
use Rattle.stream_exists.specs.Pairs.{as_wanted, exists_rows, pair_meets}
use Rattle.stream_group.specs.Turns.{group_cells}
use Rattle.score_director.specs.Meaning.{AreLive, CellsStay}
use Rattle.score_director.specs.Stations as station
use Rattle.score_director.specs.Stations.{node_cells}
use Rattle.score_director.proofs.Alive.{IsAlive, alive_beside, all_alive}
use Rattle.score_director.proofs.Lists.{any_all, filter_all, joined_all}
use Rattle.head_changes.specs.Takers.{Takers}

module _ (m : Meaning) (heads more : Rows) (extends : Extends heads more) where
  module _ (joiners : List Joiner) (left right : List Cell) (live : IsAlive heads left) (alive : IsAlive heads right) where
    -- the record that a row begins with stays
    first_stays : (row : List Cell) → IsAlive heads row → first_record more row ≡ first_record heads row
    first_stays [] lives = refl
    first_stays (c ∷ rest) lives = ap record_in (cell_stays c (here (is_live heads c) (list_all (is_live heads) rest) lives))
      where
        cell_stays : (c : Cell) → is_live heads c ≡ true → parts_at more c ≡ parts_at heads c
        cell_stays (cell.Place n) lives = ap (λ (found : Option (List Part)). unwrap_or found []) (extends n lives)
        cell_stays (cell.Num n) lives = refl

        here : (a b : Bool) → (a && b) ≡ true → a ≡ true
        here true b is = refl
        here false b is = is

    -- what a pair of rows means stays, and so does whether joiners hold of it
    pub holds_stay : (rising : Bool) → holds m more rising joiners left right ≡ holds m heads rising joiners left right
    holds_stay rising =
        let first = first_stays left live in
        let second = first_stays right alive in
        let one = row_stays heads more extends left live in
        let other = row_stays heads more extends right alive in
        let both = row_stays heads more extends (beside left right) (alive_beside heads left right live alive) in
        λ i. ((not rising || nat_lt (first i).id (second i).id) && numbers_meet joiners (left_numbers m joiners (one i)) (right_numbers m joiners (other i))) && tests_hold m joiners (both i)

  module _ (rows rights : List (List Cell)) (live : All (IsAlive heads) rows) (alive : All (IsAlive heads) rights) (joiners : List Joiner) where
    -- the rows of a join stay
    pub joined_stay : (rising : Bool) → joined_cells (holds m more rising joiners) rows rights ≡ joined_cells (holds m heads rising joiners) rows rights
    joined_stay rising =
        joined_all (holds m more rising joiners) (holds m heads rising joiners) rows rights
        (λ k d within j e there. holds_stay joiners (get_or rows k d) (get_or rights j e) (live k d within) (alive j e there) rising)

    -- and those that some right row meets, or none
    exists_stay : (wanted : Bool) → exists_rows m more joiners wanted rights rows ≡ exists_rows m heads joiners wanted rights rows
    exists_stay wanted =
        filter_all (λ left. as_wanted wanted (list_any (pair_meets m more joiners left) rights)) (λ left. as_wanted wanted (list_any (pair_meets m heads joiners left) rights)) rows
        (λ k d within. ap (as_wanted wanted) (any_all (pair_meets m more joiners (get_or rows k d)) (pair_meets m heads joiners (get_or rows k d)) rights
        (λ j e there. holds_stay joiners (get_or rows k d) (get_or rights j e) (live k d within) (alive j e there) false)))

  -- the rows behind a node
  node_stays : (takers : Takers) (rows : List (List Cell)) (n : Node) → AreLive heads takers → all_live heads rows ≡ true → node_cells m more takers rows n ≡ node_cells m heads takers rows n
  node_stays takers rows (node.Filter test) live lives = filter_stays (m.test_of test) heads more extends rows lives
  node_stays takers rows (node.Join class nulls joiners) live lives = joined_stay rows (takers class nulls) (all_alive heads rows lives) (all_alive heads (takers class nulls) (live class nulls)) joiners false
  node_stays takers rows (node.IfExists class nulls joiners) live lives = exists_stay rows (takers class nulls) (all_alive heads rows lives) (all_alive heads (takers class nulls) (live class nulls)) joiners true
  node_stays takers rows (node.IfNotExists class nulls joiners) live lives = exists_stay rows (takers class nulls) (all_alive heads rows lives) (all_alive heads (takers class nulls) (live class nulls)) joiners false
  node_stays takers rows (node.GroupBy keys collect) live lives =
      ap (λ (parts : List (List Part)). map (λ key. group_cells key (collected m collect (rows_with m keys parts key))) (keys_among m keys parts)) (rows_stay heads more extends rows lives)

pub cells_stay : CellsStay
cells_stay m heads more takers rows (station.Of n) extends live lives = node_stays m heads more extends takers rows n live lives
cells_stay m heads more takers rows (station.Rising class nulls joiners) extends live lives =
    joined_stay m heads more extends rows (takers class nulls) (all_alive heads rows lives) (all_alive heads (takers class nulls) (live class nulls)) joiners true
