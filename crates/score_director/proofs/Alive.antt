-- The rows behind a station have live places where those before it have.
use Rattle.std.proofs.Common.{◌≡◌, ◌∙◌, ℤ, true, false, cond, List, [], ◌∷◌, ◌++◌, length, nat_lt, get_or, refl}
use Rattle.std.specs.Prelude.{All}
use Rattle.std.specs.List.{list_all}
use Rattle.std.proofs.lemmas.Bool.{and_from, and_parts}
use Rattle.std.proofs.lemmas.List.Elements.{All-filter, All-map}
use Rattle.std.proofs.lemmas.List.Folds.{list_all-append}
use Rattle.std.proofs.lemmas.List.Sums.{AllPass-from_list_all, list_all-from_AllPass}
use Rattle.plan_rules.specs.declared.rule.Node.{Node}
use Rattle.plan_rules.specs.declared.rule.Node.TheVariants as node
use Rattle.plan_rules.specs.Groups.{collected, keys_among, rows_with}
use Rattle.plan_rules.specs.Meaning.{Meaning}
use Rattle.stream_heads.specs.declared.cells.Cell.{Cell}
use Rattle.stream_heads.specs.Beside.{beside}
use Rattle.stream_heads.specs.Meant.{Rows, all_live, is_live, meant}
use Rattle.stream_join.specs.Filter.{passes}
use Rattle.stream_join.specs.Pairing.{holds}
use Rattle.stream_exists.specs.Pairs.{as_wanted, pair_meets}
use Rattle.std.specs.List.{list_any}
use Rattle.stream_group.specs.Turns.{group_cells}
use Rattle.score_director.specs.Meaning.{AreLive, StationsKeepLive}
use Rattle.score_director.specs.Stations as station
use Rattle.score_director.specs.Stations.{node_cells}
use Rattle.score_director.proofs.Lists.{All-joined}
use Rattle.head_changes.specs.Takers.{Takers}

-- all places of a row are live
abbrev pub IsAlive : Rows → List Cell → Type 0
IsAlive heads row = list_all (is_live heads) row ≡ true

pub all_alive : (heads : Rows) (rows : List (List Cell)) → all_live heads rows ≡ true → All (IsAlive heads) rows
all_alive heads rows live = AllPass-from_list_all (λ row. list_all (is_live heads) row) rows live

pub alive_all : (heads : Rows) (rows : List (List Cell)) → All (IsAlive heads) rows → all_live heads rows ≡ true
alive_all heads rows alive = list_all-from_AllPass (λ row. list_all (is_live heads) row) rows alive

-- a row beside another is live where both are
pub alive_beside : (heads : Rows) (left right : List Cell) → IsAlive heads left → IsAlive heads right → IsAlive heads (beside left right)
alive_beside heads left [] live alive = live
alive_beside heads left (c ∷ rest) live alive =
    elim (nat_lt (length left) 4) as (λ b. IsAlive heads (cond b (left ++ c ∷ []) left)) [
      | true ↦ list_all-append (is_live heads) left (c ∷ []) ∙ and_from _ _ live (and_from _ _ (and_parts (is_live heads c) (list_all (is_live heads) rest) alive).0 refl)
      | false ↦ live
    ]

-- the row of a group has numbers alone
pub alive_group : (heads : Rows) (key : List ℤ) (n : ℤ) → IsAlive heads (group_cells key n)
alive_group heads [] n = refl
alive_group heads (k ∷ key) n = alive_group heads key n

-- the rows behind a node
node_alive : (m : Meaning) (heads read : Rows) (takers : Takers) (rows : List (List Cell)) (n : Node) → AreLive heads takers → All (IsAlive heads) rows
    → All (IsAlive heads) (node_cells m read takers rows n)
node_alive m heads read takers rows (node.Filter test) live alive = All-filter (passes m read test) (IsAlive heads) rows alive
node_alive m heads read takers rows (node.Join class nulls joiners) live alive =
    All-joined (IsAlive heads) (IsAlive heads) (IsAlive heads) (holds m read false joiners) rows (takers class nulls) (alive_beside heads) alive (all_alive heads (takers class nulls) (live class nulls))
node_alive m heads read takers rows (node.IfExists class nulls joiners) live alive =
    All-filter (λ left. as_wanted true (list_any (pair_meets m read joiners left) (takers class nulls))) (IsAlive heads) rows alive
node_alive m heads read takers rows (node.IfNotExists class nulls joiners) live alive =
    All-filter (λ left. as_wanted false (list_any (pair_meets m read joiners left) (takers class nulls))) (IsAlive heads) rows alive
node_alive m heads read takers rows (node.GroupBy keys collect) live alive =
    All-map (IsAlive heads) (λ key. group_cells key (collected m collect (rows_with m keys (meant read rows) key))) (keys_among m keys (meant read rows))
    (λ k d within. alive_group heads (get_or (keys_among m keys (meant read rows)) k d) _)

pub stations_keep_live : StationsKeepLive
stations_keep_live m heads read takers rows (station.Of n) live lives = alive_all heads (node_cells m read takers rows n) (node_alive m heads read takers rows n live (all_alive heads rows lives))
stations_keep_live m heads read takers rows (station.Rising class nulls joiners) live lives =
    alive_all heads _
    (All-joined (IsAlive heads) (IsAlive heads) (IsAlive heads) (holds m read true joiners) rows (takers class nulls) (alive_beside heads) (all_alive heads rows lives) (all_alive heads (takers class nulls) (live class nulls)))
