-- Nodes stand for the same rows while the heads gain records.
use Rattle.std.proofs.Common.{◌≡◌, Bool, false, cond, [], ℤ, true, List, filter, get_or, sym, subst, ap}
use Rattle.std.specs.Prelude.{All, ◌↔◌}
use Rattle.plan_rules.specs.declared.rule.Joiner.{Joiner}
use Rattle.plan_rules.specs.declared.row.Part.{Part}
use Rattle.plan_rules.specs.Bags.{AreSame}
use Rattle.plan_rules.specs.Meaning.{Meaning}
use Rattle.join_keys.specs.Keys.{left_numbers, right_numbers}
use Rattle.stream_heads.specs.declared.cells.Cell.{Cell}
use Rattle.stream_heads.specs.declared.member.Member.{Member}
use Rattle.stream_heads.specs.Meant.{Extends, Rows, all_live, row_at}
use Rattle.stream_heads.specs.Sides.{all_numbered, members_of, numbered}
use Rattle.stream_heads.proofs.Meanings.{filter_stays, row_stays}
use Rattle.stream_join.specs.Filter.{passes}
use Rattle.stream_join.specs.Join.{IsJoin, JoinRows}
use Rattle.stream_join.specs.Pairing.{holds, joined_cells, left_of, right_of}
use Rattle.std.specs.List.{list_any}
use Rattle.join_keys.specs.Keys.{is_test}
use Rattle.stream_exists.specs.Paired.{kept_pairs, left_key}
use Rattle.stream_exists.specs.Standing.{StandsFor}
use Rattle.stream_exists.specs.Views.{ExistsView}
use Rattle.stream_group.specs.declared.grouping.Grouping.{Grouping}
use Rattle.stream_group.specs.Group.{IsGrouped, numbers_at}
use Rattle.stream_group.specs.Grouped.{numbers_of}
use Rattle.score_director.specs.declared.node.Kind.{Kind}
use Rattle.score_director.specs.declared.node.Kind.TheVariants as kind
use Rattle.score_director.specs.Holding.{NodesStay}
use Rattle.score_director.specs.Nodes.{KindHolds}
use Rattle.score_director.proofs.Alive.{IsAlive, all_alive}
use Rattle.score_director.proofs.Lists.{map_all}
use Rattle.score_director.proofs.Stays.{joined_stay}

-- rows with the numbers of what they mean stay
numbered_stay : (asked : List Part → List ℤ) (heads more : Rows) → Extends heads more → (rows : List (List Cell)) → All (IsAlive heads) rows
    → all_numbered (λ row. asked (row_at more row)) rows ≡ all_numbered (λ row. asked (row_at heads row)) rows
numbered_stay asked heads more extends rows alive =
    map_all (numbered (λ row. asked (row_at more row))) (numbered (λ row. asked (row_at heads row))) rows
    (λ k d within. ap (λ (parts : List Part). numbered (λ row. asked parts) (get_or rows k d)) (row_stays heads more extends (get_or rows k d) (alive k d within)))

-- what is kept of some rows is kept of the same rows
moved : {X : Type 0} (kept one other : List X) → one ≡ other → AreSame kept one → AreSame kept other
moved {X} kept one other is same = subst (λ (xs : List X). AreSame kept xs) is same

-- where what is asked of rows and of pairs is the same by other heads, a node stands for them by these too
module _ (m : Meaning) (one other : Rows) (rows rights : List (List Cell)) where
  join_moves : (rising : Bool) (joiners : List Joiner) (held : JoinRows) → all_numbered (left_of m one joiners) rows ≡ all_numbered (left_of m other joiners) rows
      → all_numbered (right_of m one joiners) rights ≡ all_numbered (right_of m other joiners) rights
      → joined_cells (holds m one rising joiners) rows rights ≡ joined_cells (holds m other rising joiners) rows rights
      → IsJoin m one rising joiners rows rights held → IsJoin m other rising joiners rows rights held
  join_moves rising joiners held lefts others pairs is = record {
    left_members = moved held.lefts _ _ lefts is.left_members;
    right_members = moved held.rights _ _ others is.right_members;
    passed_rows = λ some. moved held.passed _ _ pairs (is.passed_rows some);
  }

  exists_moves : (v : ExistsView) → all_numbered (left_of m one v.joiners) rows ≡ all_numbered (left_of m other v.joiners) rows
      → all_numbered (right_of m one v.joiners) rights ≡ all_numbered (right_of m other v.joiners) rights
      → kept_pairs m one v.joiners rows rights ≡ kept_pairs m other v.joiners rows rights
      → StandsFor m one v rows rights → StandsFor m other v rows rights
  exists_moves v lefts others pairs is = record {
    left_rows = moved (members_of v.lefts) _ _ lefts is.left_rows;
    right_rows = moved (members_of v.rights) _ _ others is.right_rows;
    pairs = moved (members_of v.passed) _ _ (ap (all_numbered left_key) pairs) is.pairs;
  }

  group_moves : (by : Grouping) (kept : List Member) → all_numbered (numbers_at m one by) rows ≡ all_numbered (numbers_at m other by) rows
      → IsGrouped m one by rows kept → IsGrouped m other by rows kept
  group_moves by kept members is = record { members = moved kept _ _ members is.members; keys = is.keys; few = is.few }

module _ (m : Meaning) (heads more : Rows) (extends : Extends heads more) (rows rights : List (List Cell)) (live : all_live heads rows ≡ true) (others : all_live heads rights ≡ true) where
  lefts_stay : (joiners : List Joiner) → all_numbered (left_of m more joiners) rows ≡ all_numbered (left_of m heads joiners) rows
  lefts_stay joiners = numbered_stay (left_numbers m joiners) heads more extends rows (all_alive heads rows live)

  rights_stay : (joiners : List Joiner) → all_numbered (right_of m more joiners) rights ≡ all_numbered (right_of m heads joiners) rights
  rights_stay joiners = numbered_stay (right_numbers m joiners) heads more extends rights (all_alive heads rights others)

  kind_stays : (k : Kind) → KindHolds m heads rights rows k ↔ KindHolds m more rights rows k
  kind_stays (kind.Filter v) =
      let stays : filter (passes m more v.test) rows ≡ filter (passes m heads v.test) rows = filter_stays (m.test_of v.test) heads more extends rows live in
      (moved v.now _ _ (sym stays), moved v.now _ _ stays)
  kind_stays (kind.Join v) =
      let pairs = joined_stay m heads more extends rows rights (all_alive heads rows live) (all_alive heads rights others) v.joiners v.rising in (
        join_moves m heads more rows rights v.rising v.joiners v.now (sym (lefts_stay v.joiners)) (sym (rights_stay v.joiners)) (sym pairs),
        join_moves m more heads rows rights v.rising v.joiners v.now (lefts_stay v.joiners) (rights_stay v.joiners) pairs,
      )
  kind_stays (kind.Exists v) =
      let joined = joined_stay m heads more extends rows rights (all_alive heads rows live) (all_alive heads rights others) v.joiners false in
      let pairs : kept_pairs m more v.joiners rows rights ≡ kept_pairs m heads v.joiners rows rights = ap (λ (rows : List (List Cell)). cond (list_any is_test v.joiners) rows []) joined in (
        exists_moves m heads more rows rights v (sym (lefts_stay v.joiners)) (sym (rights_stay v.joiners)) (sym pairs),
        exists_moves m more heads rows rights v (lefts_stay v.joiners) (rights_stay v.joiners) pairs,
      )
  kind_stays (kind.Group v) =
      let members = numbered_stay (numbers_of m v.by) heads more extends rows (all_alive heads rows live) in
      (group_moves m heads more rows rights v.by v.now (sym members), group_moves m more heads rows rights v.by v.now members)

pub nodes_stay : NodesStay
nodes_stay m heads more takers rows n extends live lives = kind_stays m heads more extends rows (takers n.class n.nulls) lives (live n.class n.nulls) n.kind
