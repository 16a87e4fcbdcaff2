-- The rows at a rule's end mean just the rows of the rule.
use Rattle.std.proofs.Common.{◌≡◌, ◌<◌, ◌∙◌, ℕ, Bool, true, false, List, [], ◌∷◌, ◌++◌, map, length, get_or, refl, sym, ap, arith}
use Rattle.std.specs.Prelude.{All, sum_by}
use Rattle.plan_rules.specs.declared.rule.Head.{Head}
use Rattle.plan_rules.specs.declared.rule.Head.TheVariants as head
use Rattle.plan_rules.specs.declared.rule.Node.{Node}
use Rattle.plan_rules.specs.declared.rule.Node.TheVariants as node
use Rattle.plan_rules.specs.Bags.{AreSame}
use Rattle.plan_rules.specs.Faults.{appends_record, lacks_room}
use Rattle.plan_rules.specs.Meaning.{Meaning}
use Rattle.plan_rules.specs.Named.{head_parts, parts_after}
use Rattle.plan_rules.specs.Order.{AreById}
use Rattle.plan_rules.specs.Rows as rows
use Rattle.plan_rules.specs.Rows.{Facts, head_rows, node_rows, nodes_rows, row_of, rule_rows}
use Rattle.plan_rules.proofs.Streams.{nodes_keep_sameness}
use Rattle.plan_rules.proofs.Sums.{same-map, same-refl, same-trans}
use Rattle.stream_heads.specs.declared.cells.Cell.{Cell}
use Rattle.stream_heads.specs.Meant.{Rows, meant, row_at}
use Rattle.stream_heads.proofs.Meanings.{map-filter}
use Rattle.stream_heads.specs.Meant.{record_at}
use Rattle.stream_join.proofs.MeantLaws.{joined_are_head_rows, joined_are_node_rows}
use Rattle.stream_exists.specs.Laws.{MeanRecords}
use Rattle.stream_exists.proofs.Means.{met_rows_mean, unmet_rows_mean}
use Rattle.stream_group.specs.declared.grouping.Grouping.{Grouping}
use Rattle.stream_group.proofs.KeyRows.{rows_mean_groups}
use Rattle.score_director.specs.Meaning.{CellsMeanRows}
use Rattle.score_director.specs.Stations as station
use Rattle.score_director.specs.Stations.{cells_behind, head_cells, head_stations, node_cells}
use Rattle.score_director.proofs.Lists.{map-map, map_all}
use Rattle.score_director.proofs.Ways.{room_first, room_rest}
use Rattle.score_director.proofs.Widths.{IsWide, station_wide}
use Rattle.head_changes.specs.Takers.{AreTakers, MeanFacts, Takers}

-- equal lists are the same
equal_same : {X : Type 0} (xs ys : List X) → xs ≡ ys → AreSame xs ys
equal_same xs ys is = record { sums = λ f. ap (sum_by f) is }

module _ (m : Meaning) (heads : Rows) (takers : Takers) (facts : Facts) (taking : AreTakers heads takers) (mean : MeanFacts heads takers facts) where
  -- the records that take part, as an exists node sees them
  mean_records : (class : ℕ) (nulls : Bool) → MeanRecords heads (takers class nulls) (rows.takers facts class nulls)
  mean_records class nulls = record {
    single = λ k d within. (mean.records class nulls k d within).single;
    facts = λ k d within. (mean.records class nulls k d within).means;
    same = mean.same class nulls;
  }

  short : (width : ℕ) (before : List (List Cell)) → All (IsWide width) before → width < 4 → All (λ row. length row < 4) before
  short width before wide room k d within = let is : length (get_or before k d) ≡ width = wide k d within in omega (arith, is, room)

  -- the rows behind a node mean those that the rule's node makes
  pub node_means : (width : ℕ) (before : List (List Cell)) (n : Node) → (appends_record n ≡ true → width < 4) → All (IsWide width) before
      → AreSame (meant heads (node_cells m heads takers before n)) (node_rows m facts (meant heads before) n)
  node_means width before (node.Filter test) room wide = equal_same _ _ (map-filter (row_at heads) (m.test_of test) before)
  node_means width before (node.Join class nulls joiners) room wide =
      joined_are_node_rows m heads facts class nulls joiners before (takers class nulls) (short width before wide (room refl)) (mean.records class nulls) (mean.same class nulls)
  node_means width before (node.IfExists class nulls joiners) room wide =
      equal_same _ _ (met_rows_mean m heads facts joiners before (takers class nulls) class nulls (mean_records class nulls) (λ some. short width before wide (room refl)))
  node_means width before (node.IfNotExists class nulls joiners) room wide =
      equal_same _ _ (unmet_rows_mean m heads facts joiners before (takers class nulls) class nulls (mean_records class nulls) (λ some. short width before wide (room refl)))
  node_means width before (node.GroupBy keys collect) room wide =
      let by : Grouping = record { keys = keys; collect = collect } in
      equal_same _ _ (rows_mean_groups m heads by before)

  -- and those behind some nodes
  nodes_mean : (width : ℕ) (before : List (List Cell)) (nodes : List Node) → lacks_room width nodes ≡ false → All (IsWide width) before
      → AreSame (meant heads (cells_behind m heads takers before (map station.Of nodes))) (nodes_rows m facts (meant heads before) nodes)
  nodes_mean width before [] room wide = same-refl (meant heads before)
  nodes_mean width before (n ∷ nodes) room wide =
      let behind = node_cells m heads takers before n in
      let first = room_first width n nodes room in
      let wide' = station_wide m heads takers width before (station.Of n) (λ class nulls. (taking class nulls).wide) first wide in
      same-trans (meant heads (cells_behind m heads takers behind (map station.Of nodes))) (nodes_rows m facts (meant heads behind) nodes) (nodes_rows m facts (node_rows m facts (meant heads before) n) nodes)
      (nodes_mean (parts_after width n) behind nodes (room_rest width n nodes room) wide')
      (nodes_keep_sameness m facts (meant heads behind) (node_rows m facts (meant heads before) n) nodes (node_means width before n first wide))

  -- the rows of single records mean these
  singles_mean : (class : ℕ) (nulls : Bool) → AreSame (meant heads (takers class nulls)) (map row_of (rows.takers facts class nulls))
  singles_mean class nulls =
      let singles = takers class nulls in
      same-trans (meant heads singles) (map row_of (map (record_at heads) singles)) (map row_of (rows.takers facts class nulls))
      (equal_same _ _ (map_all (row_at heads) (λ row. row_of (record_at heads row)) singles (λ k d within. (mean.records class nulls k d within).means) ∙ sym (map-map row_of (record_at heads) singles)))
      (same-map row_of (map (record_at heads) singles) (rows.takers facts class nulls) (mean.same class nulls))

  -- the rows behind a head mean those that the rule begins with
  pub head_means : AreById facts → (h : Head) → AreSame (meant heads (cells_behind m heads takers (head_cells takers h) (head_stations h))) (head_rows m facts h)
  head_means up (head.ForEach class) = singles_mean class false
  head_means up (head.ForEachNulls class) = singles_mean class true
  head_means up (head.Pairs class joiners) =
      joined_are_head_rows m heads facts class joiners (takers class false) (takers class false) (mean.records class false) (mean.records class false) (up class) (mean.same class false) (mean.same class false)

  -- nodes behind a head
  rule_means : AreById facts → (h : Head) (nodes : List Node) → lacks_room (head_parts h) nodes ≡ false
      → AreSame (meant heads (cells_behind m heads takers (head_cells takers h) (head_stations h ++ map station.Of nodes))) (nodes_rows m facts (head_rows m facts h) nodes)
  rule_means up (head.ForEach class) nodes room =
      same-trans _ _ _ (nodes_mean 1 (takers class false) nodes room (taking class false).wide) (nodes_keep_sameness m facts _ _ nodes (head_means up (head.ForEach class)))
  rule_means up (head.ForEachNulls class) nodes room =
      same-trans _ _ _ (nodes_mean 1 (takers class true) nodes room (taking class true).wide) (nodes_keep_sameness m facts _ _ nodes (head_means up (head.ForEachNulls class)))
  rule_means up (head.Pairs class joiners) nodes room =
      let wide = station_wide m heads takers 1 (takers class false) (station.Rising class false joiners) (λ class nulls. (taking class nulls).wide) (λ is. omega arith) (taking class false).wide in
      same-trans _ _ _ (nodes_mean 2 _ nodes room wide) (nodes_keep_sameness m facts _ _ nodes (head_means up (head.Pairs class joiners)))

pub cells_mean_rows : CellsMeanRows
unfolding rule_rows
cells_mean_rows m heads takers facts rule taking mean up room = rule_means m heads takers facts taking mean up rule.head rule.nodes room
