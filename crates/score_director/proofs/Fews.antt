-- From station to station of a rule there are no more rows than may be.
use Rattle.std.proofs.Common.{◌≡◌, ◌≤◌, ◌<◌, ◌-◌, ◌*◌, ◌/◌, ◌∙◌, ◌⊎◌, inl, inr, ℕ, true, false, List, [], ◌∷◌, ◌++◌, map, length, nat_lt, refl, sym, arith}
use Rattle.std.specs.Prelude.{All, sum_by}
use Rattle.std.specs.List.{list_any}
use Rattle.std.proofs.Math.Nat.{le-div_iff_mul-le}
use Rattle.std.proofs.lemmas.Bool.{cases_lt}
use Rattle.std.proofs.lemmas.List.{length-map}
use Rattle.std.proofs.lemmas.List.Sums.{sum_by-cons}
use Rattle.std.proofs.lemmas.Nat.{mul-le}
use Rattle.plan_rules.specs.declared.rule.Head.{Head}
use Rattle.plan_rules.specs.declared.rule.Head.TheVariants as head
use Rattle.plan_rules.specs.declared.rule.Node.{Node}
use Rattle.plan_rules.specs.Bags.{AreSame}
use Rattle.plan_rules.specs.Faults.{lacks_room}
use Rattle.plan_rules.specs.Limits.{row_limit}
use Rattle.plan_rules.specs.Meaning.{Meaning}
use Rattle.plan_rules.specs.Named.{head_parts, parts_after}
use Rattle.plan_rules.specs.Order.{AreById}
use Rattle.plan_rules.specs.Range.{AreWithin, bounds_from, head_bound, node_bound, size_of}
use Rattle.plan_rules.specs.Rows.{Facts, head_rows, node_rows}
use Rattle.plan_rules.proofs.Lengths.{length-head_rows-le, length-node_rows-le}
use Rattle.plan_rules.proofs.Untrue.{neither, within}
use Rattle.stream_heads.specs.declared.cells.Cell.{Cell}
use Rattle.stream_heads.specs.Meant.{Rows, meant, row_at}
use Rattle.score_director.specs.Meaning.{RulesAreFew}
use Rattle.score_director.specs.Stations as station
use Rattle.score_director.specs.Stations.{AreFew, cells_after, cells_behind, head_cells, head_stations, node_cells}
use Rattle.score_director.proofs.Means.{head_means, node_means}
use Rattle.score_director.proofs.Ways.{room_first, room_rest}
use Rattle.score_director.proofs.Widths.{IsWide, station_wide}
use Rattle.head_changes.specs.Takers.{AreTakers, MeanFacts, Takers}

counted : {X : Type 0} (xs : List X) → sum_by (λ x. 1) xs ≡ length xs
counted [] = refl
counted (x ∷ xs) = let rest = counted xs in omega (arith, rest, sum_by-cons (λ y. 1) x xs)

-- as many rows as those that they mean
same_length : {X Y : Type 0} (f : X → Y) (xs : List X) (ys : List Y) → AreSame (map f xs) ys → length xs ≡ length ys
same_length f xs ys same = sym (length-map xs f) ∙ sym (counted (map f xs)) ∙ same.sums (λ y. 1) ∙ counted ys

-- where pairs are no more than some number from 3 on, neither are the records
few_by_pairs : (most size : ℕ) → 3 ≤ most → size * (size - 1) / 2 ≤ most → size ≤ most
few_by_pairs most size some few = by (cases_lt most size)
  where
    by : (most < size) ⊎ (size ≤ most) → size ≤ most
    by (inl over) =
        let grows : size * 3 ≤ size * (size - 1) = mul-le size 3 size (size - 1) (omega arith) (omega (arith, over, some)) in
        let half : size ≤ size * (size - 1) / 2 = (le-div_iff_mul-le {k = 2} (omega arith)).1 (omega (arith, grows)) in
        omega (arith, half, few)
    by (inr under) = under

some_rows : 3 ≤ row_limit
some_rows = omega arith

module _ (m : Meaning) (heads : Rows) (takers : Takers) (facts : Facts) (taking : AreTakers heads takers) (mean : MeanFacts heads takers facts) (sizes : List ℕ) (sized : AreWithin sizes facts) where
  -- behind nodes whose bounds are no more than may be there are no more rows
  nodes_few : (width bound : ℕ) (before : List (List Cell)) (nodes : List Node) → lacks_room width nodes ≡ false → All (IsWide width) before → length before ≤ bound
      → list_any (nat_lt row_limit) (bounds_from sizes bound nodes) ≡ false → AreFew m heads takers before (map station.Of nodes)
  nodes_few width bound before [] room wide bounded few =
      let bound' = within row_limit bound (neither (nat_lt row_limit bound) false few).0 in omega (arith, bounded, bound')
  nodes_few width bound before (n ∷ nodes) room wide bounded few =
      let two = neither (nat_lt row_limit bound) (list_any (nat_lt row_limit) (bounds_from sizes (node_bound sizes bound n) nodes)) few in
      let bound' = within row_limit bound (two.0) in
      let first = room_first width n nodes room in
      let behind = node_cells m heads takers before n in
      let same = same_length (row_at heads) behind (node_rows m facts (meant heads before) n) (node_means m heads takers facts taking mean width before n first wide) in
      let made = length-node_rows-le m facts sizes (meant heads before) bound n sized (omega (arith, length-map before (row_at heads), bounded)) in (
        omega (arith, bounded, bound'),
        nodes_few (parts_after width n) (node_bound sizes bound n) behind nodes (room_rest width n nodes room)
            (station_wide m heads takers width before (station.Of n) (λ class nulls. (taking class nulls).wide) first wide) (omega (arith, same, made)) (two.1),
      )

  -- the rows behind a head are within its bound
  head_few : AreById facts → (h : Head) → length (cells_behind m heads takers (head_cells takers h) (head_stations h)) ≤ head_bound sizes h
  head_few up h =
      let same = same_length (row_at heads) (cells_behind m heads takers (head_cells takers h) (head_stations h)) (head_rows m facts h) (head_means m heads takers facts taking mean up h) in
      let made = length-head_rows-le m facts sizes h sized in
      omega (arith, same, made)

  -- as many records as there are of a class
  takers_few : AreById facts → (class : ℕ) → length (takers class false) ≤ size_of sizes class
  takers_few up class = head_few up (head.ForEach class)

  first_bound : (bound : ℕ) (nodes : List Node) → list_any (nat_lt row_limit) (bounds_from sizes bound nodes) ≡ false → bound ≤ row_limit
  first_bound bound [] few = within row_limit bound (neither (nat_lt row_limit bound) false few).0
  first_bound bound (n ∷ nodes) few = within row_limit bound (neither (nat_lt row_limit bound) (list_any (nat_lt row_limit) (bounds_from sizes (node_bound sizes bound n) nodes)) few).0

  rule_few : AreById facts → (h : Head) (nodes : List Node) → lacks_room (head_parts h) nodes ≡ false → list_any (nat_lt row_limit) (bounds_from sizes (head_bound sizes h) nodes) ≡ false
      → AreFew m heads takers (head_cells takers h) (head_stations h ++ map station.Of nodes)
  rule_few up (head.ForEach class) nodes room few = nodes_few 1 (size_of sizes class) (takers class false) nodes room (taking class false).wide (head_few up (head.ForEach class)) few
  rule_few up (head.ForEachNulls class) nodes room few = nodes_few 1 (size_of sizes class) (takers class true) nodes room (taking class true).wide (head_few up (head.ForEachNulls class)) few
  rule_few up (head.Pairs class joiners) nodes room few =
      let size = size_of sizes class in
      let pairs = cells_after m heads takers (takers class false) (station.Rising class false joiners) in
      let below = first_bound (size * (size - 1) / 2) nodes few in
      let records = takers_few up class in
      let most = few_by_pairs row_limit size some_rows below in
      let wide = station_wide m heads takers 1 (takers class false) (station.Rising class false joiners) (λ class nulls. (taking class nulls).wide) (λ is. omega arith) (taking class false).wide in
      (omega (arith, records, most), nodes_few 2 (size * (size - 1) / 2) pairs nodes room wide (head_few up (head.Pairs class joiners)) few)

pub rules_are_few : RulesAreFew
rules_are_few m heads takers facts sizes rule taking mean up room sized few = rule_few m heads takers facts taking mean sizes sized up rule.head rule.nodes room few
