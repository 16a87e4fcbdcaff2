-- No row behind a station stands twice where none before it does.
use Rattle.std.proofs.Common.{◌≡◌, ◌<◌, ◌∙◌, ℕ, ℤ, Bool, true, false, List, filter, map, length, get_or, refl, ap, sym, arith}
use Rattle.std.specs.Prelude.{All, ◌≢◌}
use Rattle.std.specs.List.{list_any}
use Rattle.std.specs.Ordering.{is_eq}
use Rattle.std.proofs.lemmas.List.Elements.{All-filter, All-map}
use Rattle.std.proofs.lemmas.List.Kept.{AllPairs-filter}
use Rattle.plan_rules.specs.declared.rule.Node.{Node}
use Rattle.plan_rules.specs.declared.rule.Node.TheVariants as node
use Rattle.plan_rules.specs.Bags.{AreDifferent}
use Rattle.plan_rules.specs.Faults.{appends_record}
use Rattle.plan_rules.specs.Groups.{collected, keys_among, rows_with}
use Rattle.plan_rules.specs.Meaning.{Meaning}
use Rattle.plan_rules.proofs.Rising as up
use Rattle.plan_rules.proofs.RowOrder.{KeyBefore, keys-order}
use Rattle.stream_heads.specs.declared.cells.Cell.{Cell}
use Rattle.stream_heads.specs.Beside.{beside}
use Rattle.stream_heads.specs.Meant.{Rows, meant}
use Rattle.stream_join.specs.Filter.{passes}
use Rattle.stream_join.specs.Pairing.{holds, joined_cells}
use Rattle.stream_join.proofs.JoinedLaws.{told_apart}
use Rattle.stream_exists.specs.Pairs.{as_wanted, pair_meets}
use Rattle.stream_group.specs.Turns.{group_cells}
use Rattle.stream_group.proofs.Exactly.{key-group_cells, key_in}
use Rattle.stream_group.proofs.KeyCounts.{key_decides}
use Rattle.stream_group.proofs.KeyRows.{same_test}
use Rattle.score_director.specs.Stations as station
use Rattle.score_director.specs.Stations.{HasRoom, Station, cells_after, node_cells}
use Rattle.score_director.proofs.Widths.{AreSingle, IsWide}
use Rattle.head_changes.specs.Takers.{Takers}

abbrev AreApart : List Cell → List Cell → Type 0
AreApart one other = one ≢ other

-- different rows of so many cells each
abbrev AreApartAndWide : ℕ → List Cell → List Cell → Type 0
AreApartAndWide width one other = AreApart one other × IsWide width one × IsWide width other

up_wide : (width : ℕ) (rows : List (List Cell)) → AreDifferent rows → All (IsWide width) rows → up.Rising (AreApartAndWide width) rows
up_wide width rows apart wide =
    up.rising_from_pairs (AreApartAndWide width) rows (λ i j d below within. (apart i j d below within, wide i d (omega (arith, below, within)), wide j d within))

-- the rows of a join of different rows are different
pub joined_apart : (test : List Cell → List Cell → Bool) (width : ℕ) (lefts rights : List (List Cell)) → width < 4 → AreDifferent lefts → AreDifferent rights
    → All (IsWide width) lefts → All (IsWide 1) rights → AreDifferent (joined_cells test lefts rights)
joined_apart test width lefts rights room apart others wide single =
    let each : (left : List Cell) → All (IsWide 1) (filter (test left) rights) = λ left. All-filter (test left) (IsWide 1) rights single in
    up.pairs_from_rising AreApart (joined_cells test lefts rights)
    (up.rising-flat_map (AreApartAndWide width) AreApart (λ left. map (beside left) (filter (test left) rights)) lefts (up_wide width lefts apart wide)
    (λ k d within.
    let left = get_or lefts k d in
    let long : length left ≡ width = wide k d within in
    up.rising-map (AreApartAndWide 1) AreApart (beside left)
    (λ one other pair same. pair.0 (told_apart left one left other (omega (arith, long, room)) (omega (arith, long, room)) (pair.1) (pair.2) same).1)
    (filter (test left) rights) (up.rising-filter (AreApartAndWide 1) (test left) rights (up_wide 1 rights others single)))
    (λ left later pair.
    let long : length left ≡ width = pair.1 in
    let long' : length later ≡ width = pair.2 in
    All-map (λ row. All (AreApart row) (map (beside later) (filter (test later) rights))) (beside left) (filter (test left) rights)
    (λ k d within. All-map (AreApart (beside left (get_or (filter (test left) rights) k d))) (beside later) (filter (test later) rights)
    (λ j e there same. pair.0 (told_apart left (get_or (filter (test left) rights) k d) later (get_or (filter (test later) rights) j e)
    (omega (arith, long, room)) (omega (arith, long', room)) (each left k d within) (each later j e there) same).0))))

-- the rows of groups are different, since their keys are
groups_apart : (made : List ℤ → ℤ) (keys : List (List ℤ)) → up.Rising KeyBefore keys → AreDifferent (map (λ key. group_cells key (made key)) keys)
groups_apart made keys rises =
    up.pairs_from_rising AreApart (map (λ key. group_cells key (made key)) keys)
    (up.rising-map KeyBefore AreApart (λ key. group_cells key (made key))
    (λ one other below same.
    let keys' : one ≡ other = sym (key-group_cells one (made one)) ∙ ap key_in same ∙ key-group_cells other (made other) in
    let no : true ≡ false = sym ((key_decides one other).1 keys') ∙ same_test one other ∙ ap is_eq below in cc)
    keys rises)

-- the rows behind a node
node_apart : (m : Meaning) (heads : Rows) (takers : Takers) (width : ℕ) (rows : List (List Cell)) (n : Node) → AreSingle takers → ((class : ℕ) (nulls : Bool) → AreDifferent (takers class nulls))
    → (appends_record n ≡ true → width < 4) → All (IsWide width) rows → AreDifferent rows → AreDifferent (node_cells m heads takers rows n)
node_apart m heads takers width rows (node.Filter test) single others room wide apart = AllPairs-filter AreApart (passes m heads test) rows apart
node_apart m heads takers width rows (node.Join class nulls joiners) single others room wide apart =
    joined_apart (holds m heads false joiners) width rows (takers class nulls) (room refl) apart (others class nulls) wide (single class nulls)
node_apart m heads takers width rows (node.IfExists class nulls joiners) single others room wide apart =
    AllPairs-filter AreApart (λ left. as_wanted true (list_any (pair_meets m heads joiners left) (takers class nulls))) rows apart
node_apart m heads takers width rows (node.IfNotExists class nulls joiners) single others room wide apart =
    AllPairs-filter AreApart (λ left. as_wanted false (list_any (pair_meets m heads joiners left) (takers class nulls))) rows apart
node_apart m heads takers width rows (node.GroupBy keys collect) single others room wide apart =
    groups_apart (λ key. collected m collect (rows_with m keys (meant heads rows) key)) (keys_among m keys (meant heads rows)) (keys-order m keys (meant heads rows))

-- the rows behind a station
pub station_apart : (m : Meaning) (heads : Rows) (takers : Takers) (width : ℕ) (rows : List (List Cell)) (at : Station) → AreSingle takers → ((class : ℕ) (nulls : Bool) → AreDifferent (takers class nulls))
    → HasRoom width at → All (IsWide width) rows → AreDifferent rows → AreDifferent (cells_after m heads takers rows at)
station_apart m heads takers width rows (station.Of n) single others room wide apart = node_apart m heads takers width rows n single others room wide apart
station_apart m heads takers width rows (station.Rising class nulls joiners) single others room wide apart =
    joined_apart (holds m heads true joiners) width rows (takers class nulls) (room refl) apart (others class nulls) wide (single class nulls)
