-- The rows of groups, key by key.
use Rattle.std.proofs.Common.{◌≡◌, ◌∙◌, ◌||◌, ℕ, ℤ, pos, Bool, true, false, cond, List, [], ◌∷◌, ◌++◌, Some, map, get_or, length, take, refl, ap, sym}
use Rattle.std.specs.Prelude.{◌≢◌}
use Rattle.std.specs.declared.cmp.Ordering.TheVariants.{Less, Equal, Greater}
use Rattle.std.specs.Ordering.{int_cmp, is_lt, is_eq}
use Rattle.std.specs.Cmp.{eq_by_cmp_equiv, int_cmp_total}
use Rattle.std.specs.Cmp.Lexicographic.{lists_ties, lists_total, slice_cmp}
use Rattle.std.specs.List.{flat_map}
use Rattle.plan_rules.specs.declared.row.Part.{Part}
use Rattle.plan_rules.specs.declared.row.Part.TheVariants as part
use Rattle.plan_rules.specs.Groups.{collected, group_key, key_entered, keys_among, rows_with}
use Rattle.plan_rules.specs.Meaning.{Meaning}
use Rattle.plan_rules.proofs.Collected.{or-swap}
use Rattle.plan_rules.proofs.Rising.{Rising}
use Rattle.plan_rules.proofs.RowOrder.{KeyBefore, keys-order}
use Rattle.stream_index.specs.Key.{key_eq}
use Rattle.stream_heads.specs.declared.cells.Cell.{Cell}
use Rattle.stream_heads.specs.declared.member.Member.{Member}
use Rattle.stream_heads.specs.Meant.{Rows, meant, row_at}
use Rattle.stream_heads.specs.Sides.{all_numbered, numbered}
use Rattle.stream_group.specs.declared.grouping.Grouping.{Grouping}
use Rattle.stream_group.specs.Collected.{made_if_any, number_asked}
use Rattle.stream_group.specs.Group.{group_rows, numbers_at}
use Rattle.stream_group.specs.Keyed.{number_in, under}
use Rattle.stream_group.specs.Laws.{GroupRowsMeanGroups}
use Rattle.stream_group.specs.Turns.{group_cells, is_one_key, made_under, numbers_under, rows_of_key}
use Rattle.stream_group.proofs.Collecting.{made-collected}
use Rattle.stream_group.proofs.Exactly.{count_of, key_in, only_its_key}
use Rattle.stream_group.proofs.KeyCounts.{count_keys, key_decides}

-- keys are compared alike
pub same_test : (one other : List ℤ) → key_eq one other ≡ is_eq (slice_cmp int_cmp one other)
same_test one other = lists_ties int_cmp (λ x y. refl) one other

turned_test : (one other : List ℤ) → key_eq one other ≡ is_eq (slice_cmp int_cmp other one)
turned_test one other = same_test one other ∙ (eq_by_cmp_equiv (lists_total int_cmp_total)).symm one other

or-twice : (a b : Bool) → (a || b) ≡ (a || (a || b))
or-twice true b = refl
or-twice false b = refl

-- what is among keys after one is entered: that one, and those that were
entered-among : (key : List ℤ) (keys : List (List ℤ)) (q : List ℤ) → is_one_key (key_entered key keys) q ≡ (key_eq q key || is_one_key keys q)
entered-among key [] q = refl
entered-among key (first ∷ rest) q =
    elim (slice_cmp int_cmp key first) as (λ o. slice_cmp int_cmp key first ≡ o → is_one_key (cond (is_lt o) (key ∷ first ∷ rest) (cond (is_eq o) (first ∷ rest) (first ∷ key_entered key rest))) q ≡ (key_eq q key || (key_eq q first || is_one_key rest q))) [
      | Less ↦ λ is. refl
      | Equal ↦ λ is.
          let same : key ≡ first = (key_decides key first).0 (same_test key first ∙ ap is_eq is) in
          or-twice (key_eq q first) (is_one_key rest q) ∙ ap (λ (k : List ℤ). key_eq q k || (key_eq q first || is_one_key rest q)) (sym same)
      | Greater ↦ λ is. ap (λ (b : Bool). key_eq q first || b) (entered-among key rest q) ∙ or-swap (key_eq q first) (key_eq q key) (is_one_key rest q)
    ] refl

-- whether there is any
abbrev is_some_row : List (List Part) → Bool
is_some_row [] = false
is_some_row (row ∷ rest) = true

some_more : (b : Bool) (row : List Part) (rows : List (List Part)) → (b || is_some_row rows) ≡ is_some_row (cond b (row ∷ rows) rows)
some_more true row rows = refl
some_more false row rows = refl

-- a key is among those of rows where there are rows with it
key_there : (m : Meaning) (keys : List ℕ) (rows : List (List Part)) (q : List ℤ) → is_one_key (keys_among m keys rows) q ≡ is_some_row (rows_with m keys rows q)
key_there m keys [] q = refl
key_there m keys (row ∷ rest) q =
    entered-among (group_key m keys row) (keys_among m keys rest) q
    ∙ (λ i. turned_test q (group_key m keys row) i || key_there m keys rest q i)
    ∙ some_more (is_eq (slice_cmp int_cmp (group_key m keys row) q)) row (rows_with m keys rest q)

front_is : (m : Meaning) (keys : List ℕ) (row : List Part) (rest : List ℤ) → take (length keys) (group_key m keys row ++ rest) ≡ group_key m keys row
front_is m [] row rest = refl
front_is m (key ∷ keys) row rest = ap (λ (ns : List ℤ). m.key_of key row ∷ ns) (front_is m keys row rest)

back_is : (m : Meaning) (keys : List ℕ) (row : List Part) (n : ℤ) → get_or (group_key m keys row ++ n ∷ []) (length keys) (pos 0) ≡ n
back_is m [] row n = refl
back_is m (key ∷ keys) row n = back_is m keys row n

both_ways : {X Y : Type 0} (f : X → ℤ) (g : Y → ℤ) (b : Bool) (x : X) (y : Y) (xs : List X) (ys : List Y) → f x ≡ g y → map f xs ≡ map g ys → map f (cond b (x ∷ xs) xs) ≡ map g (cond b (y ∷ ys) ys)
both_ways f g true x y xs ys first rest = λ i. first i ∷ rest i
both_ways f g false x y xs ys first rest = rest

module _ (m : Meaning) (heads : Rows) (by : Grouping) where
  abbrev keyed : List (List Cell) → List Member
  keyed lefts = all_numbered (numbers_at m heads by) lefts

  -- the collected number of a row is the one that is asked
  pub number_is : (cells : List Cell) → number_in (length by.keys) (numbered (numbers_at m heads by) cells) ≡ number_asked m by.collect (row_at heads cells)
  number_is cells = back_is m by.keys (row_at heads cells) (number_asked m by.collect (row_at heads cells))

  -- the collected numbers of the rows under a key are those of what the rows mean
  pub numbers_are : (lefts : List (List Cell)) (key : List ℤ) → numbers_under (length by.keys) (keyed lefts) key ≡ map (number_asked m by.collect) (rows_with m by.keys (meant heads lefts) key)
  numbers_are [] key = refl
  numbers_are (cells ∷ lefts) key =
      let row = row_at heads cells in
      let n = number_asked m by.collect row in
      let test : key_eq (take (length by.keys) (group_key m by.keys row ++ n ∷ [])) key ≡ is_eq (slice_cmp int_cmp (group_key m by.keys row) key) =
      ap (λ (k : List ℤ). key_eq k key) (front_is m by.keys row (n ∷ [])) ∙ same_test (group_key m by.keys row) key in
      let member = numbered (numbers_at m heads by) cells in
      ap (λ (b : Bool). map (number_in (length by.keys)) (cond b (member ∷ under (length by.keys) key (keyed lefts)) (under (length by.keys) key (keyed lefts)))) test
      ∙ both_ways (number_in (length by.keys)) (number_asked m by.collect) (is_eq (slice_cmp int_cmp (group_key m by.keys row) key)) member row (under (length by.keys) key (keyed lefts)) (rows_with m by.keys (meant heads lefts) key) (number_is cells) (numbers_are lefts key)

  -- the row of a group
  abbrev row_for : List (List Cell) → List ℤ → List Cell
  row_for lefts key = group_cells key (collected m by.collect (rows_with m by.keys (meant heads lefts) key))

  one_each : (f : List ℤ → List Cell) (keys : List (List ℤ)) → map f keys ≡ flat_map (λ key. f key ∷ []) keys
  one_each f [] = refl
  one_each f (key ∷ keys) = ap (λ (rows : List (List Cell)). f key ∷ rows) (one_each f keys)

  apart : (keys : List (List ℤ)) → Rising KeyBefore keys → Rising (λ one other. one ≢ other) keys
  apart [] up = tt
  apart (key ∷ keys) up = (
    λ k d within same.
        let below = up.0 k d within in
        let no : true ≡ false = sym ((key_decides key (get_or keys k d)).1 same) ∙ same_test key (get_or keys k d) ∙ ap is_eq below in cc,
    apart keys (up.1),
  )

  -- where rows have a key, what is made of these is in its row
  row_made : (row : List Cell) (key : List ℤ) (rows : List (List Part)) → cond (is_some_row rows) (count_of row (group_cells key (collected m by.collect rows) ∷ [])) 0 ≡ count_of row (rows_of_key key (made_if_any by.collect (map (number_asked m by.collect) rows)))
  row_made row key [] = refl
  row_made row key (first ∷ rest) = ap (λ (n : ℤ). count_of row (group_cells key n ∷ [])) (sym (made-collected m by.collect (first ∷ rest)))

  -- a row is among those of groups as often as among those of its key
  pub count_group_rows : (lefts : List (List Cell)) (row : List Cell) → count_of row (group_rows m heads by lefts) ≡ count_of row (rows_of_key (key_in row) (made_under by (keyed lefts) (key_in row)))
  count_group_rows lefts row =
      let keys = keys_among m by.keys (meant heads lefts) in
      let key = key_in row in
      let rows = rows_with m by.keys (meant heads lefts) key in
      ap (count_of row) (one_each (row_for lefts) keys)
      ∙ count_keys row (λ k. row_for lefts k ∷ []) (λ k other. only_its_key row k (Some (collected m by.collect (rows_with m by.keys (meant heads lefts) k))) other) keys (apart keys (keys-order m by.keys (meant heads lefts)))
      ∙ ap (λ (b : Bool). cond b (count_of row (row_for lefts key ∷ [])) 0) (key_there m by.keys (meant heads lefts) key)
      ∙ row_made row key rows
      ∙ ap (λ (ns : List ℤ). count_of row (rows_of_key key (made_if_any by.collect ns))) (sym (numbers_are lefts key))

-- the row of a group means its key's numbers and the collected one
row_means : (heads : Rows) (key : List ℤ) (n : ℤ) → row_at heads (group_cells key n) ≡ map (λ k. part.Num k) key ++ part.Num n ∷ []
row_means heads [] n = refl
row_means heads (k ∷ key) n = ap (λ (parts : List Part). part.Num k ∷ parts) (row_means heads key n)

all_mean : (heads : Rows) (f : List ℤ → ℤ) (keys : List (List ℤ)) → meant heads (map (λ key. group_cells key (f key)) keys) ≡ map (λ key. map (λ k. part.Num k) key ++ part.Num (f key) ∷ []) keys
all_mean heads f [] = refl
all_mean heads f (key ∷ keys) = λ i. row_means heads key (f key) i ∷ all_mean heads f keys i

pub rows_mean_groups : GroupRowsMeanGroups
rows_mean_groups m heads by lefts = all_mean heads (λ key. collected m by.collect (rows_with m by.keys (meant heads lefts) key)) (keys_among m by.keys (meant heads lefts))
