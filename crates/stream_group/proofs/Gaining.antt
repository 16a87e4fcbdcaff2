-- What a group node gains where left rows lead on.
use Rattle.std.proofs.Common.{◌≡◌, ◌∙◌, ◌||◌, ◌&&◌, ℕ, ℤ, Bool, true, false, cond, not, List, [], ◌∷◌, ◌++◌, Option, map, filter, length, sum_by, refl, ap, sym, subst, arith}
use Rattle.std.specs.Prelude.{All, ◌≢◌}
use Rattle.std.specs.List.{flat_map}
use Rattle.std.specs.Option.{option_eq}
use Rattle.std.specs.Ordering.{int_eq}
use Rattle.std.specs.Cmp.{signed_Decides}
use Rattle.std.specs.Cmp.Lexicographic.{pointwise, pointwise_decides}
use Rattle.std.proofs.lemmas.List.{append-nil, length-map, map-append}
use Rattle.std.proofs.lemmas.List.Elements.{All-append, All-cons, All-head, All-nil, All-tail}
use Rattle.std.proofs.lemmas.List.Sums.{sum_by-append}
use Rattle.plan_rules.specs.Bags.{AreDifferent, AreSame}
use Rattle.plan_rules.specs.Meaning.{IsKeyNumber, Meaning}
use Rattle.plan_rules.proofs.Rising.{rising_from_pairs}
use Rattle.plan_rules.proofs.Sums.{list_any-same, same-append, same-filter, same-map, same-sym, same-trans, sum_by-map}
use Rattle.stream_heads.specs.declared.cells.Cell.{Cell}
use Rattle.stream_heads.specs.declared.delta.CellsDelta.{CellsDelta}
use Rattle.stream_heads.specs.declared.member.Member.{Member}
use Rattle.stream_heads.specs.Bags.{IsPartOf}
use Rattle.stream_heads.specs.Change.{GainsExact}
use Rattle.stream_heads.specs.Equality.{cells_decide, same_cells}
use Rattle.stream_heads.specs.Exact.{IsExact, is_among}
use Rattle.stream_heads.specs.MemberEquality.{same_member}
use Rattle.stream_heads.specs.Meant.{Rows}
use Rattle.stream_heads.specs.Sides.{IsNumbered, all_numbered, numbered}
use Rattle.stream_heads.specs.Without.{without}
use Rattle.stream_heads.proofs.SideLaws.{all_part}
use Rattle.stream_heads.proofs.WithoutLaws.{without_gone}
use Rattle.stream_group.specs.declared.change.Change.{Change}
use Rattle.stream_group.specs.declared.grouping.Grouping.{Grouping}
use Rattle.stream_group.specs.Collected.{AreFewKeys, made_if_any}
use Rattle.stream_group.specs.Group.{IsGrouped, LeadsNumbered, LeftsLead, group_rows, numbers_at}
use Rattle.stream_group.specs.Keyed.{AreThere, changed, come_in, coming, gone_in, has_key, is_one_of, leaving, number_in, staying, under}
use Rattle.stream_group.specs.Turns.{TurnsAll, is_one_key, key_comes, key_goes, made_under, rows_of_key, unless_same}
use Rattle.stream_group.proofs.Collecting.{keys-same, length-same, made_if_any-same}
use Rattle.stream_group.proofs.Exactly.{count_of, groups_exact, key_in, only_its_turn, same_made}
use Rattle.stream_group.proofs.KeyCounts.{count_keys}
use Rattle.stream_group.proofs.KeyRows.{count_group_rows}
use Rattle.stream_group.proofs.Listed.{come_in-append, gone_in-append, unchanged}
use Rattle.stream_group.proofs.Turning.{changed_under, keys_kept}

gone_of_gone : (ms : List Member) → gone_in (map leaving ms) ≡ ms
gone_of_gone [] = refl
gone_of_gone (m ∷ ms) = ap (λ (rest : List Member). m ∷ rest) (gone_of_gone ms)

gone_of_come : (ms : List Member) → gone_in (map coming ms) ≡ []
gone_of_come [] = refl
gone_of_come (m ∷ ms) = gone_of_come ms

come_of_gone : (ms : List Member) → come_in (map leaving ms) ≡ []
come_of_gone [] = refl
come_of_gone (m ∷ ms) = come_of_gone ms

come_of_come : (ms : List Member) → come_in (map coming ms) ≡ ms
come_of_come [] = refl
come_of_come (m ∷ ms) = ap (λ (rest : List Member). m ∷ rest) (come_of_come ms)

-- changes in any order have the rows that go, and those that come
gone_are : (gone come : List Member) (changes : List Change) → AreSame (map leaving gone ++ map coming come) changes → AreSame (gone_in changes) gone
gone_are gone come changes same =
    subst (λ (ms : List Member). AreSame (gone_in changes) ms) (gone_in-append (map leaving gone) (map coming come) ∙ (λ i. gone_of_gone gone i ++ gone_of_come come i) ∙ append-nil gone)
    (same-sym (gone_in (map leaving gone ++ map coming come)) (gone_in changes) (same-map (λ (c : Change). c.member) _ _ (same-filter (λ (c : Change). not c.comes) _ _ same)))

come_are : (gone come : List Member) (changes : List Change) → AreSame (map leaving gone ++ map coming come) changes → AreSame (come_in changes) come
come_are gone come changes same =
    subst (λ (ms : List Member). AreSame (come_in changes) ms) (come_in-append (map leaving gone) (map coming come) ∙ (λ i. come_of_gone gone i ++ come_of_come come i))
    (same-sym (come_in (map leaving gone ++ map coming come)) (come_in changes) (same-map (λ (c : Change). c.member) _ _ (same-filter (λ (c : Change). c.comes) _ _ same)))

-- rows with the numbers that they have are the same where their cells are
same_rows : (numbers : List Cell → List ℤ) (one other : List Cell) → same_member (numbered numbers one) (numbered numbers other) ≡ same_cells one other
same_rows numbers one other =
    elim (same_cells one other) as (λ b. same_cells one other ≡ b → (b && pointwise int_eq (numbers one) (numbers other)) ≡ b) [
      | true ↦ λ is. (pointwise_decides signed_Decides (numbers one) (numbers other)).1 (ap numbers ((cells_decide one other).0 is))
      | false ↦ λ is. refl
    ] refl

one_of_numbered : (numbers : List Cell → List ℤ) (gone : List (List Cell)) (row : List Cell) → is_one_of (all_numbered numbers gone) (numbered numbers row) ≡ is_among gone row
one_of_numbered numbers [] row = refl
one_of_numbered numbers (x ∷ gone) row = λ i. same_rows numbers row x i || one_of_numbered numbers gone row i

stays_numbered : (numbers : List Cell → List ℤ) (gone rows : List (List Cell)) → filter (λ m. not (is_one_of (all_numbered numbers gone) m)) (all_numbered numbers rows) ≡ all_numbered numbers (without gone rows)
stays_numbered numbers gone [] = refl
stays_numbered numbers gone (row ∷ rows) =
    let rest = stays_numbered numbers gone rows in
    ap (λ (b : Bool). cond (not b) (numbered numbers row ∷ filter (λ m. not (is_one_of (all_numbered numbers gone) m)) (all_numbered numbers rows)) (filter (λ m. not (is_one_of (all_numbered numbers gone) m)) (all_numbered numbers rows))) (one_of_numbered numbers gone row)
    ∙ elim (not (is_among gone row)) as (λ b. cond b (numbered numbers row ∷ filter (λ m. not (is_one_of (all_numbered numbers gone) m)) (all_numbered numbers rows)) (filter (λ m. not (is_one_of (all_numbered numbers gone) m)) (all_numbered numbers rows)) ≡ map (numbered numbers) (cond b (row ∷ without gone rows) (without gone rows))) [
      | true ↦ ap (λ (ms : List Member). numbered numbers row ∷ ms) rest
      | false ↦ rest
    ]

-- rows that are changed are those that the change leads to
later_rows : (lefts gone come later : List (List Cell)) → AreDifferent lefts → IsExact lefts gone come later → AreSame (without gone lefts ++ come) later
later_rows lefts gone come later different exact = record {
  sums = λ f.
      let a = (without_gone gone lefts different exact.there).sums f in
      let b = exact.leads.sums f in
      omega (arith, a, b, sum_by-append f (without gone lefts) gone, sum_by-append f (without gone lefts) come, sum_by-append f lefts come, sum_by-append f later gone);
}

-- the rows that stay are those that are left of the old ones
stay_rows : (numbers : List Cell → List ℤ) (lefts gone : List (List Cell)) (kept : List Member) (changes : List Change) → AreSame kept (all_numbered numbers lefts)
    → AreSame (gone_in changes) (all_numbered numbers gone) → AreSame (staying changes kept) (all_numbered numbers (without gone lefts))
stay_rows numbers lefts gone kept changes same is_gone =
    let stay : staying changes kept ≡ filter (λ m. not (is_one_of (all_numbered numbers gone) m)) kept = λ i. filter (λ m. not (list_any-same (same_member m) (gone_in changes) (all_numbered numbers gone) is_gone i)) kept in
    subst (λ (ms : List Member). AreSame ms (all_numbered numbers (without gone lefts))) (sym stay)
    (subst (λ (ms : List Member). AreSame (filter (λ m. not (is_one_of (all_numbered numbers gone) m)) kept) ms) (stays_numbered numbers gone lefts) (same-filter (λ m. not (is_one_of (all_numbered numbers gone) m)) kept (all_numbered numbers lefts) same))

-- the rows that go are there, and go once each
all_there : (numbers : List Cell → List ℤ) (lefts gone come : List (List Cell)) (kept : List Member) (changes : List Change) → AreDifferent lefts → IsPartOf gone lefts
    → AreSame kept (all_numbered numbers lefts) → AreSame (map leaving (all_numbered numbers gone) ++ map coming (all_numbered numbers come)) changes → AreThere changes kept
all_there numbers lefts gone come kept changes different part same changes_same =
    let is_gone = gone_are (all_numbered numbers gone) (all_numbered numbers come) changes changes_same in
    record {
      sums = λ f.
          let a = same.sums f in
          let b = (without_gone gone lefts different part).sums (λ row. f (numbered numbers row)) in
          let c = (stay_rows numbers lefts gone kept changes same is_gone).sums f in
          let d = is_gone.sums f in
          omega (arith, a, b, c, d, sum_by-append f (staying changes kept) (gone_in changes), sum_by-append (λ row. f (numbered numbers row)) (without gone lefts) gone, sum_by-map f (numbered numbers) lefts, sum_by-map f (numbered numbers) (without gone lefts), sum_by-map f (numbered numbers) gone);
    }

changed_later : (numbers : List Cell → List ℤ) (lefts gone come later : List (List Cell)) (kept : List Member) (changes : List Change) → AreDifferent lefts → IsExact lefts gone come later
    → AreSame kept (all_numbered numbers lefts) → AreSame (map leaving (all_numbered numbers gone) ++ map coming (all_numbered numbers come)) changes → AreSame (changed changes kept) (all_numbered numbers later)
changed_later numbers lefts gone come later kept changes different exact same changes_same =
    let is_gone = gone_are (all_numbered numbers gone) (all_numbered numbers come) changes changes_same in
    let is_come = come_are (all_numbered numbers gone) (all_numbered numbers come) changes changes_same in
    let stays = stay_rows numbers lefts gone kept changes same is_gone in
    same-trans (changed changes kept) (all_numbered numbers (without gone lefts ++ come)) (all_numbered numbers later)
    (subst (λ (ms : List Member). AreSame (changed changes kept) ms) (sym (map-append (numbered numbers) (without gone lefts) come)) (same-append _ _ _ _ stays is_come))
    (same-map (numbered numbers) (without gone lefts ++ come) later (later_rows lefts gone come later different exact))

-- what is made under a key hangs on no order of the rows
made-in_any_order : (by : Grouping) (xs ys : List Member) (key : List ℤ) → AreSame xs ys → made_under by xs key ≡ made_under by ys key
made-in_any_order by xs ys key same =
    made_if_any-same by.collect _ _ (same-map (number_in (length by.keys)) _ _ (same-filter (λ m. has_key (length by.keys) key (coming m)) xs ys same))

-- rows that stand with the numbers that they have
all_are_numbered : (numbers : List Cell → List ℤ) (rows : List (List Cell)) → All (IsNumbered numbers) (all_numbered numbers rows)
all_are_numbered numbers [] = All-nil (IsNumbered numbers)
all_are_numbered numbers (row ∷ rows) = All-cons (IsNumbered numbers) (numbered numbers row) (all_numbered numbers rows) refl (all_are_numbered numbers rows)

pub kept_numbered : (numbers : List Cell → List ℤ) (lefts : List (List Cell)) (kept : List Member) → AreSame kept (all_numbered numbers lefts) → All (IsNumbered numbers) kept
kept_numbered numbers lefts kept same =
    all_part (IsNumbered numbers) kept (all_numbered numbers lefts) (record { sums = λ f. let is = same.sums f in omega (arith, is) }) (all_are_numbered numbers lefts)

pub gone_part : (numbers : List Cell → List ℤ) (lefts gone : List (List Cell)) (kept : List Member) → AreSame kept (all_numbered numbers lefts) → IsPartOf gone lefts → IsPartOf (all_numbered numbers gone) kept
gone_part numbers lefts gone kept same part = record {
  sums = λ f.
      let a = same.sums f in
      let b = part.sums (λ row. f (numbered numbers row)) in
      omega (arith, a, b, sum_by-map f (numbered numbers) gone, sum_by-map f (numbered numbers) lefts);
}

keys_of_stay : (width : ℕ) (changes : List Change) (kept come : List Member) → All IsKeyNumber (map (number_in width) kept) → All IsKeyNumber (map (number_in width) come) → AreSame (come_in changes) come → All IsKeyNumber (map (number_in width) (changed changes kept))
keys_of_stay width changes kept come keys more same =
    subst (All IsKeyNumber) (sym (map-append (number_in width) (staying changes kept) (come_in changes)))
    (All-append IsKeyNumber (map (number_in width) (staying changes kept)) (map (number_in width) (come_in changes)) (keys_kept (number_in width) (λ m. not (is_one_of (gone_in changes) m)) kept keys)
    (keys-same (map (number_in width) come) (map (number_in width) (come_in changes)) (same-map (number_in width) come (come_in changes) (same-sym (come_in changes) come same)) more))

none_where_same : (row : List Cell) (b : Bool) (rows : List (List Cell)) → b ≡ true → count_of row (cond b [] rows) ≡ 0
none_where_same row b rows is = ap (λ (c : Bool). count_of row (cond c [] rows)) is

-- under a key of no change the same is made
unturned : (by : Grouping) (kept : List Member) (changes : List Change) (key : List ℤ) → filter (has_key (length by.keys) key) changes ≡ [] → made_under by (changed changes kept) key ≡ made_under by kept key
unturned by kept changes key none =
    ap (λ (ms : List Member). made_if_any by.collect (map (number_in (length by.keys)) ms))
    (changed_under (length by.keys) key changes kept ∙ ap (λ (cs : List Change). under (length by.keys) key (changed cs kept)) none ∙ ap (under (length by.keys) key) (unchanged kept))

counted_turn : (row : List Cell) (one_key : Bool) (before after made : Option ℤ) (key : List ℤ) → (one_key ≡ false → after ≡ before) → cond one_key (count_of row (unless_same before after (rows_of_key key made))) 0 ≡ count_of row (unless_same before after (rows_of_key key made))
counted_turn row true before after made key same = refl
counted_turn row false before after made key same =
    sym (none_where_same row _ (rows_of_key key made) (ap (λ (o : Option ℤ). option_eq int_eq before o) (same refl) ∙ same_made before))

-- the rows of groups that go and come lead on
pub gains : (m : Meaning) (heads : Rows) (by : Grouping) (left : CellsDelta) (kept : List Member) (changes : List Change) (before out : CellsDelta) (lefts later : List (List Cell))
    → IsGrouped m heads by lefts kept → LeftsLead lefts left later
    → All IsKeyNumber (map (number_in (length by.keys)) (all_numbered (numbers_at m heads by) left.come.items))
    → AreSame (map leaving (all_numbered (numbers_at m heads by) left.gone.items) ++ map coming (all_numbered (numbers_at m heads by) left.come.items)) changes
    → TurnsAll by kept changes before out → GainsExact before out (group_rows m heads by lefts) (group_rows m heads by later)
gains m heads by left kept changes before out lefts later stands leads range same turns_all =
    let numbers = numbers_at m heads by in
    let w = length by.keys in
    let after = changed changes kept in
    let is_later = changed_later numbers lefts left.gone.items left.come.items later kept changes leads.different leads.exact stands.members same in
    let few : AreFewKeys (map (number_in w) kept) = record {
      keys = stands.keys;
      few = let a = length-same kept (all_numbered numbers lefts) stands.members in let b = stands.few in omega (arith, a, b, length-map kept (number_in w), length-map lefts (numbered numbers));
    } in
    let few_later : AreFewKeys (map (number_in w) after) = record {
      keys = keys_of_stay w changes kept (all_numbered numbers left.come.items) stands.keys range (come_are (all_numbered numbers left.gone.items) (all_numbered numbers left.come.items) changes same);
      few = let a = length-same after (all_numbered numbers later) is_later in let b = leads.few in omega (arith, a, b, length-map after (number_in w), length-map later (numbered numbers));
    } in
    let turns = turns_all (all_there numbers lefts left.gone.items left.come.items kept changes leads.different leads.exact.there stands.members same) few few_later in
    let apart = rising_from_pairs (λ one other. one ≢ other) turns.keys turns.different in
    let made_before : List ℤ → Option ℤ = λ key. made_under by kept key in
    let made_after : List ℤ → Option ℤ = λ key. made_under by after key in
    let other : (key : List ℤ) → is_one_key turns.keys key ≡ false → made_after key ≡ made_before key = λ key none. unturned by kept changes key (turns.all key none) in
    record {
      gone = flat_map (key_goes by kept after) turns.keys;
      come = flat_map (key_comes by kept after) turns.keys;
      gone_is = turns.gone;
      come_is = turns.come;
      exact = groups_exact (group_rows m heads by lefts) (flat_map (key_goes by kept after) turns.keys) (flat_map (key_comes by kept after) turns.keys) (group_rows m heads by later) made_before made_after
          (λ row. count_group_rows m heads by lefts row ∙ ap (λ (o : Option ℤ). count_of row (rows_of_key (key_in row) o)) (made-in_any_order by (all_numbered numbers lefts) kept (key_in row) (same-sym kept (all_numbered numbers lefts) stands.members)))
          (λ row. count_group_rows m heads by later row ∙ ap (λ (o : Option ℤ). count_of row (rows_of_key (key_in row) o)) (made-in_any_order by (all_numbered numbers later) after (key_in row) (same-sym after (all_numbered numbers later) is_later)))
          (λ row. count_keys row (key_goes by kept after) (λ key. only_its_turn row key (made_before key) (made_after key) (made_before key)) turns.keys apart
          ∙ counted_turn row (is_one_key turns.keys (key_in row)) (made_before (key_in row)) (made_after (key_in row)) (made_before (key_in row)) (key_in row) (other (key_in row)))
          (λ row. count_keys row (key_comes by kept after) (λ key. only_its_turn row key (made_before key) (made_after key) (made_after key)) turns.keys apart
          ∙ counted_turn row (is_one_key turns.keys (key_in row)) (made_before (key_in row)) (made_after (key_in row)) (made_after (key_in row)) (key_in row) (other (key_in row)));
    }

-- what is stored stands for the later rows
pub stored : (m : Meaning) (heads : Rows) (by : Grouping) (left : CellsDelta) (old come new : List Member) (lefts later : List (List Cell))
    → IsGrouped m heads by lefts old → LeftsLead lefts left later → come ≡ all_numbered (numbers_at m heads by) left.come.items → All IsKeyNumber (map (number_in (length by.keys)) come)
    → LeadsNumbered old left.gone.items come new → IsGrouped m heads by later new
stored m heads by left old come new lefts later stands leads come_is range numbered_leads =
    let numbers = numbers_at m heads by in
    let w = length by.keys in
    let gone = all_numbered numbers left.gone.items in
    let own = numbered_leads numbers (kept_numbered numbers lefts old stands.members) (gone_part numbers lefts left.gone.items old stands.members leads.exact.there) in
    let part : IsPartOf new (old ++ come) = record { sums = λ f. let a = own.sums f in omega (arith, a, sum_by-append f new gone) } in
    let P : Member → Type 0 = λ member. IsKeyNumber (number_in w member) in
    record {
      members = record {
        sums = λ f.
            let a = own.sums f in
            let b = stands.members.sums f in
            let c = leads.exact.leads.sums (λ row. f (numbered numbers row)) in
            let d : sum_by f come ≡ sum_by f (all_numbered numbers left.come.items) = ap (sum_by f) come_is in
            omega (arith, a, b, c, d, sum_by-append f old come, sum_by-append f new gone, sum_by-map f (numbered numbers) lefts, sum_by-map f (numbered numbers) later, sum_by-map f (numbered numbers) left.gone.items, sum_by-map f (numbered numbers) left.come.items, sum_by-append (λ row. f (numbered numbers row)) lefts left.come.items, sum_by-append (λ row. f (numbered numbers row)) later left.gone.items);
      };
      keys = onto w new (all_part P new (old ++ come) part (All-append P old come (from w old stands.keys) (from w come range)));
      few = leads.few;
    }
  where
    from : (w : ℕ) (ms : List Member) → All IsKeyNumber (map (number_in w) ms) → All (λ member. IsKeyNumber (number_in w member)) ms
    from w [] all = All-nil (λ member. IsKeyNumber (number_in w member))
    from w (x ∷ ms) all = All-cons (λ member. IsKeyNumber (number_in w member)) x ms (All-head IsKeyNumber (number_in w x) (map (number_in w) ms) all) (from w ms (All-tail IsKeyNumber (number_in w x) (map (number_in w) ms) all))

    onto : (w : ℕ) (ms : List Member) → All (λ member. IsKeyNumber (number_in w member)) ms → All IsKeyNumber (map (number_in w) ms)
    onto w [] all = All-nil IsKeyNumber
    onto w (x ∷ ms) all = All-cons IsKeyNumber (number_in w x) (map (number_in w) ms) (All-head (λ member. IsKeyNumber (number_in w member)) x ms all) (onto w ms (All-tail (λ member. IsKeyNumber (number_in w member)) x ms all))
