-- The groups of rows in another order.
use Rattle.std.proofs.Common.{◌≡◌, ℕ, ℤ, List, [], ◌∷◌, ◌++◌, map, Bool, true, false, cond, get_or, refl, sym, ◌∙◌, ap, subst, arith, ◌||◌}
use Rattle.std.specs.Prelude.{All, nat_lt, sum_by}
use Rattle.std.specs.Bool.{Decides}
use Rattle.std.specs.List.{list_any}
use Rattle.std.specs.Set.{is_member}
use Rattle.std.specs.declared.cmp.Ordering.TheVariants.{Less, Equal, Greater}
use Rattle.std.specs.Ordering.{int_cmp, int_eq, is_lt, is_eq}
use Rattle.std.specs.Cmp.{eq_by_cmp_equiv, int_cmp_total}
use Rattle.std.specs.Cmp.Rules.{signed_items}
use Rattle.std.specs.Cmp.Lexicographic.{lists_ties, lists_total, pointwise, slice_cmp}
use Rattle.std.proofs.lemmas.Bool.Decides.{Decides-at}
use Rattle.std.proofs.lemmas.List.Elements.{All-cons, All-head, All-tail}
use Rattle.std.proofs.lemmas.List.Sums.{sum_by-append}
use Rattle.std.proofs.lemmas.Map.Made.{is_member-Decides}
use Rattle.plan_rules.specs.declared.row.Part.{Part}
use Rattle.plan_rules.specs.declared.row.Part.TheVariants.{Num}
use Rattle.plan_rules.specs.declared.rule.Collect.{Collect}
use Rattle.plan_rules.specs.Meaning.{Meaning}
use Rattle.plan_rules.specs.Groups.{group_key, group_row, key_entered, keys_among, rows_with}
use Rattle.plan_rules.specs.Bags.{AreSame, Leads}
use Rattle.plan_rules.specs.Laws.{GroupsForgetOrder, OtherGroupsStay}
use Rattle.plan_rules.proofs.Collected.{collected-same, or-swap}
use Rattle.plan_rules.proofs.Nodes.{leads-filter}
use Rattle.plan_rules.proofs.Rising.{Rising}
use Rattle.plan_rules.proofs.RowOrder.{KeyBefore, keys-order, turned_round}
use Rattle.plan_rules.proofs.Sums.{list_any-counted, list_any-same, same-filter, sum_by-filter}

-- two keys have the same numbers
abbrev same_key : List ℤ → List ℤ → Bool
same_key one other = is_eq (slice_cmp int_cmp one other)

key_decides : (one other : List ℤ) → Decides (same_key one other) (one ≡ other)
key_decides one other = Decides-at (same_key one other) (pointwise int_eq one other) (sym (lists_ties int_cmp (λ x y. refl) one other)) (signed_items one other)

-- a key is among some
abbrev among : List (List ℤ) → List ℤ → Bool
among keys q = is_member same_key keys q

or-twice : (a b : Bool) → (a || b) ≡ (a || (a || b))
or-twice true b = refl
or-twice false b = refl

-- what is among keys after one is entered: that one, and those that were
entered-among : (key : List ℤ) (keys : List (List ℤ)) (q : List ℤ) → among (key_entered key keys) q ≡ (same_key q key || among keys q)
entered-among key [] q = refl
entered-among key (first ∷ rest) q =
    elim (slice_cmp int_cmp key first) as (λ o. slice_cmp int_cmp key first ≡ o → among (cond (is_lt o) (key ∷ first ∷ rest) (cond (is_eq o) (first ∷ rest) (first ∷ key_entered key rest))) q ≡ (same_key q key || (same_key q first || among rest q))) [
      | Less ↦ λ is. refl
      | Equal ↦ λ is.
          let same : key ≡ first = (key_decides key first).0 (ap is_eq is) in
          or-twice (same_key q first) (among rest q) ∙ ap (λ (k : List ℤ). same_key q k || (same_key q first || among rest q)) (sym same)
      | Greater ↦ λ is. ap (λ (b : Bool). same_key q first || b) (entered-among key rest q) ∙ or-swap (same_key q first) (same_key q key) (among rest q)
    ] refl

-- a key is among those of rows where some row has it
keys_among-has : (m : Meaning) (keys : List ℕ) (rows : List (List Part)) (q : List ℤ) → among (keys_among m keys rows) q ≡ list_any (λ row. same_key q (group_key m keys row)) rows
keys_among-has m keys [] q = refl
keys_among-has m keys (row ∷ rest) q = entered-among (group_key m keys row) (keys_among m keys rest) q ∙ ap (λ (b : Bool). same_key q (group_key m keys row) || b) (keys_among-has m keys rest q)

-- a key before all of some is none of them
none_before : (x : List ℤ) (keys : List (List ℤ)) → All (KeyBefore x) keys → among keys x ≡ false
none_before x [] all = refl
none_before x (key ∷ keys) all =
    let first : same_key x key ≡ false = ap is_eq (All-head (KeyBefore x) key keys all) in
    (λ i. first i || among keys x) ∙ none_before x keys (All-tail (KeyBefore x) key keys all)

-- a key before the first of increasing ones is none of them
none_below : (x y : List ℤ) (keys : List (List ℤ)) → KeyBefore x y → All (KeyBefore y) keys → among (y ∷ keys) x ≡ false
none_below x y keys below up =
    none_before x (y ∷ keys) (All-cons (KeyBefore x) y keys below (λ k d within. (lists_total int_cmp_total).trans x y (get_or keys k d) below (up k d within)))

itself_among : (x : List ℤ) (keys : List (List ℤ)) → among (x ∷ keys) x ≡ true
itself_among x keys = ap (λ (b : Bool). b || among keys x) ((key_decides x x).1 refl)

-- without one first key the others are among both
tails_same : (x : List ℤ) (xs ys : List (List ℤ)) → All (KeyBefore x) xs → All (KeyBefore x) ys → ((q : List ℤ) → among (x ∷ xs) q ≡ among (x ∷ ys) q) → (q : List ℤ) → among xs q ≡ among ys q
tails_same x xs ys up down same q =
    elim (same_key q x) as (λ b. same_key q x ≡ b → (b || among xs q) ≡ (b || among ys q) → among xs q ≡ among ys q) [
      | true ↦ λ is h.
          let here : q ≡ x = (key_decides q x).0 is in
          ap (among xs) here ∙ none_before x xs up ∙ sym (none_before x ys down) ∙ ap (among ys) (sym here)
      | false ↦ λ is h. h
    ] refl (same q)

-- increasing keys are the same where the same keys are among them
increasing_same : (xs ys : List (List ℤ)) → Rising KeyBefore xs → Rising KeyBefore ys → ((q : List ℤ) → among xs q ≡ among ys q) → xs ≡ ys
increasing_same [] [] up down same = refl
increasing_same [] (y ∷ ys) up down same = absurd (let no = same y ∙ itself_among y ys in cc)
increasing_same (x ∷ xs) [] up down same = absurd (let no = sym (same x) ∙ itself_among x xs in cc)
increasing_same (x ∷ xs) (y ∷ ys) up down same =
    elim (slice_cmp int_cmp x y) as (λ o. slice_cmp int_cmp x y ≡ o → x ∷ xs ≡ y ∷ ys) [
      | Less ↦ λ is. absurd (let no = sym (itself_among x xs) ∙ same x ∙ none_below x y ys is (down.0) in cc)
      | Equal ↦ λ is.
          let first : x ≡ y = (key_decides x y).0 (ap is_eq is) in
          let up' = subst (λ (k : List ℤ). All (KeyBefore k) ys) (sym first) (down.0) in
          let rest = increasing_same xs ys (up.1) (down.1) (tails_same x xs ys (up.0) up' (subst (λ (k : List ℤ). (q : List ℤ) → among (x ∷ xs) q ≡ among (k ∷ ys) q) (sym first) same)) in
          λ i. first i ∷ rest i
      | Greater ↦ λ is. absurd (let no = sym (itself_among y ys) ∙ sym (same y) ∙ none_below y x xs (turned_round x y is) (up.0) in cc)
    ] refl

keys-same : (m : Meaning) (keys : List ℕ) (rows others : List (List Part)) → AreSame rows others → keys_among m keys rows ≡ keys_among m keys others
keys-same m keys rows others same =
    increasing_same (keys_among m keys rows) (keys_among m keys others) (keys-order m keys rows) (keys-order m keys others)
    (λ q. keys_among-has m keys rows q ∙ list_any-same (λ row. same_key q (group_key m keys row)) rows others same ∙ sym (keys_among-has m keys others q))

-- the row of a key where its rows are the same but for their order
group_row-same : (m : Meaning) (keys : List ℕ) (collect : Collect) (rows others : List (List Part)) (key : List ℤ) → AreSame (rows_with m keys rows key) (rows_with m keys others key) → group_row m keys collect rows key ≡ group_row m keys collect others key
group_row-same m keys collect rows others key same = ap (λ (n : ℤ). map (λ k. Num k) key ++ Num n ∷ []) (collected-same m collect (rows_with m keys rows key) (rows_with m keys others key) same)

pub groups_forget_order : GroupsForgetOrder
groups_forget_order m keys collect rows others same =
    ap (map (group_row m keys collect rows)) (keys-same m keys rows others same)
    ∙ (λ i. map (λ key. group_row-same m keys collect rows others key (same-filter (λ row. same_key (group_key m keys row) key) rows others same) i) (keys_among m keys others))

-- where no row that went or came has a key, the old rows with it are the new ones
with_key_same : (m : Meaning) (keys : List ℕ) (old gone come new : List (List Part)) (key : List ℤ) → Leads old gone come new → rows_with m keys gone key ≡ [] → rows_with m keys come key ≡ [] → AreSame (rows_with m keys old key) (rows_with m keys new key)
with_key_same m keys old gone come new key leads none_gone none_come = record {
  sums = λ f.
      let is = (leads-filter (λ row. same_key (group_key m keys row) key) old gone come new leads).sums f in
      let went : sum_by f (rows_with m keys gone key) ≡ 0 = ap (sum_by f) none_gone in
      let came : sum_by f (rows_with m keys come key) ≡ 0 = ap (sum_by f) none_come in
      omega (arith, sum_by-append f (rows_with m keys old key) (rows_with m keys come key), sum_by-append f (rows_with m keys new key) (rows_with m keys gone key));
}

-- a key is among those of rows where there are rows with it
among-counted : (m : Meaning) (keys : List ℕ) (rows : List (List Part)) (key : List ℤ) → among (keys_among m keys rows) key ≡ nat_lt 0 (sum_by (λ row. 1) (rows_with m keys rows key))
among-counted m keys rows key =
    let has : List Part → Bool = λ row. same_key (group_key m keys row) key in
    keys_among-has m keys rows key
    ∙ (λ i. list_any (λ row. (eq_by_cmp_equiv (lists_total int_cmp_total)).symm key (group_key m keys row) i) rows)
    ∙ list_any-counted has rows
    ∙ ap (nat_lt 0) (sym (sum_by-filter (λ row. 1) has rows))

pub other_groups_stay : OtherGroupsStay
other_groups_stay m keys collect old gone come new key leads none_gone none_come =
    let same = with_key_same m keys old gone come new key leads none_gone none_come in
    let alike = among-counted m keys old key ∙ ap (nat_lt 0) (same.sums (λ row. 1)) ∙ sym (among-counted m keys new key) in
    let in_old = is_member-Decides key_decides (keys_among m keys old) key in
    let in_new = is_member-Decides key_decides (keys_among m keys new) key in
    ((λ there. in_new.0 (sym alike ∙ in_old.1 there), λ there. in_old.0 (alike ∙ in_new.1 there)), group_row-same m keys collect old new key same)
