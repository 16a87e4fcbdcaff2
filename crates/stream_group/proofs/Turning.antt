-- Groups that turn, one run of changes after the other.
use Rattle.std.proofs.Common.{◌≡◌, ◌<◌, ◌≤◌, ◌-◌, ◌∙◌, ◌||◌, ℕ, ℤ, Bool, true, false, cond, not, List, [], ◌∷◌, ◌++◌, Some, None, slice_get, map, drop, length, take, filter, refl, ap, sym, subst, append_assoc, arith}
use Rattle.std.specs.Prelude.{All, Contains, ◌≢◌, take_while}
use Rattle.std.specs.List.{flat_map}
use Rattle.std.proofs.lemmas.List.{append-nil, length-append, length-drop, length-take, take-append-drop, take_all}
use Rattle.std.proofs.lemmas.List.Elements.{All-cons, All-head, All-tail, Contains-get_or, filter-append}
use Rattle.std.proofs.lemmas.List.Folds.{list_any-append}
use Rattle.std.proofs.lemmas.List.Quantifiers.{all_pairs_push}
use Rattle.std.proofs.lemmas.List.Sums.{take_while-cons}
use Rattle.std.proofs.lemmas.Grind.{flat_map-append}
use Rattle.std.proofs.lemmas.Map.Made.{is_member-Decides}
use Rattle.plan_rules.specs.Bags.{AreDifferent}
use Rattle.plan_rules.specs.Meaning.{IsKeyNumber}
use Rattle.plan_rules.proofs.Sums.{same-filter}
use Rattle.stream_index.specs.Key.{key_eq}
use Rattle.stream_heads.specs.declared.cells.Cell.{Cell}
use Rattle.stream_heads.specs.declared.delta.CellsDelta.{CellsDelta}
use Rattle.stream_heads.specs.declared.member.Member.{Member}
use Rattle.stream_heads.specs.MemberEquality.{member_decides, same_member}
use Rattle.stream_group.specs.declared.change.Change.{Change}
use Rattle.stream_group.specs.declared.grouping.Grouping.{Grouping}
use Rattle.stream_group.specs.Collected.{AreFewKeys, made_if_any}
use Rattle.stream_group.specs.Keyed.{AreThere, AreThereUnder, change_key, changed, come_in, gone_in, has_key, is_one_of, number_in, staying, under}
use Rattle.stream_group.specs.Turns.{TurnsAll, TurnsKey, is_one_key, key_comes, key_goes, made_under, numbers_under, rows_of_key, unless_same}
use Rattle.stream_group.proofs.Collecting.{length-same}
use Rattle.stream_group.proofs.KeyCounts.{key_decides}
use Rattle.stream_group.proofs.Listed.{come_under, gone_under}
use Rattle.stream_group.proofs.Runs.{InOrder, first_key, order_rest, run_is, run_passes, taken_run}

-- a filter of a test that agrees
filter-same : {X : Type 0} (p q : X → Bool) (xs : List X) → ((x : X) → p x ≡ q x) → filter p xs ≡ filter q xs
filter-same p q xs same = λ i. filter (λ x. same x i) xs

-- a test that agrees wherever another one passes
pub filter_where : {X : Type 0} (p q r : X → Bool) (xs : List X) → ((x : X) → p x ≡ true → q x ≡ r x) → filter p (filter q xs) ≡ filter p (filter r xs)
filter_where p q r [] same = refl
filter_where {X} p q r (x ∷ xs) same =
    let rest = filter_where p q r xs same in
    elim (p x) as (λ b. p x ≡ b → filter p (cond (q x) (x ∷ filter q xs) (filter q xs)) ≡ filter p (cond (r x) (x ∷ filter r xs) (filter r xs))) [
      | true ↦ λ is. (λ i. filter p (cond (same x is i) (x ∷ filter q xs) (filter q xs)))
          ∙ elim (r x) as (λ c. filter p (cond c (x ∷ filter q xs) (filter q xs)) ≡ filter p (cond c (x ∷ filter r xs) (filter r xs))) [ true ↦ (λ i. cond (p x) (x ∷ rest i) (rest i)) | false ↦ rest ]
      | false ↦ λ no. left_out p x no (q x) (filter q xs) ∙ rest ∙ sym (left_out p x no (r x) (filter r xs))
    ] refl
  where
    left_out : {X : Type 0} (p : X → Bool) (x : X) → p x ≡ false → (c : Bool) (ys : List X) → filter p (cond c (x ∷ ys) ys) ≡ filter p ys
    left_out p x out true ys = ap (λ (b : Bool). cond b (x ∷ filter p ys) (filter p ys)) out
    left_out p x out false ys = refl

kept_all : {X : Type 0} (xs : List X) → filter (λ x. true) xs ≡ xs
kept_all [] = refl
kept_all {X} (x ∷ xs) = ap (λ (ys : List X). x ∷ ys) (kept_all xs)

kept_none : {X : Type 0} (xs : List X) → filter (λ x. false) xs ≡ []
kept_none [] = refl
kept_none (x ∷ xs) = kept_none xs

filter-again : {X : Type 0} (p : X → Bool) (xs : List X) → filter p (filter p xs) ≡ filter p xs
filter-again p xs = filter_where p p (λ x. true) xs (λ x is. is) ∙ ap (filter p) (kept_all xs)

gone-comes : (x : Change) (xs : List Change) → x.comes ≡ true → gone_in (x ∷ xs) ≡ gone_in xs
gone-comes x xs comes = ap (λ (b : Bool). map (λ (c : Change). c.member) (cond (not b) (x ∷ filter (λ (c : Change). not c.comes) xs) (filter (λ (c : Change). not c.comes) xs))) comes

gone-goes : (x : Change) (xs : List Change) → x.comes ≡ false → gone_in (x ∷ xs) ≡ x.member ∷ gone_in xs
gone-goes x xs goes = ap (λ (b : Bool). map (λ (c : Change). c.member) (cond (not b) (x ∷ filter (λ (c : Change). not c.comes) xs) (filter (λ (c : Change). not c.comes) xs))) goes

-- only a row with the same numbers is the same
gone_with : (width : ℕ) (key : List ℤ) (member : Member) (changes : List Change) → key_eq (take width member.numbers) key ≡ true → is_one_of (gone_in changes) member ≡ is_one_of (gone_in (filter (has_key width key) changes)) member
gone_with width key member [] is = refl
gone_with width key member (x ∷ changes) is =
    let rest = gone_with width key member changes is in
    let under_key = filter (has_key width key) changes in
    elim x.comes as (λ b. x.comes ≡ b → is_one_of (gone_in (x ∷ changes)) member ≡ is_one_of (gone_in (cond (has_key width key x) (x ∷ under_key) under_key)) member) [
      | true ↦ λ comes. ap (λ (ms : List Member). is_one_of ms member) (gone-comes x changes comes) ∙ rest
          ∙ elim (has_key width key x) as (λ c. is_one_of (gone_in under_key) member ≡ is_one_of (gone_in (cond c (x ∷ under_key) under_key)) member) [
            | true ↦ ap (λ (ms : List Member). is_one_of ms member) (sym (gone-comes x under_key comes))
            | false ↦ refl
          ]
      | false ↦ λ goes. ap (λ (ms : List Member). is_one_of ms member) (gone-goes x changes goes)
          ∙ elim (has_key width key x) as (λ c. has_key width key x ≡ c → (same_member member x.member || is_one_of (gone_in changes) member) ≡ is_one_of (gone_in (cond c (x ∷ under_key) under_key)) member) [
            | true ↦ λ has. ap (λ (b : Bool). same_member member x.member || b) rest ∙ ap (λ (ms : List Member). is_one_of ms member) (sym (gone-goes x under_key goes))
            | false ↦ λ no.
                let unlike : same_member member x.member ≡ false = elim (same_member member x.member) as (λ b. same_member member x.member ≡ b → b ≡ false) [
                  | true ↦ λ same.
                      let yes : key_eq (take width x.member.numbers) key ≡ true = ap (λ (m : Member). key_eq (take width m.numbers) key) (sym ((member_decides member x.member).0 same)) ∙ is in
                      sym yes ∙ no
                  | false ↦ λ other. refl
                ] refl in
                (λ i. unlike i || is_one_of (gone_in changes) member) ∙ rest
          ] refl
    ] refl

-- under a key only the changes with that key tell
pub changed_under : (width : ℕ) (key : List ℤ) (changes : List Change) (members : List Member) → under width key (changed changes members) ≡ under width key (changed (filter (has_key width key) changes) members)
changed_under width key changes members =
    let p : Member → Bool = λ m. key_eq (take width m.numbers) key in
    let under_key = filter (has_key width key) changes in
    filter-append p (staying changes members) (come_in changes)
    ∙ (λ i. filter_where p (λ m. not (is_one_of (gone_in changes) m)) (λ m. not (is_one_of (gone_in under_key) m)) members (λ m is. ap not (gone_with width key m changes is)) i
    ++ (come_under width key changes ∙ ap come_in (sym (filter-again (has_key width key) changes)) ∙ sym (come_under width key under_key)) i)
    ∙ sym (filter-append p (staying under_key members) (come_in under_key))

-- where the rows that go are there, under a key there are as many as stay of its changes and go by them
pub there_under : (width : ℕ) (key : List ℤ) (changes run : List Change) (members : List Member) → AreThere changes members → filter (has_key width key) changes ≡ run → AreThereUnder width key run members
there_under width key changes run members there is =
    let p : Member → Bool = λ m. key_eq (take width m.numbers) key in
    let under_key = filter (has_key width key) changes in
    let stay : filter p (staying changes members) ≡ filter p (staying run members) =
    filter_where p (λ m. not (is_one_of (gone_in changes) m)) (λ m. not (is_one_of (gone_in under_key) m)) members (λ m is. ap not (gone_with width key m changes is))
    ∙ ap (λ (cs : List Change). filter p (staying cs members)) is in
    let go : filter p (gone_in changes) ≡ gone_in run = gone_under width key changes ∙ ap gone_in is in
    length-same (filter p members) (filter p (staying changes members ++ gone_in changes)) (same-filter p members (staying changes members ++ gone_in changes) there)
    ∙ ap (λ (ms : List Member). length ms) (filter-append p (staying changes members) (gone_in changes) ∙ (λ i. stay i ++ go i))
    ∙ length-append (filter p (staying run members)) (gone_in run)

pub keys_kept : (f : Member → ℤ) (p : Member → Bool) (ms : List Member) → All IsKeyNumber (map f ms) → All IsKeyNumber (map f (filter p ms))
keys_kept f p [] all = all
keys_kept f p (m ∷ ms) all =
    let rest = keys_kept f p ms (All-tail IsKeyNumber (f m) (map f ms) all) in
    elim (p m) as (λ b. All IsKeyNumber (map f (cond b (m ∷ filter p ms) (filter p ms)))) [
      | true ↦ All-cons IsKeyNumber (f m) (map f (filter p ms)) (All-head IsKeyNumber (f m) (map f ms) all) rest
      | false ↦ rest
    ]

kept_few : (f : Member → ℤ) (p : Member → Bool) (ms : List Member) → length (map f (filter p ms)) ≤ length (map f ms)
kept_few f p [] = omega arith
kept_few f p (m ∷ ms) =
    let rest = kept_few f p ms in
    elim (p m) as (λ b. length (map f (cond b (m ∷ filter p ms) (filter p ms))) ≤ length (map f (m ∷ ms))) [ true ↦ omega (arith, rest) | false ↦ omega (arith, rest) ]

-- some of few keys' numbers
pub few_under : (width : ℕ) (members : List Member) (key : List ℤ) → AreFewKeys (map (number_in width) members) → AreFewKeys (numbers_under width members key)
few_under width members key few =
    let p : Member → Bool = λ m. key_eq (take width m.numbers) key in
    record {
      keys = keys_kept (number_in width) p members few.keys;
      few = let le = few.few in let short = kept_few (number_in width) p members in omega (arith, le, short);
    }

no_item : {X : Type 0} (xs ys : List X) → xs ≡ xs ++ ys → ys ≡ []
no_item xs [] is = refl
no_item {X} xs (y ∷ ys) is = absurd (let long = ap (λ (zs : List X). length zs) is in omega (arith, long, length-append xs (y ∷ ys)))

back_none : {X : Type 0} (xs ys : List X) → xs ++ ys ≡ [] → ys ≡ []
back_none [] ys is = is
back_none (x ∷ xs) ys is = absurd (let no = is in cc)

neither : (a b : Bool) → (a || (b || false)) ≡ false → (a ≡ false) × (b ≡ false)
neither true b is = absurd (let no : true ≡ false = is in cc)
neither false true is = absurd (let no : true ≡ false = is in cc)
neither false false is = (refl, refl)

-- the groups of the changes that stand first have turned
pub record Turned (by : Grouping) (members : List Member) (changes rest : List Change) (before after : CellsDelta) : Type 0 where
  pub front : List Change
  pub keys : List (List ℤ)
  pub parts : changes ≡ front ++ rest
  pub different : AreDifferent keys
  pub known : (key : List ℤ) → is_one_key keys key ≡ false → filter (has_key (length by.keys) key) front ≡ []
  pub apart : (key : List ℤ) → is_one_key keys key ≡ true → filter (has_key (length by.keys) key) rest ≡ []
  pub rows : AreThere changes members → AreFewKeys (map (number_in (length by.keys)) members) → AreFewKeys (map (number_in (length by.keys)) (changed changes members))
      → (after.gone.items ≡ before.gone.items ++ flat_map (key_goes by members (changed changes members)) keys)
      × (after.come.items ≡ before.come.items ++ flat_map (key_comes by members (changed changes members)) keys)

pub none_turned : (by : Grouping) (members : List Member) (changes : List Change) (before : CellsDelta) → Turned by members changes changes before before
none_turned by members changes before = record {
  front = [];
  keys = [];
  parts = refl;
  different = λ i j d below within. absurd (omega (arith, within));
  known = λ key is. refl;
  apart = λ key is. absurd (let no : false ≡ true = is in cc);
  rows = λ there few few_later. (sym (append-nil before.gone.items), sym (append-nil before.come.items));
}

pub all_turned : (by : Grouping) (members : List Member) (changes rest : List Change) (before after : CellsDelta) → rest ≡ [] → Turned by members changes rest before after → TurnsAll by members changes before after
all_turned by members changes rest before after none turned = λ there few few_later. record {
  keys = turned.keys;
  different = turned.different;
  all = λ key is. ap (filter (has_key (length by.keys) key)) (turned.parts ∙ ap (λ (xs : List Change). turned.front ++ xs) none ∙ append-nil turned.front) ∙ turned.known key is;
  gone = (turned.rows there few few_later).0;
  come = (turned.rows there few few_later).1;
}

module _ (by : Grouping) (members : List Member) (changes : List Change) (x : Change) (rest : List Change) (before mid after : CellsDelta) where
  abbrev width : ℕ
  width = length by.keys

  abbrev key : List ℤ
  key = change_key width x

  abbrev run : List Change
  run = take (length (take_while (has_key width key) (x ∷ rest))) (x ∷ rest)

  abbrev others : List Change
  others = drop (length (take_while (has_key width key) (x ∷ rest))) (x ∷ rest)

  -- the changes of a run have its key
  pub run_has : filter (has_key width key) run ≡ run
  run_has = subst (λ (xs : List Change). filter (has_key width key) xs ≡ xs) (sym (taken_run (has_key width key) (x ∷ rest))) (run_passes (has_key width key) (x ∷ rest))

  split : x ∷ rest ≡ run ++ others
  split = sym (take-append-drop (length (take_while (has_key width key) (x ∷ rest))) (x ∷ rest))

  no_more : InOrder width (x ∷ rest) → filter (has_key width key) others ≡ []
  no_more up =
      let all = run_is width key (x ∷ rest) up (first_key width x rest up) ∙ sym (taken_run (has_key width key) (x ∷ rest)) in
      no_item run (filter (has_key width key) others) (sym all ∙ ap (filter (has_key width key)) split ∙ filter-append (has_key width key) run others ∙ ap (λ (xs : List Change). xs ++ filter (has_key width key) others) run_has)

  -- one run more
  pub turned_more : InOrder width changes → Turned by members changes (x ∷ rest) before mid → TurnsKey by members run key mid after → Turned by members changes others before after
  turned_more sorted turned turns =
      let up = order_rest width turned.front (x ∷ rest) (subst (InOrder width) turned.parts sorted) in
      let own : has_key width key x ≡ true = (key_decides key key).1 refl in
      let fresh : is_one_key turned.keys key ≡ false = elim (is_one_key turned.keys key) as (λ b. is_one_key turned.keys key ≡ b → b ≡ false) [
        | true ↦ λ there. absurd (let none : x ∷ filter (has_key width key) rest ≡ [] = ap (λ (b : Bool). cond b (x ∷ filter (has_key width key) rest) (filter (has_key width key) rest)) (sym own) ∙ turned.apart key there in cc)
        | false ↦ λ is. refl
      ] refl in
      let in_run : filter (has_key width key) changes ≡ run =
      ap (filter (has_key width key)) (turned.parts ∙ ap (λ (xs : List Change). turned.front ++ xs) split)
      ∙ filter-append (has_key width key) turned.front (run ++ others)
      ∙ (λ i. turned.known key fresh i ++ (filter-append (has_key width key) run others ∙ (λ j. run_has j ++ no_more up j) ∙ append-nil run) i) in
      let later = changed changes members in
      let alike : under width key (changed run members) ≡ under width key later =
      ap (λ (cs : List Change). under width key (changed cs members)) (sym in_run) ∙ sym (changed_under width key changes members) in
      let same : numbers_under width (changed run members) key ≡ numbers_under width later key = ap (map (number_in width)) alike in
      let among : (q : List ℤ) → is_one_key (turned.keys ++ key ∷ []) q ≡ (is_one_key turned.keys q || (key_eq q key || false)) = λ q. list_any-append (key_eq q) turned.keys (key ∷ []) in
      record {
        front = turned.front ++ run;
        keys = turned.keys ++ key ∷ [];
        parts = turned.parts ∙ ap (λ (xs : List Change). turned.front ++ xs) split ∙ sym (append_assoc turned.front run others);
        different = all_pairs_push (λ one other. one ≢ other) turned.keys key turned.different (λ k d within is.
            let there = (is_member-Decides key_decides turned.keys key).1 (subst (Contains turned.keys) is (Contains-get_or turned.keys k d within)) in
            let no : true ≡ false = sym there ∙ fresh in cc);
        known = λ q is.
            let both = neither (is_one_key turned.keys q) (key_eq q key) (sym (among q) ∙ is) in
            filter-append (has_key width q) turned.front run
            ∙ (λ i. turned.known q both.0 i ++ (ap (filter (has_key width q)) (sym run_has) ∙ filter_where (has_key width q) (has_key width key) (λ c. false) run (λ c has.
            ap (λ (k : List ℤ). key_eq k key) ((key_decides (change_key width c) q).0 has) ∙ both.1) ∙ ap (filter (has_key width q)) (kept_none run)) i);
        apart = λ q is. elim (is_one_key turned.keys q) as (λ b. is_one_key turned.keys q ≡ b → filter (has_key width q) others ≡ []) [
          | true ↦ λ there. back_none (filter (has_key width q) run) (filter (has_key width q) others) (sym (filter-append (has_key width q) run others) ∙ ap (filter (has_key width q)) (sym split) ∙ turned.apart q there)
          | false ↦ λ not_there. elim (key_eq q key) as (λ b. key_eq q key ≡ b → filter (has_key width q) others ≡ []) [
            | true ↦ λ here. ap (λ (k : List ℤ). filter (has_key width k) others) ((key_decides q key).0 here) ∙ no_more up
            | false ↦ λ not_here. absurd (let no : true ≡ false = sym is ∙ among q ∙ (λ i. not_there i || (not_here i || false)) in cc)
          ] refl
        ] refl;
        rows = λ there few few_later.
            let was = turned.rows there few few_later in
            let now = turns (there_under width key changes run members there in_run) (few_under width members key few) (subst AreFewKeys (sym same) (few_under width later key few_later)) in
            let made : made_under by (changed run members) key ≡ made_under by later key = ap (made_if_any by.collect) same in (
              joined (key_goes by members later) before.gone.items mid.gone.items after.gone.items turned.keys key was.0 (now.0 ∙ ap (λ m. mid.gone.items ++ unless_same (made_under by members key) m (rows_of_key key (made_under by members key))) made),
              joined (key_comes by members later) before.come.items mid.come.items after.come.items turned.keys key was.1 (now.1 ∙ ap (λ m. mid.come.items ++ unless_same (made_under by members key) m (rows_of_key key m)) made),
            );
      }
    where
      joined : (g : List ℤ → List (List Cell)) (a b c : List (List Cell)) (keys : List (List ℤ)) (k : List ℤ) → b ≡ a ++ flat_map g keys → c ≡ b ++ g k → c ≡ a ++ flat_map g (keys ++ k ∷ [])
      joined g a b c keys k one two =
          two ∙ ap (λ (xs : List (List Cell)). xs ++ g k) one ∙ append_assoc a (flat_map g keys) (g k)
          ∙ ap (λ (xs : List (List Cell)). a ++ (flat_map g keys ++ xs)) (sym (append-nil (g k)))
          ∙ ap (λ (xs : List (List Cell)). a ++ xs) (sym (flat_map-append g keys (k ∷ [])))

some_same : {X : Type 0} {x y : X} → Some x ≡ Some y → x ≡ y
some_same is = cc

-- a run of the first change's key, of which there is one, and what stands behind it
pub run_of : (width : ℕ) (rest : List Change) (key : List ℤ) (len : ℕ) → len ≡ length (take_while (has_key width key) rest) → filter (has_key width key) (take len rest) ≡ take len rest
run_of width rest key len is =
    subst (λ (n : ℕ). filter (has_key width key) (take n rest) ≡ take n rest) (sym is)
    (subst (λ (xs : List Change). filter (has_key width key) xs ≡ xs) (sym (taken_run (has_key width key) rest)) (run_passes (has_key width key) rest))

pub none_left : (rest : List Change) → slice_get rest 0 ≡ None → rest ≡ []
none_left [] is = refl
none_left (x ∷ rest) is = absurd (let no : Some x ≡ None = is in cc)

some_run : (p : Change → Bool) (x : Change) (xs : List Change) → p x ≡ true → 0 < length (take_while p (x ∷ xs))
some_run p x xs is = subst (λ (ys : List Change). 0 < length ys) (sym (take_while-cons p x xs)) (subst (λ (b : Bool). 0 < length (cond b (x ∷ take_while p xs) [])) (sym is) (omega arith))

pub fewer_left : (width : ℕ) (rest : List Change) (x : Change) (len : ℕ) → slice_get rest 0 ≡ Some x → len ≡ length (take_while (has_key width (change_key width x)) rest) → length (take (length rest - len) (drop len rest)) < length rest
fewer_left width [] x len first is = absurd (let no : None ≡ Some x = first in cc)
fewer_left width (y ∷ rest) x len first is =
    let same : y ≡ x = some_same first in
    let own : has_key width (change_key width x) y ≡ true = (key_decides (change_key width y) (change_key width x)).1 (ap (change_key width) same) in
    let some = some_run (has_key width (change_key width x)) y rest own in
    omega (arith, is, some, length-take (length (y ∷ rest) - len) (drop len (y ∷ rest)), length-drop len (y ∷ rest))

pub turn_step : (by : Grouping) (members : List Member) (changes rest : List Change) (x : Change) (len : ℕ) (before mid after : CellsDelta) → slice_get rest 0 ≡ Some x
    → len ≡ length (take_while (has_key (length by.keys) (change_key (length by.keys) x)) rest) → InOrder (length by.keys) changes → Turned by members changes rest before mid
    → TurnsKey by members (take len rest) (change_key (length by.keys) x) mid after → Turned by members changes (take (length rest - len) (drop len rest)) before after
turn_step by members changes [] x len before mid after first is sorted turned turns = absurd (let no : None ≡ Some x = first in cc)
turn_step by members changes (y ∷ rest) x len before mid after first is sorted turned turns =
    let w = length by.keys in
    let same : x ≡ y = sym (some_same first) in
    let len_is : len ≡ length (take_while (has_key w (change_key w y)) (y ∷ rest)) = is ∙ ap (λ (z : Change). length (take_while (has_key w (change_key w z)) (y ∷ rest))) same in
    let all : take (length (y ∷ rest) - len) (drop len (y ∷ rest)) ≡ drop len (y ∷ rest) = take_all (length (y ∷ rest) - len) (drop len (y ∷ rest)) (omega (arith, length-drop len (y ∷ rest))) in
    let turns' = subst (λ (n : ℕ). TurnsKey by members (take n (y ∷ rest)) (change_key w y) mid after) len_is (subst (λ (z : Change). TurnsKey by members (take len (y ∷ rest)) (change_key w z) mid after) same turns) in
    let step = turned_more by members changes y rest before mid after sorted turned turns' in
    subst (λ (xs : List Change). Turned by members changes xs before after) (ap (λ (n : ℕ). drop n (y ∷ rest)) (sym len_is) ∙ sym all) step
