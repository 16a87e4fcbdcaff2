-- A network without records is one of its rules, and stands for no facts.
use Rattle.std.proofs.Common.{◌≡◌, ◌<◌, ◌≤◌, ◌+◌, ◌∙◌, ℕ, zero, suc, add-one, Bool, true, false, List, [], ◌∷◌, ◌++◌, All, Option, None, Some, cond, get_or, length, map, take, refl, sym, ap, subst, arith}
use Rattle.std.specs.Prelude.{⊤, IfSome, slice_get}
use Rattle.std.proofs.lemmas.Option.{slice_get-get_or}
use Rattle.std.specs.FinMap as finmap
use Rattle.std.specs.List.{AllZip, list_any}
use Rattle.std.specs.Ordering.{nat_cmp}
use Rattle.std.proofs.lemmas.List.{append_assoc}
use Rattle.std.proofs.lemmas.List.Elements.{All-append, All-cons, All-head, All-nil, All-tail}
use Rattle.plan_facts.specs.declared.record.ClassDef.{ClassDef}
use Rattle.plan_facts.specs.declared.record.Rec.{Rec}
use Rattle.plan_rules.specs.declared.places.Numbers.{Numbers}
use Rattle.plan_rules.specs.declared.row.Part.{Part}
use Rattle.plan_rules.specs.declared.rule.Harder.{Harder}
use Rattle.plan_rules.specs.declared.rule.Head.{Head}
use Rattle.plan_rules.specs.declared.rule.Head.TheVariants as head
use Rattle.plan_rules.specs.declared.rule.Joiner.{Joiner}
use Rattle.plan_rules.specs.declared.rule.Node.{Node}
use Rattle.plan_rules.specs.declared.rule.Node.TheVariants as node
use Rattle.plan_rules.specs.declared.rule.RuleDef.{RuleDef}
use Rattle.plan_rules.specs.Bags.{AreSame}
use Rattle.plan_rules.specs.Faults.{rules_fault}
use Rattle.plan_rules.specs.Meaning.{IsKeyNumber, Meaning}
use Rattle.plan_rules.specs.Named.{head_class, node_class}
use Rattle.plan_rules.specs.Sound.{IsSound, IsSoundNode}
use Rattle.plan_rules.proofs.Accepted.{sound_rules}
use Rattle.tuple_store.specs.View.{StoreView}
use Rattle.stream_heads.specs.declared.cells.Cell.{Cell}
use Rattle.stream_heads.specs.Meant.{Rows}
use Rattle.stream_heads.specs.Sides.{all_numbered}
use Rattle.join_keys.specs.Keys.{is_test}
use Rattle.stream_join.specs.Join.{IsJoin, no_rows}
use Rattle.stream_join.specs.Nodes.{empty_pairs}
use Rattle.stream_join.proofs.Starts.{values_empty}
use Rattle.stream_exists.specs.Nodes.{exists_of}
use Rattle.stream_exists.specs.Paired.{kept_pairs, left_key}
use Rattle.stream_exists.specs.Standing.{StandsFor}
use Rattle.stream_end.specs.Ends.{EndView, IsWeighed}
use Rattle.stream_end.specs.Weights.{IsWeight}
use Rattle.head_changes.specs.declared.changes.ClassChange.{ClassChange}
use Rattle.head_changes.specs.Takers.{HeadsHold, Takers}
use Rattle.score_director.specs.declared.node.Kind.TheVariants as kind
use Rattle.score_director.specs.declared.node.NetNode.{NetNode}
use Rattle.score_director.specs.declared.rule.RuleAhead.{RuleAhead}
use Rattle.score_director.specs.declared.rule.RuleNet.{RuleNet}
use Rattle.score_director.specs.Chain.{ChainHolds, KnowsClass, stations}
use Rattle.score_director.specs.Fresh.{FreshNetsStandForNothing, IsFreshRule, fresh_node, head_nodes, no_facts, rule_nodes}
use Rattle.score_director.specs.Net.{RulesHold}
use Rattle.score_director.specs.NetState.{IsNet}
use Rattle.score_director.specs.Nodes.{KindHolds, is_open, is_torn, station_of}
use Rattle.score_director.specs.Rule.{HasPlaces, IsNetOf, IsRuleIdle, IsRuleWhole, KnowsClasses, RuleHolds, end_cells}
use Rattle.score_director.specs.Stations as station
use Rattle.score_director.specs.Stations.{Station, cells_after, cells_behind, head_cells, head_stations}

-- no record takes part
abbrev none : Takers
none class nulls = []

-- what holds of the members of two lists beside each other holds of other members for them
zip_weaker : {X Y : Type 0} (R S : X → Y → Type 0) → ((x : X) (y : Y) → R x y → S x y) → (xs : List X) (ys : List Y) → AllZip R xs ys → AllZip S xs ys
zip_weaker R S step [] [] pairs = tt
zip_weaker R S step [] (y ∷ ys) pairs = absurd pairs
zip_weaker R S step (x ∷ xs) [] pairs = absurd pairs
zip_weaker R S step (x ∷ xs) (y ∷ ys) pairs = (step x y pairs.0, zip_weaker R S step xs ys pairs.1)

zip_right : {X Y : Type 0} (R : X → Y → Type 0) (P : X → Type 0) (Q : Y → Type 0) → ((x : X) (y : Y) → P x → R x y → Q y)
    → (xs : List X) (ys : List Y) → All P xs → AllZip R xs ys → All Q ys
zip_right R P Q step [] [] all pairs = All-nil Q
zip_right R P Q step [] (y ∷ ys) all pairs = absurd pairs
zip_right R P Q step (x ∷ xs) [] all pairs = absurd pairs
zip_right R P Q step (x ∷ xs) (y ∷ ys) all pairs =
    All-cons Q y ys (step x y (All-head P x xs all) pairs.0) (zip_right R P Q step xs ys (All-tail P x xs all) pairs.1)

-- the next member of the one list gets its partner
zip_next : {X Y : Type 0} (R : X → Y → Type 0) (xs : List X) (ys : List Y) (j : ℕ) (y : Y) → j < length xs → AllZip R (take j xs) ys → IfSome (slice_get xs j) (λ x. R x y) → AllZip R (take (suc j) xs) (ys ++ y ∷ [])
zip_next R [] ys j y within pairs found = absurd (omega (arith, within))
zip_next R (x ∷ xs) [] zero y within pairs found = (found, tt)
zip_next R (x ∷ xs) (z ∷ zs) zero y within pairs found = absurd pairs
zip_next R (x ∷ xs) [] (suc j) y within pairs found = absurd pairs
zip_next R (x ∷ xs) (z ∷ zs) (suc j) y within pairs found = (pairs.0, zip_next R xs zs j y (omega (arith, within)) pairs.1 found)

pub zip_found : {X Y : Type 0} (R : X → Y → Type 0) (xs : List X) (ys : List Y) (j : ℕ) (y : Y) → j < length xs → AllZip R (take j xs) ys → IfSome (slice_get xs j) (λ x. R x y) → AllZip R (take (j + 1) xs) (ys ++ y ∷ [])
zip_found R xs ys j y within pairs found = subst (λ (k : ℕ). AllZip R (take k xs) (ys ++ y ∷ [])) (sym (add-one j)) (zip_next R xs ys j y within pairs found)

pub zip_grown : {X Y : Type 0} (R : X → Y → Type 0) (xs : List X) (ys : List Y) (j : ℕ) (d : X) (y : Y) → j < length xs → AllZip R (take j xs) ys → R (get_or xs j d) y → AllZip R (take (j + 1) xs) (ys ++ y ∷ [])
zip_grown R xs ys j d y within pairs is =
    zip_found R xs ys j y within pairs (subst (λ found. IfSome found (λ x. R x y)) (sym (slice_get-get_or xs j d within)) is)

some_same : {X : Type 0} {x y : X} → Some x ≡ Some y → x ≡ y
some_same is = cc

-- one member more is mapped
map_more : {X Y : Type 0} (f : X → Y) (xs : List X) (i : ℕ) (x : X) → Some x ≡ slice_get xs i → map f (take (suc i) xs) ≡ map f (take i xs) ++ f x ∷ []
map_more f [] i x is = cc
map_more f (z ∷ zs) zero x is = ap (λ w. f w ∷ []) (sym (some_same is))
map_more f (z ∷ zs) (suc i) x is = ap (λ ws. f z ∷ ws) (map_more f zs i x is)

-- the image of one member more was appended
pub appended_more : {X Y : Type 0} (f : X → Y) (xs : List X) (before items news : List Y) (i n : ℕ) (x : X) (y : Y)
    → n ≡ i → Some x ≡ slice_get xs n → items ≡ before ++ map f (take i xs) → y ≡ f x → news ≡ items ++ y ∷ [] → news ≡ before ++ map f (take (i + 1) xs)
appended_more f xs before items news i n x y same found so_far is pushed =
    let here = subst (λ (k : ℕ). Some x ≡ slice_get xs k) same found in
    pushed ∙ ap (λ l. l ++ y ∷ []) so_far ∙ ap (λ w. (before ++ map f (take i xs)) ++ w ∷ []) is
    ∙ append_assoc before (map f (take i xs)) (f x ∷ []) ∙ ap (λ l. before ++ l) (sym (map_more f xs i x here))
    ∙ ap (λ (k : ℕ). before ++ map f (take k xs)) (sym (add-one i))

-- what each member's image is of the members is of all
all_made : {X Y : Type 0} (Q : Y → Type 0) (f : X → Y) → ((x : X) → Q (f x)) → (xs : List X) → All Q (map f xs)
all_made Q f step [] = All-nil Q
all_made Q f step (x ∷ xs) = All-cons Q (f x) (map f xs) (step x) (all_made Q f step xs)

-- the station of a node without rows is the node
fresh_station : (n : Node) → station_of (fresh_node n) ≡ station.Of n
fresh_station (node.Filter test) = refl
fresh_station (node.Join class nulls joiners) = refl
fresh_station (node.IfExists class nulls joiners) = refl
fresh_station (node.IfNotExists class nulls joiners) = refl
fresh_station (node.GroupBy keys collect) = refl

fresh_stations : (nodes : List Node) → stations (map fresh_node nodes) ≡ map station.Of nodes
fresh_stations [] = refl
fresh_stations (n ∷ ns) = λ i. fresh_station n i ∷ fresh_stations ns i

head_is : (h : Head) (nodes : List Node) → stations (head_nodes h ++ map fresh_node nodes) ≡ head_stations h ++ map station.Of nodes
head_is (head.ForEach class) nodes = fresh_stations nodes
head_is (head.ForEachNulls class) nodes = fresh_stations nodes
head_is (head.Pairs class joiners) nodes = λ i. station.Rising class false joiners ∷ fresh_stations nodes i

-- what holds of the join of each head of pairs and of each node of rules holds of all nodes of a rule
rule_nodes_are : (P : NetNode → Type 0) → ((class : ℕ) (joiners : List Joiner) → All P (head_nodes (head.Pairs class joiners)))
    → ((n : Node) → P (fresh_node n)) → (h : Head) (nodes : List Node) → All P (head_nodes h ++ map fresh_node nodes)
rule_nodes_are P pairs each (head.ForEach class) nodes = all_made P fresh_node each nodes
rule_nodes_are P pairs each (head.ForEachNulls class) nodes = all_made P fresh_node each nodes
rule_nodes_are P pairs each (head.Pairs class joiners) nodes =
    All-append P (head_nodes (head.Pairs class joiners)) (map fresh_node nodes) (pairs class joiners) (all_made P fresh_node each nodes)

-- no trial is open
fresh_closed : (n : Node) → is_open (fresh_node n) ≡ false
fresh_closed (node.Filter test) = refl
fresh_closed (node.Join class nulls joiners) = refl
fresh_closed (node.IfExists class nulls joiners) = refl
fresh_closed (node.IfNotExists class nulls joiners) = refl
fresh_closed (node.GroupBy keys collect) = refl

-- and no change was cut off
fresh_whole : (n : Node) → is_torn (fresh_node n) ≡ false
fresh_whole (node.Filter test) = refl
fresh_whole (node.Join class nulls joiners) = refl
fresh_whole (node.IfExists class nulls joiners) = refl
fresh_whole (node.IfNotExists class nulls joiners) = refl
fresh_whole (node.GroupBy keys collect) = refl

-- the same lists have the same members
same_lists : {X : Type 0} (xs ys : List X) → xs ≡ ys → AreSame xs ys
same_lists xs ys is = subst (λ zs. AreSame xs zs) is (record { sums = λ weight. refl })

module _ (m : Meaning) (heads : Rows) where
  -- a join without rows is one of no rows
  no_join : (rising : Bool) (joiners : List Joiner) → IsJoin m heads rising joiners [] [] no_rows
  no_join rising joiners = record {
    left_members = record { sums = λ weight. refl };
    right_members = record { sums = λ weight. refl };
    passed_rows = λ asks. record { sums = λ weight. refl };
  }

  -- no pairs are kept of no rows
  no_pairs : (joiners : List Joiner) → kept_pairs m heads joiners [] [] ≡ []
  no_pairs joiners = neither (list_any is_test joiners) []
    where
      neither : (tests : Bool) (rows : List (List Cell)) → cond tests rows rows ≡ rows
      neither true rows = refl
      neither false rows = refl

  -- an exists node without rows stands for none
  no_exists : (class : ℕ) (nulls : Bool) (joiners : List Joiner) (wanted : Bool) → StandsFor m heads (exists_of class nulls joiners wanted) [] []
  no_exists class nulls joiners wanted = record {
    left_rows = same_lists _ _ values_empty;
    right_rows = same_lists _ _ values_empty;
    pairs = same_lists _ _ (values_empty ∙ sym (ap (all_numbered left_key) (no_pairs joiners)));
  }

  -- each node without rows stands for none
  fresh_holds : (n : Node) → KindHolds m heads [] [] (fresh_node n).kind
  fresh_holds (node.Filter test) = record { sums = λ weight. refl }
  fresh_holds (node.Join class nulls joiners) = no_join false joiners
  fresh_holds (node.IfExists class nulls joiners) = no_exists class nulls joiners true
  fresh_holds (node.IfNotExists class nulls joiners) = no_exists class nulls joiners false
  fresh_holds (node.GroupBy keys collect) = record {
    members = record { sums = λ weight. refl };
    keys = All-nil IsKeyNumber;
    few = omega arith;
  }

  -- behind a station there are no rows where none come to it
  none_after : (s : Station) → cells_after m heads none [] s ≡ []
  none_after (station.Of (node.Filter test)) = refl
  none_after (station.Of (node.Join class nulls joiners)) = refl
  none_after (station.Of (node.IfExists class nulls joiners)) = refl
  none_after (station.Of (node.IfNotExists class nulls joiners)) = refl
  none_after (station.Of (node.GroupBy keys collect)) = refl
  none_after (station.Rising class nulls joiners) = refl

  none_behind : (ss : List Station) → cells_behind m heads none [] ss ≡ []
  none_behind [] = refl
  none_behind (s ∷ ss) = ap (λ rows. cells_behind m heads none rows ss) (none_after s) ∙ none_behind ss

  -- nodes of which each stands for no rows do so one behind the other
  chain_holds : (nodes : List NetNode) → All (λ n. KindHolds m heads [] [] n.kind) nodes → ChainHolds m heads none [] nodes
  chain_holds [] all = tt
  chain_holds (n ∷ ns) all = (
    All-head (λ n. KindHolds m heads [] [] n.kind) n ns all,
    subst (λ rows. ChainHolds m heads none rows ns) (sym (none_after (station_of n))) (chain_holds ns (All-tail (λ n. KindHolds m heads [] [] n.kind) n ns all)),
  )

  -- nothing weighs nothing
  none_weighed : (weigher : Option ℕ) → IsWeighed m heads weigher [] [] 0
  none_weighed weigher = record {
    members = record { sums = λ weight. refl };
    fit = All-nil IsWeight;
    few = omega arith;
    sum = refl;
  }

  -- no rows come to a rule
  head_none : (h : Head) → head_cells none h ≡ []
  head_none (head.ForEach class) = refl
  head_none (head.ForEachNulls class) = refl
  head_none (head.Pairs class joiners) = refl

  -- a rule without rows stands for none
  fresh_rule_holds : (def : RuleDef) (net : RuleNet) → IsFreshRule def net → RuleHolds m heads none [] net
  fresh_rule_holds def net is = record {
    nodes = subst (ChainHolds m heads none []) (sym is.nodes) (chain_holds (rule_nodes def) (rule_nodes_are (λ n. KindHolds m heads [] [] n.kind) pairs fresh_holds def.head def.nodes));
    weighed =
        subst (λ (end : EndView). IsWeighed m heads end.weigher (end_cells m heads none [] net) end.now end.total) (sym is.end)
        (subst (λ (rows : List (List Cell)). IsWeighed m heads def.weigh rows [] 0) (sym (none_behind (stations net.nodes.items))) (none_weighed def.weigh));
  }
    where
      pairs : (class : ℕ) (joiners : List Joiner) → All (λ n. KindHolds m heads [] [] n.kind) (head_nodes (head.Pairs class joiners))
      pairs class joiners = All-cons (λ n. KindHolds m heads [] [] n.kind) _ [] (no_join true joiners) (All-nil (λ n. KindHolds m heads [] [] n.kind))

  fresh_rules_hold : (defs : List RuleDef) (nets : List RuleNet) → AllZip IsFreshRule defs nets → RulesHold m heads none defs nets
  fresh_rules_hold defs nets are =
      zip_weaker IsFreshRule (λ def net. RuleHolds m heads none (head_cells none def.head) net)
      (λ def net is. subst (λ rows. RuleHolds m heads none rows net) (sym (head_none def.head)) (fresh_rule_holds def net is)) defs nets are

-- the nodes and the end of a rule without rows are those of the rule
fresh_is : (def : RuleDef) (net : RuleNet) → IsFreshRule def net → IsNetOf def net
fresh_is def net is = record {
  class = is.class;
  nulls = is.nulls;
  stations = ap stations is.nodes ∙ head_is def.head def.nodes;
  weigher = ap (λ (end : EndView). end.weigher) is.end;
}

none_some : {X : Type 0} (x : X) → None ≡ Some x → ⊥
none_some x is = cc

-- no records take part
same_takers : (nulls : Bool) (recs : List Rec) → AreSame recs (cond nulls recs recs)
same_takers true recs = record { sums = λ weight. refl }
same_takers false recs = record { sums = λ weight. refl }

-- empty heads hold no records
none_held : HeadsHold finmap.empty none no_facts
none_held = record {
  takers_are = λ class nulls. record {
    different = λ i j d before within. absurd (omega (arith, before, within));
    live = refl;
    wide = All-nil (λ row. length row ≡ 1);
  };
  mean = record {
    records = λ class nulls. All-nil _;
    same = λ class nulls. same_takers nulls [];
  };
  all = λ place row is. absurd (none_some row (sym (finmap.get-empty nat_cmp place) ∙ is));
}

pub fresh_nets_stand : FreshNetsStandForNothing
fresh_nets_stand m classes defs net is = (
  zip_weaker IsFreshRule IsNetOf fresh_is defs net.rules is.rules,
  record {
    takers = none;
    heads_hold = subst (λ (heads : StoreView (List Part)). HeadsHold heads.now none no_facts) (sym is.heads) none_held;
    rules_hold = fresh_rules_hold m net.heads.now defs net.rules is.rules;
  },
)

-- a rule without rows is idle and whole
fresh_idle : (def : RuleDef) (net : RuleNet) → IsFreshRule def net → IsRuleIdle net
fresh_idle def net is = record {
  nodes =
      subst (All (λ n. is_open n ≡ false)) (sym is.nodes)
      (rule_nodes_are (λ n. is_open n ≡ false) (λ class joiners. All-cons (λ n. is_open n ≡ false) _ [] refl (All-nil (λ n. is_open n ≡ false))) fresh_closed def.head def.nodes);
  end = ap (λ (end : EndView). end.is_open) is.end;
}

fresh_rule_whole : (def : RuleDef) (net : RuleNet) → IsFreshRule def net → IsRuleWhole net
fresh_rule_whole def net is = record {
  nodes =
      subst (All (λ n. is_torn n ≡ false)) (sym is.nodes)
      (rule_nodes_are (λ n. is_torn n ≡ false) (λ class joiners. All-cons (λ n. is_torn n ≡ false) _ [] refl (All-nil (λ n. is_torn n ≡ false))) fresh_whole def.head def.nodes);
  end = ap (λ (end : EndView). end.is_torn) is.end;
}

module _ (changes : List ClassChange) (numbers : Numbers) where
  abbrev Sound : RuleDef → Type 0
  Sound = IsSound (length changes) numbers

  -- the class of a sound node is known
  node_known : 0 < length changes → (n : Node) → IsSoundNode (length changes) numbers n → KnowsClass changes (fresh_node n)
  node_known some (node.Filter test) sound = some
  node_known some (node.Join class nulls joiners) sound = sound.class
  node_known some (node.IfExists class nulls joiners) sound = sound.class
  node_known some (node.IfNotExists class nulls joiners) sound = sound.class
  node_known some (node.GroupBy keys collect) sound = some

  nodes_known : 0 < length changes → (nodes : List Node) → All (IsSoundNode (length changes) numbers) nodes → All (KnowsClass changes) (map fresh_node nodes)
  nodes_known some [] sound = All-nil (KnowsClass changes)
  nodes_known some (n ∷ ns) sound =
      All-cons (KnowsClass changes) (fresh_node n) (map fresh_node ns) (node_known some n (All-head (IsSoundNode (length changes) numbers) n ns sound))
      (nodes_known some ns (All-tail (IsSoundNode (length changes) numbers) n ns sound))

  head_known : (h : Head) (nodes : List NetNode) → head_class h < length changes → All (KnowsClass changes) nodes → All (KnowsClass changes) (head_nodes h ++ nodes)
  head_known (head.ForEach class) nodes known all = all
  head_known (head.ForEachNulls class) nodes known all = all
  head_known (head.Pairs class joiners) nodes known all =
      All-cons (KnowsClass changes) (record { class = class; nulls = false; kind = kind.Join (empty_pairs (head.Pairs class joiners)) }) nodes known all

  -- the classes of a sound rule are known
  rule_known : (def : RuleDef) (net : RuleNet) → Sound def → IsFreshRule def net → KnowsClasses changes changes net
  rule_known def net sound is = record {
    head = subst (λ (class : ℕ). class < length changes) (sym is.class) sound.head.class;
    nodes =
        let some : 0 < length changes = omega (arith, sound.head.class) in
        subst (All (KnowsClass changes)) (sym is.nodes) (head_known def.head (map fresh_node def.nodes) sound.head.class (nodes_known some def.nodes sound.nodes));
  }

no_opened : (heads : StoreView (List Part)) → heads ≡ record { now = finmap.empty; base = finmap.empty; is_open = false } → heads.is_open ≡ true → ⊥
no_opened heads is e = let closed = ap (λ (h : StoreView (List Part)). h.is_open) is in cc

-- what is sound where there are so many classes is so where there are more
more_node : (n k : ℕ) (numbers : Numbers) (d : Node) → n ≤ k → IsSoundNode n numbers d → IsSoundNode k numbers d
more_node n k numbers d le sound = record {
  class = more_class (node_class d) sound.class;
  joiners = sound.joiners;
  keys = sound.keys;
  closures = sound.closures;
}
  where
    more_class : (class : Option ℕ) → IfSome class (λ c. c < n) → IfSome class (λ c. c < k)
    more_class None is = is
    more_class (Some c) is = omega (arith, is, le)

more_sound : (n k : ℕ) (numbers : Numbers) (def : RuleDef) → n ≤ k → IsSound n numbers def → IsSound k numbers def
more_sound n k numbers def le sound = record {
  weight = sound.weight;
  few_nodes = sound.few_nodes;
  room = sound.room;
  head = record { class = omega (arith, sound.head.class, le); joiners = sound.head.joiners; closures = sound.head.closures };
  nodes = λ j d within. more_node n k numbers (get_or def.nodes j d) le (sound.nodes j d within);
  weigher = sound.weigher;
}

-- what always holds of a network holds of one without records
pub fresh_net : (schema : List ClassDef) (numbers : Numbers) (defs : List RuleDef) (harders : List Harder)
    → (heads : StoreView (List Part)) (nets : List RuleNet) (changes : List ClassChange) (found : List RuleAhead)
    → rules_fault schema numbers defs harders ≡ None
    → heads ≡ record { now = finmap.empty; base = finmap.empty; is_open = false }
    → length schema ≤ length changes → AllZip IsFreshRule defs nets → AllZip HasPlaces nets found
    → IsNet heads nets changes found false
fresh_net schema numbers defs harders heads nets changes found accepted none_yet classes fresh places = record {
  places = places;
  known =
      zip_right IsFreshRule (IsSound (length changes) numbers) (KnowsClasses changes changes) (rule_known changes numbers) defs nets
      (λ k d within. more_sound (length schema) (length changes) numbers (get_or defs k d) classes (sound_rules schema numbers defs harders accepted k d within)) fresh;
  opened = λ e. absurd (no_opened heads none_yet e);
  idle = λ e. zip_all_right IsRuleIdle fresh_idle;
  whole = λ e. zip_all_right IsRuleWhole fresh_rule_whole;
  calm = λ e. refl;
}
  where
    zip_all_right : (Q : RuleNet → Type 0) → ((def : RuleDef) (net : RuleNet) → IsFreshRule def net → Q net) → All Q nets
    zip_all_right Q step = zip_right IsFreshRule (λ def. ⊤) Q (λ def net t is. step def net is) defs nets (λ k d within. tt) fresh
