-- The closures that the nodes of accepted rules ask were handed in.
use Rattle.std.proofs.Common.{◌≡◌, ℕ, Bool, true, false, List, [], ◌∷◌, ◌++◌, All, Option, cond, length, map, refl, sym, subst}
use Rattle.std.specs.List.{AllZip, flat_map}
use Rattle.std.proofs.lemmas.List.Elements.{All-cons, All-head, All-map, All-nil, All-tail, All-weaker}
use Rattle.plan_rules.specs.declared.places.Numbers.{Numbers}
use Rattle.plan_rules.specs.declared.rule.Head.{Head}
use Rattle.plan_rules.specs.declared.rule.Head.TheVariants as head
use Rattle.plan_rules.specs.declared.rule.Joiner.{Joiner}
use Rattle.plan_rules.specs.declared.rule.Named.{Named}
use Rattle.plan_rules.specs.declared.rule.Node.TheVariants as node
use Rattle.plan_rules.specs.declared.rule.RuleDef.{RuleDef}
use Rattle.plan_rules.specs.Named.{head_joiners, joiner_closures, node_closures, weigh_closures}
use Rattle.plan_rules.specs.Sound.{IsHandedIn, IsSound, IsSoundNode}
use Rattle.plan_rules.proofs.Accepted.{sound_rules}
use Rattle.score_director.specs.declared.node.Kind.{Kind}
use Rattle.score_director.specs.declared.node.Kind.TheVariants as kind
use Rattle.score_director.specs.declared.rule.RuleNet.{RuleNet}
use Rattle.score_director.specs.Laws.{AllAskKnown}
use Rattle.score_director.specs.Nodes.{kind_station, node_of, station_of}
use Rattle.score_director.specs.Rule.{AsksKnown, IsNetOf}
use Rattle.score_director.specs.Stations as station
use Rattle.score_director.specs.Stations.{Station, head_stations, stations_of}

-- the closures that a station asks
abbrev station_closures : Station → List Named
station_closures (station.Of n) = node_closures n
station_closures (station.Rising class nulls joiners) = flat_map joiner_closures joiners

-- they were handed in
abbrev AsksAt : Numbers → Station → Type 0
AsksAt numbers at = All (IsHandedIn numbers) (station_closures at)

-- a join asks the closures of its joiners, whichever pairs it makes
join_asks : (class : ℕ) (nulls : Bool) (joiners : List Joiner) (rising : Bool)
    → station_closures (cond rising (station.Rising class nulls joiners) (station.Of (node.Join class nulls joiners))) ≡ flat_map joiner_closures joiners
join_asks class nulls joiners true = refl
join_asks class nulls joiners false = refl

-- a node asks the closures of its station
kind_asks : (class : ℕ) (nulls : Bool) (k : Kind) → station_closures (kind_station class nulls k) ≡ node_closures (node_of class nulls k)
kind_asks class nulls (kind.Filter v) = refl
kind_asks class nulls (kind.Join v) = join_asks class nulls v.joiners v.rising
kind_asks class nulls (kind.Exists v) = refl
kind_asks class nulls (kind.Group v) = refl

-- what holds of all that is made holds of what it is made of
All-unmapped : {X Y : Type 0} (P : Y → Type 0) (f : X → Y) (xs : List X) → All P (map f xs) → All (λ x. P (f x)) xs
All-unmapped P f [] all = All-nil (λ x. P (f x))
All-unmapped P f (x ∷ xs) all = All-cons (λ y. P (f y)) x xs (All-head P (f x) (map f xs) all) (All-unmapped P f xs (All-tail P (f x) (map f xs) all))

-- what follows from what holds of a list's elements holds of those beside them
All-beside : {X Y : Type 0} (R : X → Y → Type 0) (P : X → Type 0) (Q : Y → Type 0) → ((x : X) (y : Y) → P x → R x y → Q y)
    → (xs : List X) (ys : List Y) → All P xs → AllZip R xs ys → All Q ys
All-beside R P Q step [] [] all pairs = All-nil Q
All-beside R P Q step [] (y ∷ ys) all pairs = absurd pairs
All-beside R P Q step (x ∷ xs) [] all pairs = absurd pairs
All-beside R P Q step (x ∷ xs) (y ∷ ys) all pairs =
    All-cons Q y ys (step x y (All-head P x xs all) pairs.0) (All-beside R P Q step xs ys (All-tail P x xs all) pairs.1)

module _ (classes : ℕ) (numbers : Numbers) where
  -- the stations that a rule begins with ask the joiners of its head
  head_asks : (h : Head) (nodes : List Station) → All (IsHandedIn numbers) (flat_map joiner_closures (head_joiners h)) → All (AsksAt numbers) nodes
      → All (AsksAt numbers) (head_stations h ++ nodes)
  head_asks (head.ForEach class) nodes joiners asks = asks
  head_asks (head.ForEachNulls class) nodes joiners asks = asks
  head_asks (head.Pairs class pairs) nodes joiners asks = All-cons (AsksAt numbers) (station.Rising class false pairs) nodes joiners asks

  stations_ask : (def : RuleDef) → IsSound classes numbers def → All (AsksAt numbers) (stations_of def)
  stations_ask def sound =
      let nodes = All-weaker (IsSoundNode classes numbers) (λ n. AsksAt numbers (station.Of n)) (λ n is. is.closures) def.nodes sound.nodes in
      head_asks def.head (map station.Of def.nodes) sound.head.closures (All-map (AsksAt numbers) station.Of def.nodes nodes)

  net_asks : (def : RuleDef) (net : RuleNet) → IsSound classes numbers def → IsNetOf def net → AsksKnown numbers net
  net_asks def net sound is = record {
    nodes =
        All-weaker (λ n. AsksAt numbers (station_of n)) (λ n. All (IsHandedIn numbers) (node_closures (node_of n.class n.nulls n.kind)))
        (λ n asks. subst (All (IsHandedIn numbers)) (kind_asks n.class n.nulls n.kind) asks) net.nodes.items
        (All-unmapped (AsksAt numbers) station_of net.nodes.items (subst (All (AsksAt numbers)) (sym is.stations) (stations_ask def sound)));
    end = subst (λ (w : Option ℕ). All (IsHandedIn numbers) (weigh_closures w)) (sym is.weigher) sound.weigher;
  }

pub all_ask_known : AllAskKnown
all_ask_known schema numbers defs harders nets accepted are =
    All-beside IsNetOf (IsSound (length schema) numbers) (AsksKnown numbers) (net_asks (length schema) numbers) defs nets
    (sound_rules schema numbers defs harders accepted) are
