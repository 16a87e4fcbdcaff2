-- What a rule begins with comes on both sides of its pairs.
use Rattle.std.proofs.Common.{◌≡◌, ◌<◌, ◌∙◌, ℕ, Bool, true, false, cond, List, [], ◌∷◌, ◌++◌, All, length, map, refl, sym, ap, arith}
use Rattle.std.specs.Prelude.{slice_index_or}
use Rattle.std.proofs.lemmas.List.{get_or_default}
use Rattle.std.proofs.lemmas.List.Elements.{All-cons, All-nil}
use Rattle.plan_rules.specs.declared.rule.Head.{Head}
use Rattle.plan_rules.specs.declared.rule.Head.TheVariants as head
use Rattle.plan_rules.specs.declared.rule.Node.{Node}
use Rattle.plan_rules.specs.declared.rule.Node.TheVariants as node
use Rattle.plan_rules.specs.Named.{head_class}
use Rattle.stream_heads.specs.declared.delta.CellsDelta.{CellsDelta}
use Rattle.stream_join.specs.Join.{across}
use Rattle.head_changes.specs.declared.changes.ClassChange.{ClassChange}
use Rattle.head_changes.specs.Changes.{taking}
use Rattle.score_director.specs.declared.node.Kind.{Kind}
use Rattle.score_director.specs.declared.node.Kind.TheVariants as kind
use Rattle.score_director.specs.declared.node.NetNode.{NetNode}
use Rattle.score_director.specs.Chain.{BeginWithBoth, beside_of, stations}
use Rattle.score_director.specs.Nodes.{kind_rises, kind_station, rises, station_of}
use Rattle.score_director.specs.Rule.{head_nulls}
use Rattle.score_director.specs.Stations.{Of, Rising, Station, head_stations}
use Rattle.score_director.proofs.ChainLaws.{none_rise}

-- the ids of a station's pairs rise
abbrev station_rises : Station → Bool
station_rises (Of node) = false
station_rises (Rising class nulls joiners) = true

-- the class of a station of pairs, and whether records with null variables take part
abbrev station_class : Station → ℕ
station_class (Of node) = 0
station_class (Rising class nulls joiners) = class

abbrev station_nulls : Station → Bool
station_nulls (Of node) = false
station_nulls (Rising class nulls joiners) = nulls

false_true : {P : Type 0} → false ≡ true → P
false_true e = absurd (let f : false ≡ true = e in cc)

-- a node makes pairs just where its station does
rises_as : (n : NetNode) → rises n ≡ station_rises (station_of n)
rises_as n = by_kind n.class n.nulls n.kind
  where
    by_kind : (class : ℕ) (nulls : Bool) (k : Kind) → kind_rises k ≡ station_rises (kind_station class nulls k)
    by_kind class nulls (kind.Filter v) = refl
    by_kind class nulls (kind.Join v) =
        elim v.rising as (λ b. b ≡ station_rises (cond b (Rising class nulls v.joiners) (Of (node.Join class nulls v.joiners)))) [
          | true ↦ refl
          | false ↦ refl
        ]
    by_kind class nulls (kind.Exists v) = refl
    by_kind class nulls (kind.Group v) = refl

-- and then they are of its class
class_as : (n : NetNode) → station_rises (station_of n) ≡ true → (station_class (station_of n) ≡ n.class) × (station_nulls (station_of n) ≡ n.nulls)
class_as n = by_kind n.class n.nulls n.kind
  where
    by_kind : (class : ℕ) (nulls : Bool) (k : Kind) → station_rises (kind_station class nulls k) ≡ true
        → (station_class (kind_station class nulls k) ≡ class) × (station_nulls (kind_station class nulls k) ≡ nulls)
    by_kind class nulls (kind.Filter v) = λ up. false_true up
    by_kind class nulls (kind.Join v) =
        elim v.rising as (λ b. station_rises (cond b (Rising class nulls v.joiners) (Of (node.Join class nulls v.joiners))) ≡ true
        → (station_class (cond b (Rising class nulls v.joiners) (Of (node.Join class nulls v.joiners))) ≡ class)
        × (station_nulls (cond b (Rising class nulls v.joiners) (Of (node.Join class nulls v.joiners))) ≡ nulls)) [
          | true ↦ λ up. (refl, refl)
          | false ↦ λ up. false_true up
        ]
    by_kind class nulls (kind.Exists v) = λ up. false_true up
    by_kind class nulls (kind.Group v) = λ up. false_true up

abbrev first_station : Station → List Station → Station
first_station other [] = other
first_station other (s ∷ ss) = s

abbrev rest_stations : List Station → List Station
rest_stations [] = []
rest_stations (s ∷ ss) = ss

-- nodes that are nodes of a rule make no pairs
none_of : (ns : List NetNode) (nodes : List Node) → stations ns ≡ map Of nodes → All (λ n. rises n ≡ false) ns
none_of [] nodes is = All-nil (λ (n : NetNode). rises n ≡ false)
none_of (n ∷ ns) [] is = absurd (let e = ap (λ (ss : List Station). length ss) is in omega (arith, e))
none_of (n ∷ ns) (node ∷ nodes) is =
    All-cons (λ (n : NetNode). rises n ≡ false) n ns (rises_as n ∙ ap (λ (ss : List Station). station_rises (first_station (Of node) ss)) is)
    (none_of ns nodes (ap rest_stations is))

-- a change is its own, whatever comes across
across_same : (b : Bool) (one other : CellsDelta) → one ≡ other → across b one other ≡ other
across_same true one other is = is
across_same false one other is = refl

-- nodes of a rule that is led on by the change of its class begin with both sides
pub begins_with_both : (changes : List ClassChange) (other : ClassChange) (h : Head) (nodes : List Node) (class : ℕ) (nulls : Bool) (ns : List NetNode)
    → class ≡ head_class h → nulls ≡ head_nulls h → class < length changes → stations ns ≡ head_stations h ++ map Of nodes
    → BeginWithBoth changes (taking (slice_index_or changes class other) nulls) ns
begins_with_both changes other (head.ForEach c) nodes class nulls ns is_class is_nulls within is = none_rise changes _ ns (none_of ns nodes is)
begins_with_both changes other (head.ForEachNulls c) nodes class nulls ns is_class is_nulls within is = none_rise changes _ ns (none_of ns nodes is)
begins_with_both changes other (head.Pairs c joiners) nodes class nulls [] is_class is_nulls within is = tt
begins_with_both changes other (head.Pairs c joiners) nodes class nulls (n ∷ ns) is_class is_nulls within is =
    let left = taking (slice_index_or changes class other) nulls in
    let first : station_of n ≡ Rising c false joiners = ap (first_station (Rising c false joiners)) is in
    let own = class_as n (ap station_rises first) in
    let own_class : class ≡ n.class = is_class ∙ sym (ap station_class first) ∙ own.0 in
    let own_nulls : nulls ≡ n.nulls = is_nulls ∙ sym (ap station_nulls first) ∙ own.1 in
    let same =
    ap (λ (change : ClassChange). taking change nulls) (get_or_default changes class other (record { all = left; placed = left }) within)
    ∙ ap (λ (x : ℕ). taking (slice_index_or changes x (record { all = left; placed = left })) nulls) own_class
    ∙ ap (taking (slice_index_or changes n.class (record { all = left; placed = left }))) own_nulls in
    (across_same (rises n) left (beside_of left changes n) same, none_of ns nodes (ap rest_stations is))
