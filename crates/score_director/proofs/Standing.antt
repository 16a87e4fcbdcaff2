-- A network stands for the same facts where its trial begins, is taken back, and is kept.
use Rattle.std.proofs.Common.{◌≡◌, ◌∙◌, ℕ, zero, suc, ℤ, Bool, true, false, List, [], ◌∷◌, Option, None, Some, All, map, refl, sym, ap, subst}
use Rattle.std.specs.Prelude.{slice_get}
use Rattle.std.specs.List.{AllZip}
use Rattle.std.proofs.lemmas.List.Elements.{All-head, All-tail}
use Rattle.plan_rules.specs.declared.row.Part.{Part}
use Rattle.plan_rules.specs.declared.rule.RuleDef.{RuleDef}
use Rattle.plan_rules.specs.Bags.{AreSame}
use Rattle.plan_rules.specs.Faults.{lacks_room}
use Rattle.plan_rules.specs.Meaning.{Meaning}
use Rattle.plan_rules.specs.Named.{head_parts}
use Rattle.plan_rules.specs.Order.{AreById}
use Rattle.plan_rules.specs.Rows.{Facts, rule_rows}
use Rattle.plan_rules.specs.Totals.{match_weight}
use Rattle.plan_rules.proofs.Sums.{same-map, same-trans, sum_by-map}
use Rattle.tuple_store.specs.View.{StoreView}
use Rattle.stream_heads.specs.declared.cells.Cell.{Cell}
use Rattle.stream_heads.specs.declared.member.Member.{Member}
use Rattle.stream_heads.specs.Meant.{Rows, meant, row_at}
use Rattle.stream_heads.specs.Sides.{all_numbered}
use Rattle.stream_end.specs.Ends.{EndView, IsWeighed}
use Rattle.stream_end.specs.Weights.{cells_of, weight_sum, weights_at}
use Rattle.head_changes.specs.Takers.{AreTakers, MeanFacts, Takers}
use Rattle.score_director.specs.declared.node.Kind.{Kind}
use Rattle.score_director.specs.declared.node.Kind.TheVariants as kind
use Rattle.score_director.specs.declared.node.NetNode.{NetNode}
use Rattle.score_director.specs.declared.rule.RuleNet.{RuleNet}
use Rattle.score_director.specs.Chain.{ChainHolds, stations}
use Rattle.score_director.specs.Net.{AreNetsOf, NetView, RulesHold, StandsForFacts, rule_weight, weights_of}
use Rattle.score_director.specs.NetState.{KeepsNet, NetBegan, NetCommitted, NetRolledBack}
use Rattle.score_director.specs.Nodes.{KindHolds, NodeHolds, begun, committed, kind_begun, kind_committed, kind_rolled_back, kind_station, rolled_back, station_of}
use Rattle.score_director.specs.Rule.{HasBegun, HasCommitted, HasRolledBack, IsNetOf, KeepsRuleBase, RuleHolds, end_cells, end_rolled_back}
use Rattle.score_director.specs.Standing.{HasRoomBeside, NetStands, StoodBefore, rows_kept, totals_of}
use Rattle.score_director.specs.Stations.{Station, cells_after, cells_behind, head_cells, rule_cells}
use Rattle.score_director.proofs.ChainLaws.{station_back}
use Rattle.score_director.proofs.Means.{cells_mean_rows}
use Rattle.score_director.proofs.NetLaws.{zip_behind}

map_twice : {X Y Z : Type 0} (f : X → Y) (g : Y → Z) (xs : List X) → map g (map f xs) ≡ map (λ x. g (f x)) xs
map_twice f g [] = refl
map_twice f g (x ∷ xs) = ap (λ (rest : List _). g (f x) ∷ rest) (map_twice f g xs)

-- stations stay where a trial begins and where it is kept
begun_station : (class : ℕ) (nulls : Bool) (k : Kind) → kind_station class nulls (kind_begun k) ≡ kind_station class nulls k
begun_station class nulls (kind.Filter v) = refl
begun_station class nulls (kind.Join v) = refl
begun_station class nulls (kind.Exists v) = refl
begun_station class nulls (kind.Group v) = refl

kept_station : (class : ℕ) (nulls : Bool) (k : Kind) → kind_station class nulls (kind_committed k) ≡ kind_station class nulls k
kept_station class nulls (kind.Filter v) = refl
kept_station class nulls (kind.Join v) = refl
kept_station class nulls (kind.Exists v) = refl
kept_station class nulls (kind.Group v) = refl

-- a node whose trial began and was taken back
abbrev returned : NetNode → NetNode
returned n = rolled_back (begun n)

returned_station : (n : NetNode) → station_of (returned n) ≡ station_of n
returned_station n = station_back (begun n) ∙ begun_station n.class n.nulls n.kind

module _ (f : NetNode → NetNode) (same : (n : NetNode) → station_of (f n) ≡ station_of n) where
  same_stations : (ns : List NetNode) → stations (map f ns) ≡ stations ns
  same_stations [] = refl
  same_stations (n ∷ ns) = λ i. same n i ∷ same_stations ns i

  -- the nodes of a rule are still those of the rule
  led_is : (def : RuleDef) (old new : RuleNet) → new.class ≡ old.class → new.nulls ≡ old.nulls → new.nodes.items ≡ map f old.nodes.items
      → new.end.weigher ≡ old.end.weigher → IsNetOf def old → IsNetOf def new
  led_is def old new class nulls nodes weigher is = record {
    class = class ∙ is.class;
    nulls = nulls ∙ is.nulls;
    stations = ap stations nodes ∙ same_stations old.nodes.items ∙ is.stations;
    weigher = weigher ∙ is.weigher;
  }

  module _ (m : Meaning) (heads : Rows) (takers : Takers)
      (step : (rows : List (List Cell)) (n : NetNode) → NodeHolds m heads takers rows n → NodeHolds m heads takers rows (f n)) where
    chain_led : (rows : List (List Cell)) (ns : List NetNode) → ChainHolds m heads takers rows ns → ChainHolds m heads takers rows (map f ns)
    chain_led rows [] holds = tt
    chain_led rows (n ∷ ns) holds = (
      step rows n holds.0,
      subst (λ (s : Station). ChainHolds m heads takers (cells_after m heads takers rows s) (map f ns)) (sym (same n)) (chain_led (cells_after m heads takers rows (station_of n)) ns holds.1),
    )

    -- a rule stands for the same rows
    rule_led : (rows : List (List Cell)) (old new : RuleNet) → new.nodes.items ≡ map f old.nodes.items
        → new.end.weigher ≡ old.end.weigher → new.end.now ≡ old.end.now → new.end.total ≡ old.end.total
        → RuleHolds m heads takers rows old → RuleHolds m heads takers rows new
    rule_led rows old new nodes weigher now total holds = record {
      nodes = subst (ChainHolds m heads takers rows) (sym nodes) (chain_led rows old.nodes.items holds.nodes);
      weighed =
          let cells : end_cells m heads takers rows new ≡ end_cells m heads takers rows old = ap (cells_behind m heads takers rows) (ap stations nodes ∙ same_stations old.nodes.items) in
          subst (λ (w : Option ℕ). IsWeighed m heads w (end_cells m heads takers rows new) new.end.now new.end.total) (sym weigher)
          (subst (λ (cs : List (List Cell)). IsWeighed m heads old.end.weigher cs new.end.now new.end.total) (sym cells)
          (subst (λ (kept : List Member). IsWeighed m heads old.end.weigher (end_cells m heads takers rows old) kept new.end.total) (sym now)
          (subst (λ (t : ℕ). IsWeighed m heads old.end.weigher (end_cells m heads takers rows old) old.end.now t) (sym total) holds.weighed)));
    }

module _ (m : Meaning) (heads : Rows) where
  kind_begins : (rights rows : List (List Cell)) (k : Kind) → KindHolds m heads rights rows k → KindHolds m heads rights rows (kind_begun k)
  kind_begins rights rows (kind.Filter v) holds = holds
  kind_begins rights rows (kind.Join v) holds = holds
  kind_begins rights rows (kind.Exists v) holds = record { left_rows = holds.left_rows; right_rows = holds.right_rows; pairs = holds.pairs }
  kind_begins rights rows (kind.Group v) holds = holds

  kind_returns : (rights rows : List (List Cell)) (k : Kind) → KindHolds m heads rights rows k → KindHolds m heads rights rows (kind_rolled_back (kind_begun k))
  kind_returns rights rows (kind.Filter v) holds = holds
  kind_returns rights rows (kind.Join v) holds = holds
  kind_returns rights rows (kind.Exists v) holds = record { left_rows = holds.left_rows; right_rows = holds.right_rows; pairs = holds.pairs }
  kind_returns rights rows (kind.Group v) holds = holds

  kind_kept : (rights rows : List (List Cell)) (k : Kind) → KindHolds m heads rights rows k → KindHolds m heads rights rows (kind_committed k)
  kind_kept rights rows (kind.Filter v) holds = holds
  kind_kept rights rows (kind.Join v) holds = holds
  kind_kept rights rows (kind.Exists v) holds = record { left_rows = holds.left_rows; right_rows = holds.right_rows; pairs = holds.pairs }
  kind_kept rights rows (kind.Group v) holds = holds

  module _ (takers : Takers) where
    begun_rule : (rows : List (List Cell)) (old new : RuleNet) → HasBegun old new → RuleHolds m heads takers rows old → RuleHolds m heads takers rows new
    begun_rule rows old new is =
        rule_led begun (λ n. begun_station n.class n.nulls n.kind) m heads takers (λ rs n. kind_begins (takers n.class n.nulls) rs n.kind) rows old new is.nodes
        (ap (λ (e : EndView). e.weigher) is.end) (ap (λ (e : EndView). e.now) is.end) (ap (λ (e : EndView). e.total) is.end)

    kept_rule : (rows : List (List Cell)) (old new : RuleNet) → HasCommitted old new → RuleHolds m heads takers rows old → RuleHolds m heads takers rows new
    kept_rule rows old new is =
        rule_led committed (λ n. kept_station n.class n.nulls n.kind) m heads takers (λ rs n. kind_kept (takers n.class n.nulls) rs n.kind) rows old new is.nodes
        (ap (λ (e : EndView). e.weigher) is.end) (ap (λ (e : EndView). e.now) is.end) (ap (λ (e : EndView). e.total) is.end)

    returned_rule : (rows : List (List Cell)) (old mid new : RuleNet) → HasBegun old mid → HasRolledBack mid new → RuleHolds m heads takers rows old → RuleHolds m heads takers rows new
    returned_rule rows old mid new began back =
        let end : new.end ≡ end_rolled_back (record old.end { base = old.end.now; base_total = old.end.total; is_open = true }) = back.end ∙ ap end_rolled_back began.end in
        rule_led returned returned_station m heads takers (λ rs n. kind_returns (takers n.class n.nulls) rs n.kind) rows old new
        (back.nodes ∙ ap (map rolled_back) began.nodes ∙ map_twice begun rolled_back old.nodes.items)
        (ap (λ (e : EndView). e.weigher) end) (ap (λ (e : EndView). e.now) end) (ap (λ (e : EndView). e.total) end)

    -- what a rule stands for another one stands for too
    abbrev Follows : RuleNet → RuleNet → Type 0
    Follows old new = (rows : List (List Cell)) → RuleHolds m heads takers rows old → RuleHolds m heads takers rows new

    all_follow : (defs : List RuleDef) (old new : List RuleNet) → AllZip Follows old new → RulesHold m heads takers defs old → RulesHold m heads takers defs new
    all_follow defs old new follow hold =
        let H : RuleDef → RuleNet → Type 0 = λ def net. RuleHolds m heads takers (head_cells takers def.head) net in
        zip_behind Follows H H (λ x y z step holds. step (head_cells takers z.head) holds) old new defs follow hold

zip_step : {X Y : Type 0} (R S : X → Y → Type 0) → ((x : X) (y : Y) → R x y → S x y) → (xs : List X) (ys : List Y) → AllZip R xs ys → AllZip S xs ys
zip_step R S step [] [] paired = tt
zip_step R S step [] (y ∷ ys) paired = absurd paired
zip_step R S step (x ∷ xs) [] paired = absurd paired
zip_step R S step (x ∷ xs) (y ∷ ys) paired = (step x y paired.0, zip_step R S step xs ys paired.1)

-- the rules that a network is of stay where its trial begins, is taken back, and is kept
module _ (defs : List RuleDef) (old new : NetView) where
  pub begun_own : NetBegan old new → AreNetsOf defs old.rules → AreNetsOf defs new.rules
  begun_own is own = zip_behind HasBegun IsNetOf IsNetOf (λ x y z began of. led_is begun (λ n. begun_station n.class n.nulls n.kind) z x y began.class began.nulls began.nodes (ap (λ (e : EndView). e.weigher) began.end) of) old.rules new.rules defs is.rules own

  pub back_own : NetRolledBack old new → AreNetsOf defs old.rules → AreNetsOf defs new.rules
  back_own is own = zip_behind HasRolledBack IsNetOf IsNetOf (λ x y z back of. led_is rolled_back station_back z x y back.class back.nulls back.nodes (ap (λ (e : EndView). e.weigher) back.end) of) old.rules new.rules defs is.rules own

  pub kept_own : NetCommitted old new → AreNetsOf defs old.rules → AreNetsOf defs new.rules
  kept_own is own = zip_behind HasCommitted IsNetOf IsNetOf (λ x y z kept of. led_is committed (λ n. kept_station n.class n.nulls n.kind) z x y kept.class kept.nulls kept.nodes (ap (λ (e : EndView). e.weigher) kept.end) of) old.rules new.rules defs is.rules own

module _ (m : Meaning) (defs : List RuleDef) (old new : NetView) (facts : Facts) where
  -- heads that hold the same records, and rules that follow
  follows : (heads : Rows) (nets : List RuleNet) → heads ≡ old.heads.now → (stands : NetStands m defs old facts)
      → AllZip (Follows m old.heads.now stands.takers) old.rules nets → StandsForFacts m defs heads nets facts
  follows heads nets is stands follow =
      subst (λ (h : Rows). StandsForFacts m defs h nets facts) (sym is)
      (record { takers = stands.takers; heads_hold = stands.heads_hold; rules_hold = all_follow m old.heads.now stands.takers defs old.rules nets follow stands.rules_hold })

  -- where a trial begins, the network stands for what it stood for
  pub begun_stands : NetBegan old new → NetStands m defs old facts → NetStands m defs new facts
  begun_stands is stands =
      follows new.heads.now new.rules (ap (λ (h : StoreView (List Part)). h.now) is.heads) stands
      (zip_step HasBegun (Follows m old.heads.now stands.takers) (λ x y began rows. begun_rule m old.heads.now stands.takers rows x y began) old.rules new.rules is.rules)

  -- and a rollback brings that back
  pub begun_before : NetBegan old new → NetStands m defs old facts → StoodBefore m defs new facts
  begun_before is stands = λ nets back.
      follows new.heads.base nets (ap (λ (h : StoreView (List Part)). h.base) is.heads) stands
      (zip_behind HasRolledBack HasBegun (Follows m old.heads.now stands.takers) (λ x y z rolled began rows. returned_rule m old.heads.now stands.takers rows z x y began rolled) new.rules nets old.rules back is.rules)

  -- also after a change
  pub kept_before : old.heads.is_open ≡ true → KeepsNet old new → StoodBefore m defs old facts → StoodBefore m defs new facts
  kept_before opened keeps stood = λ nets back.
      subst (λ (h : Rows). StandsForFacts m defs h nets facts) (sym (keeps.heads.base opened))
      (stood nets (zip_behind HasRolledBack KeepsRuleBase HasRolledBack comes_back new.rules nets old.rules back keeps.rules))
    where
      comes_back : (x y z : RuleNet) → HasRolledBack x y → KeepsRuleBase z x → HasRolledBack z y
      comes_back x y z rolled base = record {
        class = rolled.class ∙ base.class;
        nulls = rolled.nulls ∙ base.nulls;
        nodes = rolled.nodes ∙ base.nodes;
        end = rolled.end ∙ base.end;
      }

  pub back_stands : NetRolledBack old new → StoodBefore m defs old facts → NetStands m defs new facts
  back_stands is stood = subst (λ (h : Rows). StandsForFacts m defs h new.rules facts) (sym (ap (λ (h : StoreView (List Part)). h.now) is.heads)) (stood new.rules is.rules)

  -- where a trial is kept, the network stands for what it stood for
  pub kept_stands : NetCommitted old new → NetStands m defs old facts → NetStands m defs new facts
  kept_stands is stands =
      follows new.heads.now new.rules (ap (λ (h : StoreView (List Part)). h.now) is.heads) stands
      (zip_step HasCommitted (Follows m old.heads.now stands.takers) (λ x y kept rows. kept_rule m old.heads.now stands.takers rows x y kept) old.rules new.rules is.rules)

cells_numbered : (f : List Cell → List ℤ) (rows : List (List Cell)) → cells_of (all_numbered f rows) ≡ rows
cells_numbered f [] = refl
cells_numbered f (row ∷ rows) = ap (λ (rest : List (List Cell)). row ∷ rest) (cells_numbered f rows)

module _ (m : Meaning) (heads : Rows) (takers : Takers) (facts : Facts) (def : RuleDef) (net : RuleNet)
    (is : IsNetOf def net) (are : AreTakers heads takers) (mean : MeanFacts heads takers facts) (by_id : AreById facts)
    (room : lacks_room (head_parts def.head) def.nodes ≡ false)
    (holds : RuleHolds m heads takers (head_cells takers def.head) net) where
  end_is : end_cells m heads takers (head_cells takers def.head) net ≡ rule_cells m heads takers def
  end_is = ap (cells_behind m heads takers (head_cells takers def.head)) is.stations

  -- the total at a rule's end is what its matches weigh together
  rule_weighs : net.end.total ≡ rule_weight m facts def
  rule_weighs =
      holds.weighed.sum
      ∙ ap (λ (w : Option ℕ). weight_sum m heads w (end_cells m heads takers (head_cells takers def.head) net)) is.weigher
      ∙ ap (weight_sum m heads def.weigh) end_is
      ∙ sym (sum_by-map (match_weight m def) (row_at heads) (rule_cells m heads takers def))
      ∙ (cells_mean_rows m heads takers facts def are mean by_id room).sums (match_weight m def)

  -- and the rows kept there are those of the rule
  rule_keeps : AreSame (rows_kept heads net) (rule_rows m facts def)
  rule_keeps =
      let cells = end_cells m heads takers (head_cells takers def.head) net in
      let kept = same-map (λ (member : Member). member.cells) net.end.now (all_numbered (weights_at m heads net.end.weigher) cells) holds.weighed.members in
      let same : AreSame (cells_of net.end.now) (rule_cells m heads takers def) = subst (AreSame (cells_of net.end.now)) (cells_numbered (weights_at m heads net.end.weigher) cells ∙ end_is) kept in
      same-trans (rows_kept heads net) (meant heads (rule_cells m heads takers def)) (rule_rows m facts def)
      (same-map (row_at heads) (cells_of net.end.now) (rule_cells m heads takers def) same)
      (cells_mean_rows m heads takers facts def are mean by_id room)

module _ (m : Meaning) (heads : Rows) (takers : Takers) (facts : Facts)
    (are : AreTakers heads takers) (mean : MeanFacts heads takers facts) (by_id : AreById facts) where
  all_weigh : (defs : List RuleDef) (nets : List RuleNet) → AreNetsOf defs nets → All HasRoomBeside defs → RulesHold m heads takers defs nets
      → totals_of nets ≡ weights_of m facts defs
  all_weigh [] [] own range hold = refl
  all_weigh [] (net ∷ nets) own range hold = absurd own
  all_weigh (def ∷ defs) [] own range hold = absurd own
  all_weigh (def ∷ defs) (net ∷ nets) own range hold =
      let one = rule_weighs m heads takers facts def net own.0 are mean by_id (All-head HasRoomBeside def defs range) hold.0 in
      let rest = all_weigh defs nets own.1 (All-tail HasRoomBeside def defs range) hold.1 in
      λ i. one i ∷ rest i

  all_keep : (defs : List RuleDef) (nets : List RuleNet) (k : ℕ) (def : RuleDef) (net : RuleNet) → AreNetsOf defs nets → All HasRoomBeside defs → RulesHold m heads takers defs nets
      → slice_get defs k ≡ Some def → slice_get nets k ≡ Some net → AreSame (rows_kept heads net) (rule_rows m facts def)
  all_keep [] nets k def net own range hold at there = absurd (let e : None ≡ Some def = at in cc)
  all_keep (d ∷ defs) [] k def net own range hold at there = absurd own
  all_keep (d ∷ defs) (n ∷ nets) zero def net own range hold at there =
      let here = rule_keeps m heads takers facts d n own.0 are mean by_id (All-head HasRoomBeside d defs range) hold.0 in
      let one : d ≡ def = (let e : Some d ≡ Some def = at in cc) in
      let other : n ≡ net = (let e : Some n ≡ Some net = there in cc) in
      subst (λ (x : RuleDef). AreSame (rows_kept heads net) (rule_rows m facts x)) one (subst (λ (x : RuleNet). AreSame (rows_kept heads x) (rule_rows m facts d)) other here)
  all_keep (d ∷ defs) (n ∷ nets) (suc k) def net own range hold at there = all_keep defs nets k def net own.1 (All-tail HasRoomBeside d defs range) hold.1 at there

module _ (m : Meaning) (defs : List RuleDef) (net : NetView) (facts : Facts)
    (own : AreNetsOf defs net.rules) (range : All HasRoomBeside defs) (by_id : AreById facts) (stands : NetStands m defs net facts) where
  -- the totals of a network are what the matches of each rule weigh together
  pub stands_weigh : totals_of net.rules ≡ weights_of m facts defs
  stands_weigh = all_weigh m net.heads.now stands.takers facts stands.heads_hold.takers_are stands.heads_hold.mean by_id defs net.rules own range stands.rules_hold

  -- the rows that it keeps are those of the rule
  pub stands_keep : (k : ℕ) (def : RuleDef) (rule : RuleNet) → slice_get defs k ≡ Some def → slice_get net.rules k ≡ Some rule
      → AreSame (rows_kept net.heads.now rule) (rule_rows m facts def)
  stands_keep k def rule at there = all_keep m net.heads.now stands.takers facts stands.heads_hold.takers_are stands.heads_hold.mean by_id defs net.rules k def rule own range stands.rules_hold at there
