-- The nodes of a rule stand for the same rows while the heads gain records.
use Rattle.std.proofs.Common.{◌≡◌, ◌∙◌, ◌&&◌, ℕ, Bool, true, false, List, [], ◌∷◌, Option, refl, sym, ap, subst, pos, ◌+◌}
use Rattle.std.specs.Prelude.{◌↔◌}
use Rattle.std.specs.Option.{option_map_or}
use Rattle.std.specs.List.{list_all}
use Rattle.std.proofs.lemmas.List.Sums.{sum_by-cons}
use Rattle.plan_rules.specs.declared.row.Part.{Part}
use Rattle.plan_rules.specs.Bags.{AreSame}
use Rattle.plan_rules.specs.Meaning.{Meaning}
use Rattle.stream_heads.specs.declared.cells.Cell.{Cell}
use Rattle.stream_heads.specs.declared.member.Member.{Member}
use Rattle.stream_heads.specs.Meant.{Extends, Rows, all_live, is_live}
use Rattle.stream_heads.specs.Sides.{all_numbered}
use Rattle.stream_heads.proofs.Meanings.{row_stays}
use Rattle.stream_end.specs.Ends.{IsWeighed}
use Rattle.stream_end.specs.Weights.{weight_at, weight_sum, weights_at}
use Rattle.head_changes.specs.Takers.{Takers}
use Rattle.score_director.specs.declared.node.NetNode.{NetNode}
use Rattle.score_director.specs.declared.rule.RuleNet.{RuleNet}
use Rattle.score_director.specs.Chain.{ChainHolds, stations}
use Rattle.score_director.specs.Meaning.{AreLive}
use Rattle.score_director.specs.Nodes.{station_of}
use Rattle.score_director.specs.Rule.{RuleHolds}
use Rattle.score_director.specs.Stations.{Station, cells_after, cells_behind}
use Rattle.score_director.proofs.Alive.{stations_keep_live}
use Rattle.score_director.proofs.Holds.{nodes_stay}
use Rattle.score_director.proofs.Stays.{cells_stay}

both_left : (a b : Bool) → (a && b) ≡ true → a ≡ true
both_left true b is = refl
both_left false b is = is

both_right : (a b : Bool) → (a && b) ≡ true → b ≡ true
both_right true b is = is
both_right false b is = absurd (let e : false ≡ true = is in cc)

module _ (m : Meaning) (heads more : Rows) (extends : Extends heads more) where
  -- live rows weigh the same
  weight_stays : (weigher : Option ℕ) (row : List Cell) → list_all (is_live heads) row ≡ true → weight_at m more weigher row ≡ weight_at m heads weigher row
  weight_stays weigher row alive = ap (λ (parts : List Part). option_map_or (λ number. m.weight_of number parts) weigher 1) (row_stays heads more extends row alive)

  weights_stay : (weigher : Option ℕ) (rows : List (List Cell)) → all_live heads rows ≡ true → all_numbered (weights_at m more weigher) rows ≡ all_numbered (weights_at m heads weigher) rows
  weights_stay weigher [] alive = refl
  weights_stay weigher (row ∷ rows) alive =
      let here = weight_stays weigher row (both_left _ (all_live heads rows) alive) in
      let rest = weights_stay weigher rows (both_right (list_all (is_live heads) row) _ alive) in
      λ i. (numbered_by row (here i)) ∷ rest i
    where
      numbered_by : List Cell → ℕ → Member
      numbered_by row weight = record { cells = row; numbers = pos weight ∷ [] }

  sum_stays : (weigher : Option ℕ) (rows : List (List Cell)) → all_live heads rows ≡ true → weight_sum m more weigher rows ≡ weight_sum m heads weigher rows
  sum_stays weigher [] alive = refl
  sum_stays weigher (row ∷ rows) alive =
      let here = weight_stays weigher row (both_left _ (all_live heads rows) alive) in
      let rest = sum_stays weigher rows (both_right (list_all (is_live heads) row) _ alive) in
      sum_by-cons (weight_at m more weigher) row rows ∙ (λ i. here i + rest i) ∙ sym (sum_by-cons (weight_at m heads weigher) row rows)

  -- an end that stands for live rows stands for them by both heads
  weighed_stays : (weigher : Option ℕ) (rows : List (List Cell)) (kept : List Member) (total : ℕ) → all_live heads rows ≡ true
      → IsWeighed m heads weigher rows kept total ↔ IsWeighed m more weigher rows kept total
  weighed_stays weigher rows kept total alive =
      let numbers = weights_stay weigher rows alive in
      let sums = sum_stays weigher rows alive in (
        λ is. record { members = subst (AreSame kept) (sym numbers) is.members; fit = is.fit; few = is.few; sum = is.sum ∙ sym sums },
        λ is. record { members = subst (AreSame kept) numbers is.members; fit = is.fit; few = is.few; sum = is.sum ∙ sums },
      )

  module _ (takers : Takers) (live : AreLive heads takers) where
    -- the rows at the end of some stations are the same, and live
    pub behind_stays : (rows : List (List Cell)) (ss : List Station) → all_live heads rows ≡ true → cells_behind m more takers rows ss ≡ cells_behind m heads takers rows ss
    behind_stays rows [] alive = refl
    behind_stays rows (s ∷ ss) alive =
        ap (λ (rs : List (List Cell)). cells_behind m more takers rs ss) (cells_stay m heads more takers rows s extends live alive)
        ∙ behind_stays (cells_after m heads takers rows s) ss (stations_keep_live m heads heads takers rows s live alive)

    pub behind_lives : (rows : List (List Cell)) (ss : List Station) → all_live heads rows ≡ true → all_live heads (cells_behind m heads takers rows ss) ≡ true
    behind_lives rows [] alive = alive
    behind_lives rows (s ∷ ss) alive = behind_lives (cells_after m heads takers rows s) ss (stations_keep_live m heads heads takers rows s live alive)

    chain_stays : (rows : List (List Cell)) (ns : List NetNode) → all_live heads rows ≡ true → ChainHolds m heads takers rows ns ↔ ChainHolds m more takers rows ns
    chain_stays rows [] alive = (λ t. t, λ t. t)
    chain_stays rows (n ∷ ns) alive =
        let st = station_of n in
        let same = cells_stay m heads more takers rows st extends live alive in
        let rest = chain_stays (cells_after m heads takers rows st) ns (stations_keep_live m heads heads takers rows st live alive) in
        let one = nodes_stay m heads more takers rows n extends live alive in (
          λ h. (one.0 h.0, subst (λ (rs : List (List Cell)). ChainHolds m more takers rs ns) (sym same) (rest.0 h.1)),
          λ h. (one.1 h.0, rest.1 (subst (λ (rs : List (List Cell)). ChainHolds m more takers rs ns) same h.1)),
        )

    -- and so do the nodes of a rule and its end
    pub rule_stays : (rows : List (List Cell)) (net : RuleNet) → all_live heads rows ≡ true → RuleHolds m heads takers rows net ↔ RuleHolds m more takers rows net
    rule_stays rows net alive =
        let ss = stations net.nodes.items in
        let end = net.end in
        let nodes = chain_stays rows net.nodes.items alive in
        let same = behind_stays rows ss alive in
        let weighed = weighed_stays end.weigher (cells_behind m heads takers rows ss) end.now end.total (behind_lives rows ss alive) in (
          λ h. record {
            nodes = nodes.0 h.nodes;
            weighed = subst (λ (rs : List (List Cell)). IsWeighed m more end.weigher rs end.now end.total) (sym same) (weighed.0 h.weighed);
          },
          λ h. record {
            nodes = nodes.1 h.nodes;
            weighed = weighed.1 (subst (λ (rs : List (List Cell)). IsWeighed m more end.weigher rs end.now end.total) same h.weighed);
          },
        )
