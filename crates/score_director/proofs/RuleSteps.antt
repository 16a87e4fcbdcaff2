-- A rule is led on where the records of facts turn.
use Rattle.std.proofs.Common.{◌≡◌, ◌<◌, ◌∙◌, ◌&&◌, ℕ, Bool, true, false, List, [], ◌∷◌, Option, length, refl, sym, ap, subst}
use Rattle.std.specs.Prelude.{is_some}
use Rattle.std.specs.List.{list_all}
use Rattle.std.proofs.lemmas.List.{get_or-map}
use Rattle.plan_rules.specs.declared.rule.Head.{Head}
use Rattle.plan_rules.specs.declared.rule.Head.TheVariants as head
use Rattle.plan_rules.specs.declared.rule.RuleDef.{RuleDef}
use Rattle.plan_rules.specs.Meaning.{Meaning}
use Rattle.plan_rules.specs.Named.{head_class}
use Rattle.plan_rules.specs.Rows.{Facts}
use Rattle.plan_rules.specs.Totals.{match_weight}
use Rattle.stream_heads.specs.declared.cells.Cell.{Cell}
use Rattle.stream_heads.specs.declared.cells.Cell.TheVariants as cell
use Rattle.stream_heads.specs.Exact.{IsExact}
use Rattle.stream_heads.specs.Meant.{Extends, Rows, all_live, is_live, row_at}
use Rattle.stream_end.specs.Weights.{weight_sum}
use Rattle.stream_join.specs.Tally.{HaveOwnIds}
use Rattle.plan_rules.proofs.Sums.{sum_by-map}
use Rattle.head_changes.specs.declared.changes.ClassChange.{ClassChange}
use Rattle.head_changes.specs.Changes.{came, gone_of, led_by, went}
use Rattle.head_changes.specs.Gathered.{TakersLead}
use Rattle.head_changes.specs.Takers.{AreTakers, Takers}
use Rattle.score_director.specs.declared.rule.RuleNet.{RuleNet}
use Rattle.score_director.specs.declared.node.NetNode.{NetNode}
use Rattle.score_director.specs.Chain.{BeginWithOwnIds, stations}
use Rattle.score_director.specs.Rule.{IsNetOf, RuleStep, head_change, head_nulls}
use Rattle.score_director.specs.Stations.{AreFew, AreOnTheWay, Station, cells_behind, head_cells, rule_cells}
use Rattle.score_director.specs.Turning.{FactsLead, HoldsTakers, IsRuleOf, RulesForesee, RulesTurn}
use Rattle.score_director.proofs.Begins.{begins_with_both}
use Rattle.score_director.proofs.Chains.{rule_stays}
use Rattle.score_director.proofs.Fews.{rules_are_few}
use Rattle.score_director.proofs.Means.{cells_mean_rows}
use Rattle.score_director.proofs.OwnIds.{own_ids}
use Rattle.score_director.proofs.Ways.{rules_are_on_the_way}

and_true : (a b : Bool) → a ≡ true → b ≡ true → (a && b) ≡ true
and_true a b one other = ap (λ (x : Bool). x && b) one ∙ other

left_of : (a b : Bool) → (a && b) ≡ true → a ≡ true
left_of true b is = refl
left_of false b is = is

right_of : (a b : Bool) → (a && b) ≡ true → b ≡ true
right_of true b is = is
right_of false b is = absurd (let e : false ≡ true = is in cc)

-- what is live is live by heads that have more records
module _ (heads more : Rows) (extends : Extends heads more) where
  cell_lives : (c : Cell) → is_live heads c ≡ true → is_live more c ≡ true
  cell_lives (cell.Place n) alive = ap is_some (extends n alive) ∙ alive
  cell_lives (cell.Num n) alive = refl

  row_lives : (row : List Cell) → list_all (is_live heads) row ≡ true → list_all (is_live more) row ≡ true
  row_lives [] alive = refl
  row_lives (c ∷ cs) alive = and_true (is_live more c) _ (cell_lives c (left_of _ (list_all (is_live heads) cs) alive)) (row_lives cs (right_of (is_live heads c) _ alive))

  rows_live : (rows : List (List Cell)) → all_live heads rows ≡ true → all_live more rows ≡ true
  rows_live [] alive = refl
  rows_live (row ∷ rows) alive = and_true (list_all (is_live more) row) _ (row_lives row (left_of _ (all_live heads rows) alive)) (rows_live rows (right_of (list_all (is_live heads) row) _ alive))

  pub takers_more : (takers : Takers) → AreTakers heads takers → AreTakers more takers
  takers_more takers are = λ class nulls. (let is = are class nulls in record { different = is.different; live = rows_live (takers class nulls) is.live; wide = is.wide })

-- the rows that a rule begins with are those of its class that take part
pub head_is : (takers : Takers) (h : Head) → head_cells takers h ≡ takers (head_class h) (head_nulls h)
head_is takers (head.ForEach class) = refl
head_is takers (head.ForEachNulls class) = refl
head_is takers (head.Pairs class joiners) = refl

-- and so they are of the class that its nodes name
pub begins_with : (def : RuleDef) (net : RuleNet) → IsNetOf def net → (takers : Takers) → takers net.class net.nulls ≡ head_cells takers def.head
begins_with def net is takers = ap (λ (class : ℕ). takers class net.nulls) is.class ∙ ap (takers (head_class def.head)) is.nulls ∙ sym (head_is takers def.head)

-- the change of a class leads on the rows that a rule begins with
pub head_leads : (changes : List ClassChange) (other : ClassChange) (def : RuleDef) (net : RuleNet) (takers later : Takers)
    → IsNetOf def net → net.class < length changes → TakersLead changes takers later
    → IsExact (head_cells takers def.head) (head_change changes other net).gone.items (head_change changes other net).come.items (head_cells later def.head)
head_leads changes other def net takers later is within lead =
    let change = head_change changes other net in
    let gone = get_or-map (went net.nulls) changes net.class other [] within in
    let come = get_or-map (came net.nulls) changes net.class other [] within in
    let E : List (List Cell) → List (List Cell) → List (List Cell) → List (List Cell) → Type 0 = IsExact in
    subst (λ (rows : List (List Cell)). E rows change.gone.items change.come.items (head_cells later def.head)) (begins_with def net is takers)
    (subst (λ (rows : List (List Cell)). E (takers net.class net.nulls) change.gone.items change.come.items rows) (begins_with def net is later)
    (subst (λ (rows : List (List Cell)). E (takers net.class net.nulls) rows change.come.items (later net.class net.nulls)) gone
    (subst (λ (rows : List (List Cell)). E (takers net.class net.nulls) (gone_of changes net.class net.nulls) rows (later net.class net.nulls)) come (lead net.class net.nulls))))

-- rows with ids of their own, whatever begins with them
pub begins_with_own_ids : (heads : Rows) (rows : List (List Cell)) (nodes : List NetNode) → HaveOwnIds heads rows → BeginWithOwnIds heads rows nodes
begins_with_own_ids heads rows [] own = tt
begins_with_own_ids heads rows (n ∷ ns) own = λ up. own

module _ (m : Meaning) (heads more : Rows) (changes : List ClassChange) (takers : Takers) (facts later : Facts) (sizes : List ℕ)
    (def : RuleDef) (net : RuleNet) (other : ClassChange) (lead : FactsLead heads more changes takers facts later sizes) (is : IsRuleOf changes sizes def net) where
  abbrev L : Takers
  L = led_by changes takers

  pub head_lives : all_live heads (head_cells takers def.head) ≡ true
  head_lives = ap (all_live heads) (head_is takers def.head) ∙ (lead.hold.takers_are (head_class def.head) (head_nulls def.head)).live

  pub later_own : HaveOwnIds more (head_cells L def.head)
  later_own = subst (HaveOwnIds more) (sym (head_is L def.head)) (own_ids more L later lead.gathered.mean lead.later_facts.by_id (head_class def.head) (head_nulls def.head))

  abbrev pub rule_step : HoldsTakers m heads takers def net → RuleStep m more net changes (head_change changes other net)
  rule_step holds =
      let up = (rule_stays m heads more lead.gathered.extends takers (λ class nulls. (lead.hold.takers_are class nulls).live) (head_cells takers def.head) net head_lives).0 holds in
      let rights = takers_more heads more lead.gathered.extends takers lead.hold.takers_are in
      let back = sym is.is.stations in
      record {
        chain = record {
          takers = takers;
          later_takers = L;
          rows = head_cells takers def.head;
          later = head_cells L def.head;
          width = 1;
          holds = up.nodes;
          known = is.knows.nodes;
          ways = subst (λ (ss : List Station). AreOnTheWay m more takers 1 (head_cells takers def.head) ss) back (rules_are_on_the_way m more takers def rights is.range.room);
          later_ways = subst (λ (ss : List Station). AreOnTheWay m more L 1 (head_cells L def.head) ss) back (rules_are_on_the_way m more L def lead.gathered.takers_are is.range.room);
          few =
              subst (λ (ss : List Station). AreFew m more L (head_cells L def.head) ss) back
              (rules_are_few m more L later sizes def lead.gathered.takers_are lead.gathered.mean lead.later_facts.by_id is.range.room lead.within is.range.few);
          rights = rights;
          later_rights = lead.gathered.takers_are;
          left_leads = head_leads changes other def net takers L is.is is.knows.head lead.gathered.lead;
          rights_lead = lead.gathered.lead;
          begin = begins_with_both changes other def.head def.nodes net.class net.nulls net.nodes.items is.is.class is.is.nulls is.knows.head is.is.stations;
          own_ids = begins_with_own_ids more (head_cells L def.head) net.nodes.items later_own;
        };
        weighed = up.weighed;
      }

pub rules_foresee : RulesForesee
rules_foresee m heads more changes takers facts later sizes def net total other lead is holds foresees =
    let L = led_by changes takers in
    let end = cells_behind m more L (head_cells L def.head) (stations net.nodes.items) in
    let one = foresees other (rule_step m heads more changes takers facts later sizes def net other lead is holds) refl in
    let two : weight_sum m more net.end.weigher end ≡ weight_sum m more def.weigh end = ap (λ (w : Option ℕ). weight_sum m more w end) is.is.weigher in
    let three : weight_sum m more def.weigh end ≡ weight_sum m more def.weigh (rule_cells m more L def) = ap (λ (ss : List Station). weight_sum m more def.weigh (cells_behind m more L (head_cells L def.head) ss)) is.is.stations in
    let means = cells_mean_rows m more L later def lead.gathered.takers_are lead.gathered.mean lead.later_facts.by_id is.range.room in
    one ∙ two ∙ three ∙ sym (sum_by-map (match_weight m def) (row_at more) (rule_cells m more L def)) ∙ means.sums (match_weight m def)

pub rules_turn : RulesTurn
rules_turn m heads more rest changes takers facts later sizes def net new found other lead is holds finds stores extends hold =
    let L = led_by changes takers in
    let step = rule_step m heads more changes takers facts later sizes def net other lead is holds in
    let stored = stores m more step (finds other step) in
    let alive = ap (all_live rest) (head_is L def.head) ∙ (hold.takers_are (head_class def.head) (head_nulls def.head)).live in
    (rule_stays m rest more extends L (λ class nulls. (hold.takers_are class nulls).live) (head_cells L def.head) new alive).1 stored
