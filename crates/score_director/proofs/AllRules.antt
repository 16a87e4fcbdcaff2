-- All rules are led on where the records of facts turn.
use Rattle.std.proofs.Common.{◌<◌, ℕ, List, [], ◌∷◌, length, refl, arith}
use Rattle.std.proofs.lemmas.List.Elements.{All-head, All-tail}
use Rattle.plan_rules.specs.declared.rule.RuleDef.{RuleDef}
use Rattle.head_changes.specs.declared.changes.ClassChange.{ClassChange}
use Rattle.score_director.specs.declared.rule.RuleNet.{RuleNet}
use Rattle.score_director.specs.Laws.{AllForesee, AllTurn, AreRulesOf}
use Rattle.score_director.specs.Net.{IsInRange}
use Rattle.score_director.specs.Rule.{KnowsClasses}
use Rattle.score_director.specs.Turning.{IsRuleOf}
use Rattle.score_director.proofs.RuleSteps.{rules_foresee, rules_turn}

-- where the change of a class is known, there is one
some_change : (changes : List ClassChange) (class : ℕ) → class < length changes → ClassChange
some_change [] class within = absurd (omega (arith, within))
some_change (change ∷ changes) class within = change

module _ (changes : List ClassChange) (sizes : List ℕ) (def : RuleDef) (defs : List RuleDef) (net : RuleNet) (nets : List RuleNet) where
  -- what is known of the nodes of all rules is known of those of the first, and of the others
  first_of : AreRulesOf changes sizes (def ∷ defs) (net ∷ nets) → IsRuleOf changes sizes def net
  first_of are = record {
    is = are.are.0;
    knows = All-head (KnowsClasses changes changes) net nets are.know;
    range = All-head (IsInRange sizes) def defs are.range;
  }

  others_of : AreRulesOf changes sizes (def ∷ defs) (net ∷ nets) → AreRulesOf changes sizes defs nets
  others_of are = record {
    are = are.are.1;
    know = All-tail (KnowsClasses changes changes) net nets are.know;
    range = All-tail (IsInRange sizes) def defs are.range;
  }

pub all_foresee : AllForesee
all_foresee m heads more changes takers facts later sizes [] [] [] lead are hold foresees = refl
all_foresee m heads more changes takers facts later sizes [] [] (t ∷ ts) lead are hold foresees = absurd foresees
all_foresee m heads more changes takers facts later sizes [] (n ∷ ns) totals lead are hold foresees = absurd hold
all_foresee m heads more changes takers facts later sizes (d ∷ ds) [] totals lead are hold foresees = absurd hold
all_foresee m heads more changes takers facts later sizes (d ∷ ds) (n ∷ ns) [] lead are hold foresees = absurd foresees
all_foresee m heads more changes takers facts later sizes (d ∷ ds) (n ∷ ns) (t ∷ ts) lead are hold foresees =
    let is = first_of changes sizes d ds n ns are in
    let change = some_change changes n.class is.knows.head in
    let first = rules_foresee m heads more changes takers facts later sizes d n t change lead is hold.0 foresees.0 in
    let rest = others_of changes sizes d ds n ns are in
    let others = all_foresee m heads more changes takers facts later sizes ds ns ts lead rest hold.1 foresees.1 in
    λ i. first i ∷ others i

pub all_turn : AllTurn
all_turn m heads more rest changes takers facts later sizes [] [] [] found lead are hold finds stores extends later_hold = tt
all_turn m heads more rest changes takers facts later sizes [] [] (v ∷ vs) [] lead are hold finds stores extends later_hold = absurd stores
all_turn m heads more rest changes takers facts later sizes [] [] (v ∷ vs) (f ∷ fs) lead are hold finds stores extends later_hold = absurd stores
all_turn m heads more rest changes takers facts later sizes [] (n ∷ ns) news found lead are hold finds stores extends later_hold = absurd hold
all_turn m heads more rest changes takers facts later sizes (d ∷ ds) [] news found lead are hold finds stores extends later_hold = absurd hold
all_turn m heads more rest changes takers facts later sizes (d ∷ ds) (n ∷ ns) [] found lead are hold finds stores extends later_hold = absurd stores
all_turn m heads more rest changes takers facts later sizes (d ∷ ds) (n ∷ ns) (v ∷ vs) [] lead are hold finds stores extends later_hold = absurd stores
all_turn m heads more rest changes takers facts later sizes (d ∷ ds) (n ∷ ns) (v ∷ vs) (f ∷ fs) lead are hold finds stores extends later_hold =
    let is = first_of changes sizes d ds n ns are in
    let change = some_change changes n.class is.knows.head in
    let others = others_of changes sizes d ds n ns are in (
      rules_turn m heads more rest changes takers facts later sizes d n v f change lead is hold.0 finds.0 (stores.0 change) extends later_hold,
      all_turn m heads more rest changes takers facts later sizes ds ns vs fs lead others hold.1 finds.1 stores.1 extends later_hold,
    )
