-- What a change that may lead to more rows or to a greater score is refused for, by its deed.
use Rattle.std.proofs.Common.{◌≡◌, ◌∙◌, ◌+◌, ◌≤◌, inl, inr, ℕ, true, false, cond, List, Option, Some, None, length, map, set, refl, sym, ap, subst}
use Rattle.std.specs.Option.{option_map, option_or}
use Rattle.plan_facts.specs.Limits.{weight_limit}
use Rattle.plan_facts.specs.Plan.{PlanView}
use Rattle.plan_facts.specs.Refusal.{IsRefusal}
use Rattle.plan_facts.specs.declared.record.ClassDef.{ClassDef}
use Rattle.plan_rules.specs.Range.{range_fault_of, size_of, sizes_of, MayJudge}
use Rattle.plan_rules.specs.declared.rule.RuleDef.{RuleDef}
use Rattle.plan_changes.specs.Change.{ChangeView}
use Rattle.plan_changes.specs.Deeds.{is_weight}
use Rattle.plan_changes.specs.Named.{value_given}
use Rattle.plan_changes.specs.Performed.{names_after, number_given, plan_after, plan_by, weights_after, MayPerform}
use Rattle.plan_changes.specs.Ready.{ReadyView, ready_fact_of, ready_of, ready_rule_of}
use Rattle.plan_changes.specs.declared.change.Deed.{Deed}
use Rattle.plan_changes.specs.declared.change.Deed.TheVariants as deed
use Rattle.plan_changes.specs.declared.fault.ChangeFault.{ChangeFault}
use Rattle.score_director.specs.Refused.{may_widen, of_range, widening_fault}
use Rattle.score_director.specs.View.{DirectorView}
use Rattle.score_director.proofs.Widened.{judges_after, sizes_added}

-- what a deed is refused for, where it may lead to more rows or to a greater score
abbrev fault_by : Deed → List ℕ → DirectorView → List (List ℕ) → ReadyView → Option ChangeFault
fault_by done caps seen names ready =
    cond (may_widen done) (option_map of_range (range_fault_of (sizes_of (plan_by done ready names seen.plan)) seen.rules (cond (is_weight done) (set seen.weights ready.rule ready.weight) seen.weights) caps)) None

by_deed : (done : Deed) (caps : List ℕ) (seen : DirectorView) (names : List (List ℕ)) (ready : ReadyView) → ready.deed ≡ done → widening_fault caps seen names ready ≡ fault_by done caps seen (names_after ready names) ready
unfolding plan_after
by_deed done caps seen names ready is = ap (λ d. fault_by d caps seen (names_after ready names) ready) is

-- one more fact is refused for the rows and the score of a plan with one more in its class
pub add_fault : (caps : List ℕ) (seen : DirectorView) (names : List (List ℕ)) (ready : ReadyView) → ready.deed ≡ deed.Add → widening_fault caps seen names ready ≡ option_map of_range (range_fault_of (set (sizes_of seen.plan) ready.class (size_of (sizes_of seen.plan) ready.class + 1)) seen.rules seen.weights caps)
add_fault caps seen names ready is =
    let all = names_after ready names in
    by_deed deed.Add caps seen names ready is
    ∙ ap (λ (sizes : List ℕ). option_map of_range (range_fault_of sizes seen.rules seen.weights caps)) (sizes_added seen.plan ready.class (map (number_given all) ready.fields) (map value_given ready.values))

-- what one more fact is refused for, from parts of the director
pub grown_fault : (caps : List ℕ) (seen : DirectorView) (names : List (List ℕ)) (ready : ReadyView) (rules : List RuleDef) (weights : List ℕ) (plan : PlanView) (class : ℕ) → ready.deed ≡ deed.Add → rules ≡ seen.rules → weights ≡ seen.weights → plan ≡ seen.plan → class ≡ ready.class →
    option_map of_range (range_fault_of (set (sizes_of plan) class (size_of (sizes_of plan) class + 1)) rules weights caps) ≡ widening_fault caps seen names ready
grown_fault caps seen names ready rules weights plan class is own light same there =
    (λ i. option_map of_range (range_fault_of (set (sizes_of (same i)) (there i) (size_of (sizes_of (same i)) (there i) + 1)) (own i) (light i) caps))
    ∙ sym (add_fault caps seen names ready is)

-- another weight of a rule is refused for the rows and the score under it
pub weight_fault : (caps : List ℕ) (seen : DirectorView) (names : List (List ℕ)) (ready : ReadyView) → ready.deed ≡ deed.Weight → widening_fault caps seen names ready ≡ option_map of_range (range_fault_of (sizes_of seen.plan) seen.rules (set seen.weights ready.rule ready.weight) caps)
weight_fault caps seen names ready is = by_deed deed.Weight caps seen names ready is

-- what another weight is refused for, from parts of the director
pub weighed_fault : (caps : List ℕ) (seen : DirectorView) (names : List (List ℕ)) (ready : ReadyView) (rules : List RuleDef) (weights : List ℕ) (plan : PlanView) (rule weight : ℕ) → ready.deed ≡ deed.Weight → rules ≡ seen.rules → weights ≡ seen.weights → plan ≡ seen.plan → rule ≡ ready.rule → weight ≡ ready.weight →
    option_map of_range (range_fault_of (sizes_of plan) rules (set weights rule weight) caps) ≡ widening_fault caps seen names ready
weighed_fault caps seen names ready rules weights plan rule weight is own light same there heavy =
    (λ i. option_map of_range (range_fault_of (sizes_of (same i)) (own i) (set (light i) (there i) (heavy i)) caps))
    ∙ sym (weight_fault caps seen names ready is)

mapped_none : {A B : Type 0} (f : A → B) (found : Option A) → option_map f found ≡ None → found ≡ None
mapped_none f None none = refl
mapped_none f (Some x) none = cc

-- where a change isn't refused for them, rows and score are in range after it
pub widened_in_range : (caps : List ℕ) (seen : DirectorView) (names : List (List ℕ)) (ready : ReadyView) → widening_fault caps seen names ready ≡ None → may_widen ready.deed ≡ true → range_fault_of (sizes_of (plan_after ready names seen.plan)) seen.rules (weights_after ready seen.weights) caps ≡ None
widened_in_range caps seen names ready none wide =
    let found = range_fault_of (sizes_of (plan_after ready names seen.plan)) seen.rules (weights_after ready seen.weights) caps in
    mapped_none of_range found (sym (ap (λ b. cond b (option_map of_range found) None) wide) ∙ none)

-- rules that may judge the director's plan may judge it after a change that isn't refused
pub ready_judges : (caps : List ℕ) (seen : DirectorView) (names : List (List ℕ)) (ready : ReadyView) (rules : List RuleDef) → rules ≡ seen.rules → MayPerform ready seen.plan (length seen.weights) → ready.weight ≤ weight_limit → widening_fault caps seen names ready ≡ None → MayJudge rules caps seen.weights (sizes_of seen.plan) →
    MayJudge rules caps (weights_after ready seen.weights) (sizes_of (plan_after ready names seen.plan))
ready_judges caps seen names ready rules own may light none judges =
    subst (λ rs. MayJudge rs caps (weights_after ready seen.weights) (sizes_of (plan_after ready names seen.plan))) (sym own)
    (judges_after seen.rules caps seen.weights seen.plan names ready (subst (λ rs. MayJudge rs caps seen.weights (sizes_of seen.plan)) own judges) may light (widened_in_range caps seen names ready none))

-- what is ready does what the change says
pub ready_deed : (classes : List ClassDef) (plan : PlanView) (rules : List (List ℕ)) (change : ChangeView) → (ready_of classes plan rules change).deed ≡ change.deed
unfolding ready_of
ready_deed classes plan rules change =
    elim (is_weight change.deed) as (λ b. (cond b (ready_rule_of rules change) (ready_fact_of classes plan change)).deed ≡ change.deed) [ true ↦ refl | false ↦ refl ]

-- what is ready gives the weight that the change says
pub ready_weight : (classes : List ClassDef) (plan : PlanView) (rules : List (List ℕ)) (change : ChangeView) → is_weight change.deed ≡ true → (ready_of classes plan rules change).weight ≡ change.weight
unfolding ready_of
ready_weight classes plan rules change is = ap (λ b. (cond b (ready_rule_of rules change) (ready_fact_of classes plan change)).weight) is

-- other deeds aren't refused for rows or score
pub other_fault : (caps : List ℕ) (seen : DirectorView) (names : List (List ℕ)) (ready : ReadyView) → may_widen ready.deed ≡ false → widening_fault caps seen names ready ≡ None
other_fault caps seen names ready narrow = ap (λ b. cond b (option_map of_range (range_fault_of (sizes_of (plan_after ready names seen.plan)) seen.rules (cond (is_weight ready.deed) (set seen.weights ready.rule ready.weight) seen.weights) caps)) None) narrow

-- what one looks for first is refused first
pub refused_first : {F : Type 0} (memory : F) (found rest : Option F) (fault : F) → IsRefusal memory found fault → IsRefusal memory (option_or found rest) fault
refused_first memory found rest fault (inl want) = inl want
refused_first memory found rest fault (inr is) = inr (ap (λ o. option_or o rest) is)

-- where the first has no fault, that of the second is the first
pub refused_next : {F : Type 0} (memory : F) (found rest : Option F) (fault : F) → found ≡ None → IsRefusal memory rest fault → IsRefusal memory (option_or found rest) fault
refused_next memory found rest fault none (inl want) = inl want
refused_next memory found rest fault none (inr is) = inr (ap (λ o. option_or o rest) none ∙ is)

-- where neither has a fault there is none
pub neither : {F : Type 0} (found rest : Option F) → found ≡ None → rest ≡ None → option_or found rest ≡ None
neither found rest first second = ap (λ o. option_or o rest) first ∙ second
