-- What a change of a rule's weight leaves as it is, and what another change does.
use Rattle.std.proofs.Common.{◌≡◌, ℕ, Bool, true, false, cond, List, [], set, ap, refl}
use Rattle.plan_facts.specs.Plan.{PlanView}
use Rattle.plan_changes.specs.Deeds.{gives_fields, is_weight}
use Rattle.plan_changes.specs.Performed.{names_after, numbered, plan_after, plan_by, texts_in, weights_after}
use Rattle.plan_changes.specs.Ready.{ReadyView}
use Rattle.plan_changes.specs.declared.change.Deed.{Deed}
use Rattle.plan_changes.specs.declared.change.Deed.TheVariants as deed

same_plan : (d : Deed) (ready : ReadyView) (names : List (List ℕ)) (plan : PlanView) → is_weight d ≡ true → plan_by d ready names plan ≡ plan
same_plan deed.Add ready names plan is = cc
same_plan deed.Remove ready names plan is = cc
same_plan deed.Alter ready names plan is = cc
same_plan deed.Assign ready names plan is = cc
same_plan deed.Weight ready names plan is = refl

-- the plan stays
pub weighed_plan : (ready : ReadyView) (names : List (List ℕ)) (plan : PlanView) → is_weight ready.deed ≡ true → plan_after ready names plan ≡ plan
unfolding plan_after
weighed_plan ready names plan is = same_plan ready.deed ready (names_after ready names) plan is

no_texts : (d : Deed) → is_weight d ≡ true → gives_fields d ≡ false
no_texts deed.Add is = cc
no_texts deed.Remove is = refl
no_texts deed.Alter is = cc
no_texts deed.Assign is = refl
no_texts deed.Weight is = refl

-- the names stay
pub weighed_names : (ready : ReadyView) (names : List (List ℕ)) → is_weight ready.deed ≡ true → names_after ready names ≡ names
weighed_names ready names is = ap (λ (b : Bool). numbered names (cond b (texts_in ready.fields) [])) (no_texts ready.deed is)

-- a change of a fact leaves the weights
pub weights_stay : (ready : ReadyView) (weights : List ℕ) → is_weight ready.deed ≡ false → weights_after ready weights ≡ weights
weights_stay ready weights is = ap (λ (b : Bool). cond b (set weights ready.rule ready.weight) weights) is
