-- Rows and score stay in range after a change that may be made.
use Rattle.std.proofs.Common.{◌≡◌, ◌∙◌, ◌≤◌, ◌<◌, ◌+◌, ◌||◌, ℕ, ℤ, zero, suc, Bool, true, false, cond, List, [], ◌∷◌, Option, None, length, map, set, get_or, fold, not, ◌==◌, refl, sym, ap, arith, All}
use Rattle.std.specs.List.{enumerate_from}
use Rattle.std.proofs.lemmas.List.{length-append, length-map, length-set, map-set}
use Rattle.std.proofs.lemmas.List.Elements.{All-set}
use Rattle.plan_facts.specs.Limits.{weight_limit}
use Rattle.plan_facts.specs.Plan.{PlanView, ClassView, class_of, no_class}
use Rattle.plan_facts.specs.PlanChanges.{class_let_go, with_fact, without_fact, without_record}
use Rattle.plan_facts.specs.declared.record.Raw.{Raw}
use Rattle.plan_facts.proofs.Added.{grown, with_fact_is}
use Rattle.plan_facts.proofs.Changed.{each_class}
use Rattle.plan_facts.proofs.Sound.{KeepsIds}
use Rattle.plan_changes.specs.Deeds.{is_add, is_weight}
use Rattle.plan_changes.specs.Performed.{names_after, plan_after, plan_by, weights_after, with_choice, with_item, MayPerform}
use Rattle.plan_changes.specs.Ready.{ReadyView}
use Rattle.plan_changes.specs.declared.change.Deed.{Deed}
use Rattle.plan_changes.specs.declared.change.Deed.TheVariants as deed
use Rattle.plan_changes.proofs.Kept.{choice_keeps, item_keeps, keeps_after, keeps_itself}
use Rattle.plan_rules.specs.Range.{range_fault_of, size_of, sizes_of, MayJudge}
use Rattle.plan_rules.specs.declared.rule.RuleDef.{RuleDef}
use Rattle.plan_rules.proofs.Lengths.{length-filter-le}
use Rattle.score_director.proofs.Fewer.{AreFewer, fewer_in_range}

image_at : {A B : Type 0} (f : A → B) (xs : List A) (k : ℕ) (d : A) → get_or (map f xs) k (f d) ≡ f (get_or xs k d)
image_at f [] k d = refl
image_at f (x ∷ xs) zero d = refl
image_at f (x ∷ xs) (suc k) d = image_at f xs k d

-- how many facts a class has
abbrev facts_in : ClassView → ℕ
facts_in class = length class.facts

pub size_at : (plan : PlanView) (n : ℕ) → size_of (sizes_of plan) n ≡ facts_in (class_of plan n)
size_at plan n = image_at facts_in plan.classes n no_class

-- what keeps classes and ids has no more facts
kept_fewer : (old new : PlanView) → KeepsIds old new → AreFewer (sizes_of new) (sizes_of old)
kept_fewer old new keeps n =
    let here = size_at new n in
    let there = size_at old n in
    let ids = ap (λ (xs : List ℕ). length xs) (keeps.ids n) in
    let long = length-map (class_of new n).facts (λ (raw : Raw). raw.id) in
    let wide = length-map (class_of old n).facts (λ (raw : Raw). raw.id) in
    omega (arith, here, there, ids, long, wide)

-- a plan without one of its facts has no more facts
removed_fewer : (plan : PlanView) (class id : ℕ) → class < length plan.classes → AreFewer (sizes_of (without_fact plan class id)) (sizes_of plan)
unfolding without_fact
removed_fewer plan class id within n =
    let view = without_record (class_of plan class) id in
    let rest = set plan.classes class view in
    let here = size_at (without_fact plan class id) n in
    let there = size_at plan n in
    let gone = ap facts_in (image_at (class_let_go class id) rest n no_class) ∙ length-map (get_or rest n no_class).facts _ in
    let less = each_class (λ m v. facts_in v ≤ facts_in (class_of plan m)) plan class view within (length-filter-le (λ (raw : Raw). not (raw.id == id)) (class_of plan class).facts) (λ m. omega arith) n in
    omega (arith, here, there, gone, less)

-- steps that keep classes and ids keep them all together
steps_keep : {A : Type 0} (step : PlanView → A → PlanView) (class : ℕ) → ((plan : PlanView) (one : A) → class < length plan.classes → KeepsIds plan (step plan one)) → (plan : PlanView) (ones : List A) → class < length plan.classes → KeepsIds plan (fold step plan ones)
steps_keep step class each plan [] within = keeps_itself plan
steps_keep step class each plan (one ∷ ones) within =
    let next = step plan one in
    let first = each plan one within in
    let count = first.count in
    keeps_after plan next (fold step next ones) first (steps_keep step class each next ones (omega arith))

-- one more fact makes its class one greater
pub sizes_added : (plan : PlanView) (class : ℕ) (fields : List ℤ) (values : List (Option ℕ)) → sizes_of (with_fact plan class fields values) ≡ set (sizes_of plan) class (size_of (sizes_of plan) class + 1)
sizes_added plan class fields values =
    let view = grown plan class fields values in
    let long : facts_in view ≡ size_of (sizes_of plan) class + 1 = length-append (class_of plan class).facts _ ∙ ap (λ n. n + 1) (sym (size_at plan class)) in
    ap sizes_of (with_fact_is plan class fields values) ∙ map-set facts_in plan.classes class view ∙ ap (set (sizes_of plan) class) long

-- a change that makes no fact and gives no rule another weight leads to no more facts
others_fewer : (done : Deed) (ready : ReadyView) (names : List (List ℕ)) (plan : PlanView) → (is_add done || is_weight done) ≡ false → ready.class < length plan.classes → AreFewer (sizes_of (plan_by done ready names plan)) (sizes_of plan)
others_fewer deed.Add ready names plan narrow within = cc
others_fewer deed.Remove ready names plan narrow within = removed_fewer plan ready.class ready.id within
others_fewer deed.Alter ready names plan narrow within =
    kept_fewer plan _ (steps_keep (with_item names ready.class ready.id) ready.class (λ one pair there. item_keeps names one ready.class ready.id pair.0 pair.1 there) plan (enumerate_from 0 ready.fields) within)
others_fewer deed.Assign ready names plan narrow within =
    kept_fewer plan _ (steps_keep (with_choice ready.class ready.id) ready.class (λ one pair there. choice_keeps one ready.class ready.id pair.0 pair.1 there) plan (enumerate_from 0 ready.values) within)
others_fewer deed.Weight ready names plan narrow within = cc

weightless : (a b : Bool) → (a || b) ≡ false → b ≡ false
weightless true b h = cc
weightless false b h = h

-- what a director needs of rules and weights it has after a change too, where that stays in range
pub judges_after : (rules : List RuleDef) (caps weights : List ℕ) (plan : PlanView) (names : List (List ℕ)) (ready : ReadyView) → MayJudge rules caps weights (sizes_of plan) → MayPerform ready plan (length weights) → ready.weight ≤ weight_limit →
    ((is_add ready.deed || is_weight ready.deed) ≡ true → range_fault_of (sizes_of (plan_after ready names plan)) rules (weights_after ready weights) caps ≡ None) →
    MayJudge rules caps (weights_after ready weights) (sizes_of (plan_after ready names plan))
unfolding plan_after
judges_after rules caps weights plan names ready judges may light wide =
    record {
      weights = elim (is_weight ready.deed) as (λ b. length (cond b (set weights ready.rule ready.weight) weights) ≡ length rules) [ true ↦ length-set weights ready.rule ready.weight ∙ judges.weights | false ↦ judges.weights ];
      few = elim (is_weight ready.deed) as (λ b. All (λ weight. weight ≤ weight_limit) (cond b (set weights ready.rule ready.weight) weights)) [ true ↦ All-set (λ weight. weight ≤ weight_limit) weights ready.rule ready.weight light judges.few | false ↦ judges.few ];
      range = elim (is_add ready.deed || is_weight ready.deed) as (λ b. (is_add ready.deed || is_weight ready.deed) ≡ b → range_fault_of (sizes_of (plan_after ready names plan)) rules (weights_after ready weights) caps ≡ None) [
        | true ↦ wide
        | false ↦ λ narrow.
            let plain = weightless (is_add ready.deed) (is_weight ready.deed) narrow in
            let same : weights_after ready weights ≡ weights = ap (λ b. cond b (set weights ready.rule ready.weight) weights) plain in
            ap (λ ws. range_fault_of (sizes_of (plan_after ready names plan)) rules ws caps) same
            ∙ fewer_in_range (sizes_of (plan_after ready names plan)) (sizes_of plan) rules weights caps (others_fewer ready.deed ready (names_after ready names) plan narrow (may.fact plain).fits.there) judges.range
      ] refl;
    }
