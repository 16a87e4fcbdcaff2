-- The records of a plan, listed class by class.
use Rattle.std.proofs.Common.{◌≡◌, ◌∙◌, ℕ, ◌<◌, ◌≤◌, List, [], get_or, length, refl, ap, sym, arith, ⊎_elim}
use Rattle.std.proofs.lemmas.Bool.{cases_lt}
use Rattle.std.proofs.lemmas.List.{get_or-map, get_or_past, length-map, same_lists}
use Rattle.plan_facts.specs.declared.record.Rec.{Rec}
use Rattle.plan_facts.specs.Plan.{ClassView, PlanView, no_class, class_of, resolved, records_of}
use Rattle.plan_rules.specs.Range.{sizes_of}
use Rattle.plan_recalc.specs.Facts.{facts_in, sizes_in}

-- a class past the others has no facts
past_classes : (plan : PlanView) (class : ℕ) → length plan.classes ≤ class → class_of plan class ≡ no_class
past_classes plan class past = get_or_past plan.classes class no_class past

no_records : (plan : PlanView) (class : ℕ) → length plan.classes ≤ class → [] ≡ records_of plan class
unfolding records_of
no_records plan class past = rw (past_classes plan class past) refl

-- lists of the records of each class are the plan's records
pub facts_listed : (plan : PlanView) (lists : List (List Rec)) → length lists ≡ length plan.classes → ((class : ℕ) → class < length lists → get_or lists class [] ≡ records_of plan class) → facts_in lists ≡ records_of plan
facts_listed plan lists all each =
    let at : (class : ℕ) → facts_in lists class ≡ records_of plan class =
    λ class. ⊎_elim (λ (there : class < length lists). each class there)
    (λ (past : length lists ≤ class). get_or_past lists class [] past ∙ no_records plan class (omega arith))
    (cases_lt class (length lists)) in
    λ i class. at class i

length-records_of : (plan : PlanView) (class : ℕ) → length (records_of plan class) ≡ length (class_of plan class).facts
unfolding records_of
length-records_of plan class = length-map (class_of plan class).facts (resolved plan class)

-- and are as many
pub sizes_listed : (plan : PlanView) (lists : List (List Rec)) → length lists ≡ length plan.classes → ((class : ℕ) → class < length lists → get_or lists class [] ≡ records_of plan class) → sizes_in lists ≡ sizes_of plan
sizes_listed plan lists all each =
    same_lists (sizes_in lists) (sizes_of plan) (length-map lists (λ (list : List Rec). length list) ∙ all ∙ sym (length-map plan.classes (λ (class : ClassView). length class.facts)))
    (λ class d within.
    let there : class < length lists = omega (arith, length-map lists (λ (list : List Rec). length list)) in
    let there' : class < length plan.classes = omega arith in
    get_or-map (λ (list : List Rec). length list) lists class [] d there ∙ ap (λ (list : List Rec). length list) (each class there) ∙ length-records_of plan class
    ∙ sym (get_or-map (λ (class : ClassView). length class.facts) plan.classes class no_class d there'))
