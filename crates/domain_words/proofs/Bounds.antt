-- How few facts a plan has.
use Rattle.std.proofs.Common.{◌≤◌, inl, inr, ℕ, length, sym, subst, arith}
use Rattle.std.proofs.lemmas.Bool.{cases_lt}
use Rattle.plan_facts.specs.Limits.{fact_limit}
use Rattle.plan_facts.specs.Plan.{PlanView, ClassView, class_of, IsPlan}
use Rattle.plan_facts.proofs.Sound.{class_past, few_facts}

-- no class of a plan has more facts than were made
pub few_in_class : (plan : PlanView) (class : ℕ) → IsPlan plan → length (class_of plan class).facts ≤ fact_limit
few_in_class plan class sound =
    elim (cases_lt class (length plan.classes)) [
      | inl within ↦ few_facts plan class sound within
      | inr past ↦
          subst (λ (view : ClassView). length view.facts ≤ fact_limit) (sym (class_past plan class past)) (omega arith)
    ]
