-- A plan's sizes bound its records.
use Rattle.std.proofs.Common.{◌≡◌, ◌<◌, ◌≤◌, ℕ, length, map, ap, arith, inl, inr}
use Rattle.std.proofs.lemmas.Bool.{cases_lt}
use Rattle.std.proofs.lemmas.List.{get_or-map, length-map}
use Rattle.plan_facts.specs.Plan.{ClassView, PlanView, class_of, no_class, records_of, resolved}
use Rattle.plan_facts.proofs.Sound.{class_past}
use Rattle.plan_rules.specs.Range.{AreWithin, sizes_of}

-- no class has more records than its size
pub plan_within : (plan : PlanView) → AreWithin (sizes_of plan) (records_of plan)
unfolding records_of
plan_within plan = λ class.
    let count : length (records_of plan class) ≡ length (class_of plan class).facts = length-map (class_of plan class).facts (resolved plan class) in
    elim (cases_lt class (length plan.classes)) [
      | inl below ↦ (let size = get_or-map (λ (c : ClassView). length c.facts) plan.classes class no_class 0 below in omega (arith, count, size))
      | inr past ↦ (let e = ap (λ (v : ClassView). length v.facts) (class_past plan class past) in omega (arith, count, e))
    ]
