use Rattle.std.proofs.Common.{◌≡◌, take, length}
use Rattle.std.specs.List.{sum_by}
use Rattle.plan_session.proofs.touring.fact_count.Given as goal

-- the facts of the classes so far
abbrev pub invariant-loop-class : goal.invariant-loop-class
invariant-loop-class l = l.count ≡ sum_by (λ class. length class.facts) (take l.class l.plan.classes)
