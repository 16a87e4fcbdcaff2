use Rattle.std.proofs.Common.{◌≡◌, ◌<◌, ℕ, false, None, get_or}
use Rattle.plan_facts.specs.PlanBack.{holds}
use Rattle.plan_facts.proofs.table.putting.is_holder.Given as goal

-- no variable so far holds the fact
abbrev pub invariant-loop-var : goal.invariant-loop-var
invariant-loop-var l = (var : ℕ) → var < l.var → holds l.class l.id (get_or l.ranges var 0) (get_or l.values var None) ≡ false
