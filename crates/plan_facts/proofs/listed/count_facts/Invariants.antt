use Rattle.plan_facts.specs.Limits.{fact_limit}
use Rattle.std.proofs.Common.{◌≡◌, ◌≤◌, take, sum_by, length}
use Rattle.plan_facts.proofs.listed.count_facts.Given as goal

-- the records so far, which are few enough
abbrev pub invariant-loop-raws : goal.invariant-loop-raws
invariant-loop-raws l = record { so_far : l.count ≡ sum_by length (take l.raws-index l.lists); few : l.count ≤ fact_limit }
