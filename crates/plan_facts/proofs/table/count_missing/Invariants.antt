use Rattle.std.proofs.Common.{◌≡◌, ◌≤◌, take, zip, count_by}
use Rattle.plan_facts.specs.Plan.{is_missing}
use Rattle.plan_facts.proofs.table.count_missing.Given as goal

-- the missing values so far, of which there are no more than variables
abbrev pub invariant-loop-var : goal.invariant-loop-var
invariant-loop-var l = record {
  counted : l.missing ≡ count_by is_missing (take l.var (zip l.nullables l.values));
  few : l.missing ≤ l.var;
}
