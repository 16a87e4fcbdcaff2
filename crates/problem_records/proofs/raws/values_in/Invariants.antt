use Rattle.std.proofs.Common.{◌≡◌, take, map}
use Rattle.serde_json.specs.View.{view}
use Rattle.problem_records.specs.Records.{id_in}
use Rattle.problem_records.proofs.raws.values_in.Given as goal

-- what the variables so far hold
abbrev pub invariant-loop-var : goal.invariant-loop-var
invariant-loop-var l = l.values ≡ map (λ var. id_in var.name (view l.entry)) (take l.var-index l.var-items)
