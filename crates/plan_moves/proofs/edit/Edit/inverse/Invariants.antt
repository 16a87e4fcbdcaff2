use Rattle.std.proofs.Common.{◌≡◌, ◌<◌, take, map}
use Rattle.plan_facts.specs.Plan.{IsPlan}
use Rattle.plan_moves.specs.Edits.{set_back}
use Rattle.plan_moves.proofs.edit.Edit.inverse.Given as goal

-- the sets so far, each with what its variable holds
abbrev pub invariant-loop-set : goal.invariant-loop-set
invariant-loop-set l = record {
  so_far : l.sets.items ≡ map (set_back l.plan) (take l.set-index l.set-items);
  sound : 0 < l.set-index → IsPlan l.plan;
}
