use Rattle.std.proofs.Common.{◌≡◌, drop}
use Rattle.plan_rules.specs.Harder.{harder_key}
use Rattle.plan_rules.proofs.harder.harder_key.Given as goal

-- none so far is of the class
abbrev pub invariant-loop-harder : goal.invariant-loop-harder
invariant-loop-harder l = harder_key l.harders l.class ≡ harder_key (drop l.harder-index l.harders) l.class
