use Rattle.std.proofs.Common.{arith}
use Rattle.std.proofs.lemmas.Grind.{common_steps}
use Rattle.std.proofs.lemmas.List.Folds.{find-append}
use Rattle.plan_rules.proofs.missing.missing_closure.Goals as goal

pub returns : goal.returns
returns c = grind (arith, common_steps, find-append)
