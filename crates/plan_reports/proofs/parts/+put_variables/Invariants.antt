use Rattle.std.proofs.Common.{length}
use Rattle.plan_reports.proofs.parts.+put_variables.Given as goal

abbrev pub decreases-put_variables : goal.decreases-put_variables
decreases-put_variables l = length l.vars.now
