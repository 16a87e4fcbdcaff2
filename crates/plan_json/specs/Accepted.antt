-- Problems as reading sees them, and what holds of a problem that is accepted.
use Rattle.std.specs.Prelude.{◌≡◌, ◌⊎◌, ℕ, List, Result, Ok, Err}
use Rattle.plan_facts.specs.Plan.{IsPlan}
use Rattle.plan_settings.specs.Settings.{IsInRange}
use Rattle.plan_rules.specs.Range.{MayJudge, sizes_of}
use Rattle.plan_rules.specs.declared.rule.RuleDef.{RuleDef}
use Rattle.problem_faults.specs.declared.fault.ProblemFault.{ProblemFault}
use Rattle.problem_faults.specs.declared.fault.ProblemFault.TheVariants.{Memory}
use Rattle.plan_json.specs.declared.problem.Problem.{Problem}
use Rattle.plan_json.specs.Problem.{ProblemView}

-- a problem as it was read
abbrev pub problem_view : Problem → ProblemView
problem_view p =
    record { domain = p.domain; plan = p.plan; names = p.names; settings = p.settings; weights = p.weights }

-- the call gives the problem that is due, or refuses as is due; or it wants memory
abbrev pub Reads : Result ProblemView ProblemFault → Result Problem ProblemFault → Type 0
Reads due (Ok problem) = due ≡ Ok (problem_view problem)
Reads due (Err fault) = (fault ≡ Memory) ⊎ (due ≡ Err fault)

-- what holds of a problem that is accepted over these rules and the caps of their match weights
pub record IsAccepted (rules : List RuleDef) (caps : List ℕ) (p : Problem) : Type 0 where
  pub plan : IsPlan p.plan
  pub settings : IsInRange p.settings
  pub judges : MayJudge rules caps p.weights (sizes_of p.plan)
