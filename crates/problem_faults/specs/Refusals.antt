-- What a problem's bytes are refused with.
use Rattle.std.specs.Prelude.{◌≡◌, Option, None, Result, Ok, Err}
use Rattle.plan_facts.specs.Refusal.{IsRefusal}
use Rattle.problem_faults.specs.declared.fault.ProblemFault.{ProblemFault}
use Rattle.problem_faults.specs.declared.fault.ProblemFault.TheVariants.{Memory}

-- the call refuses for this fault: it succeeds where there is none, and else gives it or want of memory
abbrev pub RefusesFor : {A : Type 0} → Option ProblemFault → Result A ProblemFault → Type 0
RefusesFor found (Ok value) = found ≡ None
RefusesFor found (Err fault) = IsRefusal Memory found fault
