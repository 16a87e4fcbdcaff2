-- How the first of several faults is found, one after the other.
use Rattle.std.proofs.Common.{◌≡◌, ◌∙◌, inl, inr, Option, None, ap}
use Rattle.std.specs.Option.{option_or}
use Rattle.problem_faults.specs.declared.fault.ProblemFault.{ProblemFault}
use Rattle.plan_facts.specs.Refusal.{IsRefusal}
use Rattle.problem_faults.specs.declared.fault.ProblemFault.TheVariants.{Memory}

-- a refusal for the first of two faults is one for both
pub refused_first : (whole first rest : Option ProblemFault) (fault : ProblemFault) → whole ≡ option_or first rest → IsRefusal Memory first fault → IsRefusal Memory whole fault
refused_first whole first rest fault is refused =
    elim refused [ inl memory ↦ inl memory | inr found ↦ inr (is ∙ ap (λ (o : Option ProblemFault). option_or o rest) found) ]

-- where the first of two faults isn't there, the other one counts
pub passed_first : (whole first rest : Option ProblemFault) → whole ≡ option_or first rest → first ≡ None → whole ≡ rest
passed_first whole first rest is none = is ∙ ap (λ (o : Option ProblemFault). option_or o rest) none

-- a refusal for a fault is one for whatever is that fault
pub refused_by : (whole found : Option ProblemFault) (fault : ProblemFault) → whole ≡ found → IsRefusal Memory found fault → IsRefusal Memory whole fault
refused_by whole found fault is refused = elim refused [ inl memory ↦ inl memory | inr there ↦ inr (is ∙ there) ]
