use Rattle.std.proofs.Common.{◌≡◌, Some, None, length, inr}
use Rattle.std.proofs.lemmas.Result.{err_from_is_err_and}
use Rattle.plan_rules.specs.Faults.{defs_fault}
use Rattle.plan_rules.proofs.Accepted.{refusal_of_closures, fault_of_rules, fault_of_harders}
use Rattle.plan_rules.proofs.handed.accepted_numbers.Goals as goal

pub returns-in_err-numbers-clause-err : goal.returns-in_err-numbers-clause-err
returns-in_err-numbers-clause-err g c =
    let p = err_from_is_err_and c.from_residual.result c.from_residual.ensures.1 in
    rw (p.1, p.2) (refusal_of_closures _ _ _ _ _ c.in_err-numbers.ensures.err)

pub returns-in_err-check_rules-clause-err : goal.returns-in_err-check_rules-clause-err
returns-in_err-check_rules-clause-err g c =
    let p = err_from_is_err_and c.from_residual-in_err-check_rules.result c.from_residual-in_err-check_rules.ensures.1 in
    let found : Some _ ≡ defs_fault (length c.args.schema.now) c.in_ok-numbers.numbers c.args.defs.now =
    rw (← c.classes.ensures.count, ← c.as_slice.ensures) c.in_err-check_rules.ensures in
    rw (p.1, p.2, ← c.in_ok-numbers.ensures.ok) (inr (fault_of_rules _ _ _ _ _ c.in_ok-numbers.ensures.distinct found))

pub returns-in_err-check_harder-clause-err : goal.returns-in_err-check_harder-clause-err
returns-in_err-check_harder-clause-err g c =
    let p = err_from_is_err_and c.from_residual-in_err-check_harder.result c.from_residual-in_err-check_harder.ensures.1 in
    let none : None ≡ defs_fault (length c.args.schema.now) c.in_ok-numbers.numbers c.args.defs.now =
    rw (← c.classes.ensures.count, ← c.as_slice.ensures) c.in_ok-check_rules.ensures in
    rw (p.1, p.2, ← c.in_ok-numbers.ensures.ok) (inr (fault_of_harders _ _ _ _ _ c.in_ok-numbers.ensures.distinct none (rw (← c.as_slice-2.ensures) c.in_err-check_harder.ensures)))

pub returns-clause-accepted : goal.returns-clause-accepted
returns-clause-accepted g c =
    let none : None ≡ defs_fault (length c.args.schema.now) c.in_ok-numbers.numbers c.args.defs.now =
    rw (← c.classes.ensures.count, ← c.as_slice.ensures) c.in_ok-check_rules.ensures in
    fault_of_harders _ _ _ _ _ c.in_ok-numbers.ensures.distinct none (rw (← c.as_slice-2.ensures) c.in_ok-check_harder.ensures)
