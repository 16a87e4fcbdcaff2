-- What a change makes, and what is told of it, where a director's look at it is known.
use Rattle.std.proofs.Common.{◌≡◌, ◌≢◌, ◌∙◌, ℕ, cond, List, Some, None, Result, Ok, Err, is_some, inl, inr, sym, ap}
use Rattle.std.specs.Option.{option_map_or}
use Rattle.std.specs.Prelude.{IfOk, OnOk}
use Rattle.plan_facts.specs.Refusal.{IsRefusal}
use Rattle.plan_rules.specs.declared.rule.RuleDef.{RuleDef}
use Rattle.plan_changes.specs.Change.{ChangeView}
use Rattle.plan_changes.specs.Ready.{ReadyView}
use Rattle.plan_changes.specs.declared.fault.ChangeFault.{ChangeFault}
use Rattle.plan_changes.specs.declared.fault.ChangeFault.TheVariants.{Memory}
use Rattle.plan_reports.specs.declared.line.Line.{Line}
use Rattle.plan_reports.specs.declared.line.Line.TheVariants as line
use Rattle.score_director.specs.Refused.{ready_fault, ready_for}
use Rattle.score_director.specs.View.{DirectorView}
use Rattle.live_lines.specs.Taking.{Grounds, applied_line, change_line, change_refusal, changed_by, director_on, ready_in, searched, with_change}

-- a director at rest under these rules stands on what is searched by it
pub stands_on : (rules : List RuleDef) (seen : DirectorView) (names : List (List ℕ)) → rules ≡ seen.rules → seen.base ≡ None → director_on rules (searched seen names) ≡ seen
stands_on rules seen names own rest =
    λ i. record { rules = own i; weights = seen.weights; plan = seen.plan; base = sym rest i }

module _ (by : Grounds) (seen : DirectorView) (names : List (List ℕ)) (change : ChangeView) (own : by.rules ≡ seen.rules) (rest : seen.base ≡ None) where
  same_refusal : change_refusal by (searched seen names) change ≡ ready_fault by.classes by.caps seen names change
  same_refusal = ap (λ (s : DirectorView). ready_fault by.classes by.caps s names change) (stands_on by.rules seen names own rest)

  same_ready : ready_in by (searched seen names) change ≡ ready_for by.classes seen change
  same_ready = ap (λ (s : DirectorView). ready_for by.classes s change) (stands_on by.rules seen names own rest)

  -- a change that isn't refused is made
  pub change_made : (ready : ReadyView) → ready_fault by.classes by.caps seen names change ≡ None → ready ≡ ready_for by.classes seen change → with_change by (searched seen names) change ≡ changed_by ready (searched seen names)
  unfolding with_change
  change_made ready none is =
      ap (λ refusal. cond (is_some refusal) (searched seen names) (changed_by (ready_in by (searched seen names) change) (searched seen names))) (same_refusal ∙ none)
      ∙ ap (λ r. changed_by r (searched seen names)) (same_ready ∙ sym is)

  -- and told so
  pub change_told : (ready : ReadyView) (number boundary : ℕ) → ready_fault by.classes by.caps seen names change ≡ None → ready ≡ ready_for by.classes seen change → change_line by (searched seen names) number boundary change ≡ applied_line number boundary ready
  unfolding change_line
  change_told ready number boundary none is =
      ap (λ refusal. option_map_or (λ fault. line.Refused number boundary fault) refusal (applied_line number boundary (ready_in by (searched seen names) change))) (same_refusal ∙ none)
      ∙ ap (applied_line number boundary) (same_ready ∙ sym is)

  -- a change that is refused is nothing
  pub change_stays : (fault : ChangeFault) → ready_fault by.classes by.caps seen names change ≡ Some fault → with_change by (searched seen names) change ≡ searched seen names
  unfolding with_change
  change_stays fault found =
      ap (λ refusal. cond (is_some refusal) (searched seen names) (changed_by (ready_in by (searched seen names) change) (searched seen names))) (same_refusal ∙ found)

  -- and its fault is told
  pub refusal_told : (fault : ChangeFault) (number boundary : ℕ) → ready_fault by.classes by.caps seen names change ≡ Some fault → change_line by (searched seen names) number boundary change ≡ line.Refused number boundary fault
  unfolding change_line
  refusal_told fault number boundary found =
      ap (λ refusal. option_map_or (λ f. line.Refused number boundary f) refusal (applied_line number boundary (ready_in by (searched seen names) change))) (same_refusal ∙ found)

  -- so it is where a director gave a fault that is told
  pub refused_took : {E : Type 0} (result : Result Line E) (fault : ChangeFault) → OnOk result (fault ≢ Memory) → IsRefusal Memory (ready_fault by.classes by.caps seen names change) fault → OnOk result (searched seen names ≡ with_change by (searched seen names) change)
  refused_took (Ok told) fault other (inl is) = absurd (other is)
  refused_took (Ok told) fault other (inr found) = sym (change_stays fault found)
  refused_took (Err e) fault other refusal = tt

  pub refused_told : {E : Type 0} (result : Result Line E) (fault : ChangeFault) (number boundary : ℕ) → OnOk result (fault ≢ Memory) → IfOk result (λ told. told ≡ line.Refused number boundary fault) → IsRefusal Memory (ready_fault by.classes by.caps seen names change) fault → IfOk result (λ told. told ≡ change_line by (searched seen names) number boundary change)
  refused_told (Ok told) fault number boundary other is (inl memory) = absurd (other memory)
  refused_told (Ok told) fault number boundary other is (inr found) = is ∙ sym (refusal_told fault number boundary found)
  refused_told (Err e) fault number boundary other is refusal = tt
