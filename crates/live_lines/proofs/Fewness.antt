-- A change makes few new names.
use Rattle.std.proofs.Common.{◌≡◌, ◌≤◌, ◌+◌, ℕ, true, false, cond, List, [], ◌∷◌, Option, Some, None, length, refl, arith}
use Rattle.std.proofs.lemmas.List.{length-append}
use Rattle.plan_facts.specs.Plan.{PlanView}
use Rattle.plan_changes.specs.Deeds.{gives_fields, is_weight}
use Rattle.plan_changes.specs.Performed.{text_in, texts_in, texts_of, names_after, MayPerform}
use Rattle.plan_changes.specs.Ready.{ReadyView}
use Rattle.plan_changes.specs.declared.change.Deed.TheVariants.{Add, Remove, Alter, Assign, Weight}
use Rattle.plan_changes.specs.declared.change.Item.{Item}
use Rattle.plan_changes.specs.declared.change.Item.TheVariants.{Num, Name}
use Rattle.plan_changes.proofs.Numbered.{numbered_few}

text_short : (item : Option Item) → length (text_in item) ≤ 1
text_short None = omega arith
text_short (Some (Num number)) = omega arith
text_short (Some (Name text)) = omega arith

texts_few : (items : List (Option Item)) → length (texts_in items) ≤ length items
texts_few [] = omega arith
texts_few (item ∷ items) =
    let one = text_short item in
    let rest = texts_few items in
    let both = length-append (text_in item) (texts_in items) in
    omega arith

of_a_fact : (ready : ReadyView) → gives_fields ready.deed ≡ true → is_weight ready.deed ≡ false
of_a_fact ready gives =
    elim ready.deed as (λ d. gives_fields d ≡ true → is_weight d ≡ false) [ Add ↦ λ h. refl | Remove ↦ λ h. refl | Alter ↦ λ h. refl | Assign ↦ λ h. refl | Weight ↦ λ h. cc ] gives

few_texts : (ready : ReadyView) (plan : PlanView) (rules : ℕ) → MayPerform ready plan rules → length (texts_of ready) ≤ 16
few_texts ready plan rules may =
    elim (gives_fields ready.deed) as (λ b. gives_fields ready.deed ≡ b → length (cond b (texts_in ready.fields) []) ≤ 16) [
      | true ↦ λ gives. let few = (may.fact (of_a_fact ready gives)).fits.few_fields in let le = texts_few ready.fields in omega arith
      | false ↦ λ gives. omega arith
    ] refl

-- a change that may be made makes at most 16 new names
pub few_names : (ready : ReadyView) (plan : PlanView) (rules : ℕ) (names : List (List ℕ)) → MayPerform ready plan rules → length (names_after ready names) ≤ length names + 16
few_names ready plan rules names may =
    let le = numbered_few names (texts_of ready) in
    let texts = few_texts ready plan rules may in
    omega arith
