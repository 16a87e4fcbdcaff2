-- A new fact that fits its class is refused for nothing.
use Rattle.std.proofs.Common.{◌≡◌, ◌==◌, ◌∙◌, ◌≤◌, ◌<◌, ◌+◌, ℕ, ℤ, Bool, true, false, cond, nat_lt, IsTrue, pos, List, [], ◌∷◌, ◌++◌, Option, Some, None, length, take, zip, map, get_or, All, refl, sym, ap, arith}
use Rattle.std.specs.List.{AllZip}
use Rattle.std.specs.Option.{option_or}
use Rattle.std.proofs.lemmas.Bool.Decides.{nat_tests}
use Rattle.std.proofs.lemmas.List.{length-map}
use Rattle.std.proofs.lemmas.List.Elements.{All-get_or, All-map, All-weaker}
use Rattle.plan_facts.specs.First.{first_fault}
use Rattle.plan_facts.specs.Limits.{fact_limit, field_limit}
use Rattle.plan_facts.specs.Plan.{PlanView, class_of, is_live, is_value_among, is_value_of, next_id_of}
use Rattle.plan_facts.specs.PlanFaults.{add_fault, fields_fault, is_field_number, number_fault, value_fault, values_fault}
use Rattle.plan_facts.specs.declared.fault.PlanFault.{PlanFault}
use Rattle.plan_facts.specs.declared.fault.PlanFault.TheVariants.{TooManyFacts, FieldCount, FieldRange, BadValue}
use Rattle.plan_facts.proofs.FirstLaws.{none-first_fault}
use Rattle.plan_facts.proofs.Places.{eqb_same}
use Rattle.plan_changes.specs.Named.{value_given}
use Rattle.plan_changes.specs.Performed.{is_in_range, number_given, FitsClass, IsChoice, IsNext}
use Rattle.plan_changes.specs.Ready.{ReadyView}
use Rattle.plan_changes.specs.declared.change.Item.{Item}
use Rattle.plan_changes.proofs.Ranges.{given_in_range}

-- neither of two gives a fault
neither : {F : Type 0} (a b : Option F) → a ≡ None → b ≡ None → option_or a b ≡ None
neither a b first second = ap (λ o. option_or o b) first ∙ second

is_below : (a b : ℕ) → a < b → nat_lt a b ≡ true
is_below a b lt = grind (arith, nat_tests)

fields_pass : (class id count : ℕ) (fields : List ℤ) → length fields ≡ count → All (λ number. is_field_number number ≡ true) fields → fields_fault class id count fields ≡ None
fields_pass class id count fields long good =
    neither (cond (length fields == count) None (Some (FieldCount class id))) (first_fault (number_fault class id) [] fields)
    (ap (λ b. cond b None (Some (FieldCount class id))) (eqb_same (length fields) count long))
    (none-first_fault (number_fault class id) [] fields (λ k d within. ap (λ b. cond b None (Some (FieldRange class id (length (take k fields))))) (All-get_or (λ number. is_field_number number ≡ true) fields k d within good)))

pairs_pass : (live : ℕ → ℕ → Bool) (class id : ℕ) (earlier : List (ℕ × Option ℕ)) (ranges : List ℕ) (values : List (Option ℕ)) → AllZip (λ range value. IsTrue (is_value_among live range value)) ranges values → first_fault (value_fault live class id) earlier (zip ranges values) ≡ None
pairs_pass live class id earlier [] [] good = refl
pairs_pass live class id earlier [] (value ∷ values) good = absurd good
pairs_pass live class id earlier (range ∷ ranges) [] good = absurd good
pairs_pass live class id earlier (range ∷ ranges) (value ∷ values) good =
    neither (value_fault live class id earlier (range, value)) (first_fault (value_fault live class id) (earlier ++ (range, value) ∷ []) (zip ranges values))
    (ap (λ b. cond b None (Some (BadValue class id (length earlier)))) good.0)
    (pairs_pass live class id (earlier ++ (range, value) ∷ []) ranges values good.1)

as_many : {A B : Type 0} (R : A → B → Type 0) (xs : List A) (ys : List B) → AllZip R xs ys → length ys ≡ length xs
as_many R [] [] all = refl
as_many R [] (y ∷ ys) all = absurd all
as_many R (x ∷ xs) [] all = absurd all
as_many R (x ∷ xs) (y ∷ ys) all = let rest = as_many R xs ys all.1 in omega arith

values_pass : (live : ℕ → ℕ → Bool) (class id : ℕ) (ranges : List ℕ) (values : List (Option ℕ)) → AllZip (λ range value. IsTrue (is_value_among live range value)) ranges values → values_fault live class id ranges values ≡ None
values_pass live class id ranges values good =
    neither (first_fault (value_fault live class id) [] (zip ranges values)) (cond (length values == length ranges) None (Some (BadValue class id (length ranges))))
    (pairs_pass live class id [] ranges values good)
    (ap (λ b. cond b None (Some (BadValue class id (length ranges)))) (eqb_same (length values) (length ranges) (as_many (λ range value. IsTrue (is_value_among live range value)) ranges values good)))

-- a fact that fits is refused for nothing
pub fact_passes : (plan : PlanView) (class : ℕ) (fields : List ℤ) (values : List (Option ℕ)) → plan.made < fact_limit → length fields ≡ (class_of plan class).fields → All (λ number. is_field_number number ≡ true) fields → AllZip (λ range value. IsTrue (is_value_of plan range value)) (class_of plan class).ranges values → add_fault plan class fields values ≡ None
unfolding add_fault
fact_passes plan class fields values room long numbers good =
    neither (cond (nat_lt plan.made fact_limit) None (Some TooManyFacts)) _
    (ap (λ b. cond b None (Some TooManyFacts)) (is_below plan.made fact_limit room))
    (neither (fields_fault class (next_id_of plan class) (class_of plan class).fields fields) (values_fault (is_live plan) class (next_id_of plan class) (class_of plan class).ranges values)
    (fields_pass class (next_id_of plan class) (class_of plan class).fields fields long numbers)
    (values_pass (is_live plan) class (next_id_of plan class) (class_of plan class).ranges values good))

given_zip : (plan : PlanView) (ranges : List ℕ) (values : List (Option (Option ℕ))) → AllZip (IsChoice plan) ranges values → AllZip (λ range value. IsTrue (is_value_of plan range value)) ranges (map value_given values)
given_zip plan [] [] all = tt
given_zip plan [] (value ∷ values) all = absurd all
given_zip plan (range ∷ ranges) [] all = absurd all
given_zip plan (range ∷ ranges) (value ∷ values) all = (all.0, given_zip plan ranges values all.1)

-- the fact that a change makes is refused for nothing
pub new_fact_passes : (ready : ReadyView) (plan : PlanView) (names : List (List ℕ)) → length names ≤ field_limit → FitsClass ready plan → IsNext ready plan → add_fault plan ready.class (map (number_given names) ready.fields) (map value_given ready.values) ≡ None
new_fact_passes ready plan names few fits next =
    fact_passes plan ready.class (map (number_given names) ready.fields) (map value_given ready.values) next.made (length-map ready.fields (number_given names) ∙ next.fields)
    (All-map (λ number. is_field_number number ≡ true) (number_given names) ready.fields (All-weaker (λ item. is_in_range item ≡ true) _ (λ item good. given_in_range names few item good) ready.fields fits.numbers))
    (given_zip plan (class_of plan ready.class).ranges ready.values fits.values)
