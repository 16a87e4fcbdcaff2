-- Records that don't hold a fact, and classes in which none can.
use Rattle.std.proofs.Common.{◌≡◌, ◌≢◌, ◌==◌, ◌<◌, ◌∙◌, ℕ, zero, suc, Bool, true, false, cond, ◌&&◌, ◌||◌, Option, None, Some, All, List, [], ◌∷◌, length, map, filter, zip, get_or, refl, ap, arith}
use Rattle.std.specs.List.{list_any}
use Rattle.std.proofs.lemmas.List.Elements.{All-head, All-tail}
use Rattle.std.proofs.lemmas.List.Sums.{sum_by-cons}
use Rattle.plan_facts.specs.declared.record.Raw.{Raw}
use Rattle.plan_facts.specs.Plan.{missing_in, nulls_in}
use Rattle.plan_facts.specs.PlanBack.{holds, record_holds}
use Rattle.plan_facts.specs.PlanChanges.{let_go, record_let_go, values_let_go}
use Rattle.plan_facts.proofs.Places.{eqb_other}

first_false : (a b : Bool) → (a || b) ≡ false → a ≡ false
first_false true b is = is
first_false false b is = refl

rest_false : (a b : Bool) → (a || b) ≡ false → b ≡ false
rest_false true b is = cc
rest_false false b is = is

both_false : (a b : Bool) → a ≡ false → b ≡ false → (a || b) ≡ false
both_false a b first rest = ap (λ (x : Bool). x || b) first ∙ rest

either_true : (a b : Bool) → b ≡ true → (a || b) ≡ true
either_true true b is = refl
either_true false b is = is

-- a variable that doesn't hold the fact keeps its value once that is gone
value_kept : (class id range : ℕ) (value : Option ℕ) → holds class id range value ≡ false → let_go class id range value ≡ value
value_kept class id range None none = refl
value_kept class id range (Some held) none = ap (λ (b : Bool). cond b None (Some held)) none

values_kept : (class id : ℕ) (ranges : List ℕ) (values : List (Option ℕ)) → length values ≡ length ranges → list_any (λ pair. holds class id pair.0 pair.1) (zip ranges values) ≡ false → values_let_go class id ranges values ≡ values
values_kept class id [] [] long none = refl
values_kept class id [] (value ∷ values) long none = absurd (omega arith)
values_kept class id (range ∷ ranges) [] long none = absurd (omega arith)
values_kept class id (range ∷ ranges) (value ∷ values) long none =
    let others = list_any (λ (pair : ℕ × Option ℕ). holds class id pair.0 pair.1) (zip ranges values) in
    let one = value_kept class id range value (first_false (holds class id range value) others none) in
    let rest = values_kept class id ranges values (omega arith) (rest_false (holds class id range value) others none) in
    λ i. one i ∷ rest i

abbrev with_values : Raw → List (Option ℕ) → Raw
with_values raw values = record raw { values = values }

-- a record that doesn't hold the fact stays once that is gone
pub record_kept : (class id : ℕ) (ranges : List ℕ) (raw : Raw) → length raw.values ≡ length ranges → record_holds class id ranges raw ≡ false → record_let_go class id ranges raw ≡ raw
record_kept class id ranges raw long none = ap (with_values raw) (values_kept class id ranges raw.values long none)

no_value : (class id range : ℕ) (value : Option ℕ) → (range == class) ≡ false → holds class id range value ≡ false
no_value class id range None other = refl
no_value class id range (Some held) other = ap (λ (b : Bool). b && (held == id)) other

no_values : (class id : ℕ) (ranges : List ℕ) (values : List (Option ℕ)) → list_any (λ range. range == class) ranges ≡ false → list_any (λ pair. holds class id pair.0 pair.1) (zip ranges values) ≡ false
no_values class id [] [] none = refl
no_values class id [] (value ∷ values) none = refl
no_values class id (range ∷ ranges) [] none = refl
no_values class id (range ∷ ranges) (value ∷ values) none =
    let others = list_any (λ (r : ℕ). r == class) ranges in
    both_false (holds class id range value) (list_any (λ (pair : ℕ × Option ℕ). holds class id pair.0 pair.1) (zip ranges values))
    (no_value class id range value (first_false (range == class) others none))
    (no_values class id ranges values (rest_false (range == class) others none))

-- where no variable can hold the fact, no record does
pub no_holders : (class id : ℕ) (ranges : List ℕ) (facts : List Raw) → list_any (λ range. range == class) ranges ≡ false → filter (record_holds class id ranges) facts ≡ []
no_holders class id ranges [] none = refl
no_holders class id ranges (raw ∷ facts) none =
    let rest = filter (record_holds class id ranges) facts in
    ap (λ (b : Bool). cond b (raw ∷ rest) rest) (no_values class id ranges raw.values none) ∙ no_holders class id ranges facts none

-- where no variable can hold the fact, the records stay once that is gone
pub let_go_none : (class id : ℕ) (ranges : List ℕ) (facts : List Raw) → All (λ raw. length raw.values ≡ length ranges) facts → list_any (λ range. range == class) ranges ≡ false → map (record_let_go class id ranges) facts ≡ facts
let_go_none class id ranges [] long none = refl
let_go_none class id ranges (raw ∷ facts) long none =
    let P : Raw → Type 0 = λ (r : Raw). length r.values ≡ length ranges in
    let one = record_kept class id ranges raw (All-head P raw facts long) (no_values class id ranges raw.values none) in
    let rest = let_go_none class id ranges facts (All-tail P raw facts long) none in
    λ i. one i ∷ rest i

-- a variable that holds the fact is one of all
pub held_somewhere : (class id : ℕ) (ranges : List ℕ) (values : List (Option ℕ)) (var : ℕ) → var < length ranges → var < length values → holds class id (get_or ranges var 0) (get_or values var None) ≡ true → list_any (λ pair. holds class id pair.0 pair.1) (zip ranges values) ≡ true
held_somewhere class id [] values var within there is = absurd (omega arith)
held_somewhere class id (range ∷ ranges) [] var within there is = absurd (omega arith)
held_somewhere class id (range ∷ ranges) (value ∷ values) zero within there is = ap (λ (b : Bool). b || list_any (λ (pair : ℕ × Option ℕ). holds class id pair.0 pair.1) (zip ranges values)) is
held_somewhere class id (range ∷ ranges) (value ∷ values) (suc var) within there is =
    either_true (holds class id range value) (list_any (λ (pair : ℕ × Option ℕ). holds class id pair.0 pair.1) (zip ranges values)) (held_somewhere class id ranges values var (omega arith) (omega arith) is)

-- no variable holds the fact, where each of them doesn't
pub held_nowhere : (class id : ℕ) (ranges : List ℕ) (values : List (Option ℕ)) → ((var : ℕ) → var < length ranges → holds class id (get_or ranges var 0) (get_or values var None) ≡ false) → list_any (λ pair. holds class id pair.0 pair.1) (zip ranges values) ≡ false
held_nowhere class id [] [] none = refl
held_nowhere class id [] (value ∷ values) none = refl
held_nowhere class id (range ∷ ranges) [] none = refl
held_nowhere class id (range ∷ ranges) (value ∷ values) none =
    both_false (holds class id range value) (list_any (λ (pair : ℕ × Option ℕ). holds class id pair.0 pair.1) (zip ranges values))
    (none zero (omega arith))
    (held_nowhere class id ranges values (λ var within. none (suc var) (omega arith)))

-- no number of a list is this one
pub none_is : (numbers : List ℕ) (number : ℕ) → All (λ other. other ≢ number) numbers → list_any (λ other. other == number) numbers ≡ false
none_is [] number apart = refl
none_is (first ∷ numbers) number apart =
    both_false (first == number) (list_any (λ (other : ℕ). other == number) numbers)
    (eqb_other first number (All-head (λ (other : ℕ). other ≢ number) first numbers apart))
    (none_is numbers number (All-tail (λ (other : ℕ). other ≢ number) first numbers apart))

-- no value of a class without variables is missing
pub none_missing : (nullables : List Bool) (facts : List Raw) → length nullables ≡ 0 → nulls_in nullables facts ≡ 0
none_missing [] [] none = refl
none_missing [] (raw ∷ facts) none =
    let rest = none_missing [] facts none in
    let more = sum_by-cons (λ (r : Raw). missing_in [] r.values) raw facts in
    omega arith
none_missing (nullable ∷ nullables) facts none = absurd (omega arith)
