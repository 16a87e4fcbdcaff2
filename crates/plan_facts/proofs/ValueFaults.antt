-- How a loop finds the first bad value of a record.
use Rattle.std.proofs.Common.{◌≡◌, ◌==◌, ◌<◌, ◌≤◌, ◌+◌, ◌∙◌, ℕ, Bool, true, false, cond, min, Option, Some, None, List, [], length, take, drop, zip, get_or, refl, sym, ap, arith}
use Rattle.std.specs.Option.{option_or}
use Rattle.std.proofs.lemmas.List.{length-take-le, get_or_default}
use Rattle.std.proofs.lemmas.Slice.Zip.{length-zip, get_or-zip}
use Rattle.plan_facts.specs.First.{first_fault}
use Rattle.plan_facts.specs.Plan.{is_value_among}
use Rattle.plan_facts.specs.declared.fault.PlanFault.{PlanFault}
use Rattle.plan_facts.specs.declared.fault.PlanFault.TheVariants.{BadValue}
use Rattle.plan_facts.specs.PlanFaults.{value_fault, values_fault}
use Rattle.plan_facts.proofs.Places.{eqb_same, eqb_other}
use Rattle.plan_facts.proofs.FirstLaws.{first_fault-from, first_fault-end}

-- what stands from a place on is judged by the value there first
value_at : (live : ℕ → ℕ → Bool) (class id : ℕ) (ranges : List ℕ) (values : List (Option ℕ)) (place : ℕ) → place < length ranges → place < length values →
    first_fault (value_fault live class id) (take place (zip ranges values)) (drop place (zip ranges values)) ≡
    option_or (cond (is_value_among live (get_or ranges place 0) (get_or values place None)) None (Some (BadValue class id place))) (first_fault (value_fault live class id) (take (place + 1) (zip ranges values)) (drop (place + 1) (zip ranges values)))
value_at live class id ranges values place in_ranges in_values =
    let pairs = zip ranges values in
    let pair : ℕ × Option ℕ = (get_or ranges place 0, get_or values place None) in
    let long = length-zip ranges values in
    let rest = first_fault (value_fault live class id) (take (place + 1) pairs) (drop (place + 1) pairs) in
    let within : place < length pairs = omega arith in
    let read : pair ≡ get_or pairs place pair = sym (get_or_default pairs place pair (0, None) within ∙ get_or-zip ranges values place (0, None) in_ranges in_values) in
    let count : length (take place pairs) ≡ place = length-take-le place pairs (let h : place ≤ length pairs = omega arith in h) in
    first_fault-from (value_fault live class id) pairs place pair within read
    ∙ ap (λ (var : ℕ). option_or (cond (is_value_among live pair.0 pair.1) None (Some (BadValue class id var))) rest) count

pub bad_value : (live : ℕ → ℕ → Bool) (class id : ℕ) (ranges : List ℕ) (values : List (Option ℕ)) (place : ℕ) → place < length ranges → place < length values → is_value_among live (get_or ranges place 0) (get_or values place None) ≡ false →
    first_fault (value_fault live class id) [] (zip ranges values) ≡ first_fault (value_fault live class id) (take place (zip ranges values)) (drop place (zip ranges values)) →
    Some (BadValue class id place) ≡ values_fault live class id ranges values
bad_value live class id ranges values place in_ranges in_values bad so_far =
    let here : first_fault (value_fault live class id) [] (zip ranges values) ≡ Some (BadValue class id place) = so_far ∙ value_at live class id ranges values place in_ranges in_values ∙ ap (λ (b : Bool). option_or (cond b None (Some (BadValue class id place))) (first_fault (value_fault live class id) (take (place + 1) (zip ranges values)) (drop (place + 1) (zip ranges values)))) bad in
    rw here refl

pub good_value : (live : ℕ → ℕ → Bool) (class id : ℕ) (ranges : List ℕ) (values : List (Option ℕ)) (place : ℕ) → place < length ranges → place < length values → is_value_among live (get_or ranges place 0) (get_or values place None) ≡ true →
    first_fault (value_fault live class id) (take place (zip ranges values)) (drop place (zip ranges values)) ≡ first_fault (value_fault live class id) (take (place + 1) (zip ranges values)) (drop (place + 1) (zip ranges values))
good_value live class id ranges values place in_ranges in_values good =
    value_at live class id ranges values place in_ranges in_values ∙ ap (λ (b : Bool). option_or (cond b None (Some (BadValue class id place))) (first_fault (value_fault live class id) (take (place + 1) (zip ranges values)) (drop (place + 1) (zip ranges values)))) good

-- past the last pair only the number of values is left
values_counted : (live : ℕ → ℕ → Bool) (class id : ℕ) (ranges : List ℕ) (values : List (Option ℕ)) (place : ℕ) → min (length ranges) (length values) ≤ place →
    first_fault (value_fault live class id) [] (zip ranges values) ≡ first_fault (value_fault live class id) (take place (zip ranges values)) (drop place (zip ranges values)) →
    values_fault live class id ranges values ≡ cond (length values == length ranges) None (Some (BadValue class id (length ranges)))
values_counted live class id ranges values place past so_far =
    let long = length-zip ranges values in
    ap (λ (o : Option PlanFault). option_or o (cond (length values == length ranges) None (Some (BadValue class id (length ranges))))) (so_far ∙ first_fault-end (value_fault live class id) (zip ranges values) place (omega arith))

pub wrong_count : (live : ℕ → ℕ → Bool) (class id : ℕ) (ranges : List ℕ) (values : List (Option ℕ)) (place : ℕ) → min (length ranges) (length values) ≤ place → (length values ≡ length ranges → ⊥) →
    first_fault (value_fault live class id) [] (zip ranges values) ≡ first_fault (value_fault live class id) (take place (zip ranges values)) (drop place (zip ranges values)) →
    Some (BadValue class id (length ranges)) ≡ values_fault live class id ranges values
wrong_count live class id ranges values place past wrong so_far =
    sym (values_counted live class id ranges values place past so_far ∙ ap (λ (b : Bool). cond b None (Some (BadValue class id (length ranges)))) (eqb_other (length values) (length ranges) wrong))

pub right_count : (live : ℕ → ℕ → Bool) (class id : ℕ) (ranges : List ℕ) (values : List (Option ℕ)) (place : ℕ) → min (length ranges) (length values) ≤ place → length values ≡ length ranges →
    first_fault (value_fault live class id) [] (zip ranges values) ≡ first_fault (value_fault live class id) (take place (zip ranges values)) (drop place (zip ranges values)) →
    None ≡ values_fault live class id ranges values
right_count live class id ranges values place past right so_far =
    sym (values_counted live class id ranges values place past so_far ∙ ap (λ (b : Bool). cond b None (Some (BadValue class id (length ranges)))) (eqb_same (length values) (length ranges) right))
