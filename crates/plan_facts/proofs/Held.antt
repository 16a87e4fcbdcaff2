-- What variables hold, one more at a time; and what a slice that was lent writes back.
use Rattle.std.proofs.Common.{◌≡◌, ◌<◌, ◌≤◌, ◌∙◌, ◌+◌, ℕ, Option, None, List, [], ◌∷◌, ◌++◌, length, take, get_or, zip, map, ap, sym, arith}
use Rattle.std.proofs.lemmas.List.{append-nil, drop_all, map_more, take_all}
use Rattle.std.proofs.lemmas.Slice.Zip.{length-zip, get_or-zip}
use Rattle.plan_facts.specs.Lent.{written_back}
use Rattle.plan_facts.specs.Plan.{PlanView, held_value, held_values}

-- one more variable
pub held_more : (plan : PlanView) (ranges : List ℕ) (values : List (Option ℕ)) (var : ℕ) → var < length ranges → var < length values → map (λ pair. held_value plan pair.0 pair.1) (take var (zip ranges values)) ++ held_value plan (get_or ranges var 0) (get_or values var None) ∷ [] ≡ map (λ pair. held_value plan pair.0 pair.1) (take (var + 1) (zip ranges values))
held_more plan ranges values var in_ranges in_values =
    let held = λ (pair : ℕ × Option ℕ). held_value plan pair.0 pair.1 in
    let pair = get_or-zip ranges values var (0, None) in_ranges in_values in
    let long = length-zip ranges values in
    ap (λ (p : ℕ × Option ℕ). map held (take var (zip ranges values)) ++ held p ∷ []) (sym pair) ∙ sym (map_more held (zip ranges values) var (0, None) (omega arith))

-- all variables
pub held_all : (plan : PlanView) (ranges : List ℕ) (values : List (Option ℕ)) (var : ℕ) → length values ≡ length ranges → length ranges ≤ var → map (λ pair. held_value plan pair.0 pair.1) (take var (zip ranges values)) ≡ held_values plan ranges values
held_all plan ranges values var same past =
    let long = length-zip ranges values in
    ap (map (λ (pair : ℕ × Option ℕ). held_value plan pair.0 pair.1)) (take_all var (zip ranges values) (omega arith))

-- what is as long as the list was stands in its place
pub written_back-whole : {A : Type 0} (was now : List A) → length now ≡ length was → written_back was now ≡ now
written_back-whole {A} was now same =
    ap (λ (rest : List A). take (length was) (now ++ rest)) (drop_all (length now) was (omega arith))
    ∙ ap (take (length was)) (append-nil now)
    ∙ take_all (length was) now (omega arith)
