-- One choice more, and the end of the choices.
use Rattle.std.proofs.Common.{◌≡◌, ◌∙◌, ◌<◌, ◌≤◌, ◌-◌, ◌+◌, ℕ, suc, Option, Some, None, List, [], ◌∷◌, ◌++◌, length, get_or, slice_get, map, take, drop, length-append, refl, sym, ap, subst, arith}
use Rattle.std.specs.Prelude.{option_to_list, option_map, IfNone}
use Rattle.std.proofs.lemmas.List.{append-nil, take_all}
use Rattle.plan_scores.specs.declared.plan_score.PlanScore.{PlanScore}
use Rattle.plan_facts.specs.Plan.{PlanView, IsPlan}
use Rattle.plan_moves.specs.declared.edit.Set.{Set}
use Rattle.plan_moves.specs.declared.edit.Touch.{Touch}
use Rattle.plan_moves.specs.Entities.{choices_of, values_of}
use Rattle.plan_search.specs.Placing.{best_edit, choice_set, choice_sets, combinations, null_places, placing_edits}
use Rattle.plan_search.proofs.Chosen.{chosen_first}
use Rattle.construction.specs.declared.best.Best.{Best}
use Rattle.construction.specs.Best.{FindsBest, IsBestOf, MayGoOn, completions}
use Rattle.construction.proofs.BestLaws.{edits-push}
use Rattle.construction.proofs.GoOnLaws.{go_on_more}

-- the rest of a list behind its first member
abbrev pub rest_of : List ℕ → List ℕ
rest_of xs = take (length xs - 1) (drop 1 xs)

pub first_and_rest : (xs : List ℕ) → 0 < length xs → xs ≡ get_or xs 0 0 ∷ rest_of xs
first_and_rest [] h = absurd (omega arith)
first_and_rest (x ∷ xs) h = ap (λ zs. x ∷ zs) (sym (take_all (suc (length xs) - 1) xs (omega arith)))

-- the edits of an entity whose first variable takes one of its first k choices
abbrev pub edits_up_to : PlanView → Touch → List ℕ → List Set → ℕ → List (List Set)
edits_up_to plan entity vars sets k =
    map (λ chosen. sets ++ chosen)
    (chosen_first (take k (choice_sets plan entity (get_or vars 0 0))) (combinations (map (choice_sets plan entity) (rest_of vars))))

-- none of the choices was judged
pub finds_none : (score : PlanView → PlanScore) (plan : PlanView) (best : Option Best) → FindsBest score plan best best []
finds_none score plan best = λ edits h. subst (λ es. IsBestOf score plan es best) (sym (append-nil edits)) h

-- no variable is left to choose for: the edit is the sets
pub finds_one : (score : PlanView → PlanScore) (plan : PlanView) (entity : Touch) (vars : List ℕ) (sets : List Set) (old new : Option Best)
    → vars ≡ [] → FindsBest score plan old new (sets ∷ []) → FindsBest score plan old new (completions plan entity vars sets)
finds_one score plan entity vars sets old new none finds =
    subst (λ vs. FindsBest score plan old new (completions plan entity vs sets)) (sym none)
    (subst (λ es. FindsBest score plan old new (es ∷ [])) (sym (append-nil sets)) finds)

-- one choice more was judged
pub finds_more : (score : PlanView → PlanScore) (plan : PlanView) (entity : Touch) (vars : List ℕ) (sets mid : List Set) (choice : Set) (k : ℕ) (old best new : Option Best)
    → mid ≡ sets ++ choice ∷ [] → slice_get (choice_sets plan entity (get_or vars 0 0)) k ≡ Some choice
    → FindsBest score plan old best (edits_up_to plan entity vars sets k)
    → FindsBest score plan best new (completions plan entity (rest_of vars) mid)
    → FindsBest score plan old new (edits_up_to plan entity vars sets (k + 1))
finds_more score plan entity vars sets mid choice k old best new is at before more =
    let rest = combinations (map (choice_sets plan entity) (rest_of vars)) in
    let choices = choice_sets plan entity (get_or vars 0 0) in
    let more' : FindsBest score plan best new (map (λ chosen. (sets ++ choice ∷ []) ++ chosen) rest) =
    subst (λ m. FindsBest score plan best new (map (λ chosen. m ++ chosen) rest)) is more in
    λ edits h. subst (λ es. IsBestOf score plan es new) (edits-push edits sets choices rest k choice at)
    (more' (edits ++ edits_up_to plan entity vars sets k) (before edits h))

-- all choices were judged
pub finds_all : (score : PlanView → PlanScore) (plan : PlanView) (entity : Touch) (vars : List ℕ) (sets : List Set) (k : ℕ) (old new : Option Best)
    → 0 < length vars → length (choice_sets plan entity (get_or vars 0 0)) ≤ k → FindsBest score plan old new (edits_up_to plan entity vars sets k)
    → FindsBest score plan old new (completions plan entity vars sets)
finds_all score plan entity vars sets k old new some past before =
    let rest = combinations (map (choice_sets plan entity) (rest_of vars)) in
    let all : edits_up_to plan entity vars sets k ≡ completions plan entity vars sets =
    ap (λ cs. map (λ chosen. sets ++ chosen) (chosen_first cs rest)) (take_all k (choice_sets plan entity (get_or vars 0 0)) past)
    ∙ ap (λ vs. completions plan entity vs sets) (sym (first_and_rest vars some)) in
    subst (λ more. FindsBest score plan old new more) all before

-- the sets with the choice go on
pub goes_on : (plan : PlanView) (entity : Touch) (vars : List ℕ) (sets mid : List Set) (value : Option ℕ) (k : ℕ) → IsPlan plan → 0 < length vars
    → MayGoOn plan entity vars sets → slice_get (choices_of plan entity.class (get_or vars 0 0)) k ≡ Some value
    → mid ≡ sets ++ choice_set entity (get_or vars 0 0) value ∷ [] → MayGoOn plan entity (rest_of vars) mid
goes_on plan entity vars sets mid value k sound some go_on at is =
    let go_on' : MayGoOn plan entity (get_or vars 0 0 ∷ rest_of vars) sets =
    subst (λ vs. MayGoOn plan entity vs sets) (first_and_rest vars some) go_on in
    subst (λ m. MayGoOn plan entity (rest_of vars) m) (sym is)
    (go_on_more plan entity (get_or vars 0 0) (rest_of vars) sets value k sound go_on' at)

-- what was pushed last was taken off again
pub popped : (old new sets : List Set) (choice : Set) (last : Option Set) → old ≡ sets ++ choice ∷ [] → old ≡ new ++ option_to_list last → IfNone last (old ≡ []) → new ≡ sets
popped old new sets choice None pushed items none =
    let long = length-append sets (choice ∷ []) in
    let empty : sets ++ choice ∷ [] ≡ [] = sym pushed ∙ none in
    absurd (omega (arith, long, ap length empty))
popped old new sets choice (Some x) pushed items none = same_front new sets x choice (sym items ∙ pushed)
  where
    same_front : (xs ys : List Set) (x y : Set) → xs ++ x ∷ [] ≡ ys ++ y ∷ [] → xs ≡ ys
    same_front [] [] x y e = refl
    same_front [] (z ∷ []) x y e = cc
    same_front [] (z ∷ w ∷ ys) x y e = cc
    same_front (z ∷ []) [] x y e = cc
    same_front (z ∷ w ∷ xs) [] x y e = cc
    same_front (z ∷ xs) (w ∷ ys) x y e =
        let h : z ≡ w = cc in
        let t : xs ++ x ∷ [] ≡ ys ++ y ∷ [] = cc in
        ap (λ v. v ∷ xs) h ∙ ap (λ vs. w ∷ vs) (same_front xs ys x y t)

-- of no edits there is no best one
no_best : (score : PlanView → PlanScore) (plan : PlanView) → IsBestOf score plan [] None
no_best score plan = record { edit = refl; judged = tt; legal = tt }

-- the best of all edits that place an entity
pub is_best_edit : (score : PlanView → PlanScore) (plan : PlanView) (entity : Touch) (vars : List ℕ) (sets : List Set) (old new found : Option Best)
    → vars ≡ null_places (values_of plan entity) → sets ≡ [] → old ≡ None → found ≡ new → FindsBest score plan old new (completions plan entity vars sets)
    → IsBestOf score plan (placing_edits plan entity) found
is_best_edit score plan entity vars sets old new found are none first is finds =
    let all : completions plan entity vars sets ≡ placing_edits plan entity =
    ap (completions plan entity vars) none ∙ unchanged (combinations (map (choice_sets plan entity) vars))
    ∙ ap (λ vs. combinations (map (choice_sets plan entity) vs)) are in
    let begin : IsBestOf score plan [] old = subst (λ b. IsBestOf score plan [] b) (sym first) (no_best score plan) in
    subst (λ b. IsBestOf score plan (placing_edits plan entity) b) (sym is) (subst (λ es. IsBestOf score plan es new) all (finds [] begin))
  where
    unchanged : (xs : List (List Set)) → map (λ chosen. [] ++ chosen) xs ≡ xs
    unchanged [] = refl
    unchanged (x ∷ xs) = ap (λ zs. x ∷ zs) (unchanged xs)

-- the best edit is that of the definition
pub edit_is : (score : PlanView → PlanScore) (plan : PlanView) (entity : Touch) (best : Option Best)
    → IsBestOf score plan (placing_edits plan entity) best → option_map (λ b. b.edit) best ≡ best_edit score plan entity
unfolding best_edit
edit_is score plan entity best h = h.edit
