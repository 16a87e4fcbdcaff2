-- The best of some edits, and of more of them.
use Rattle.std.proofs.Common.{◌≡◌, ◌∙◌, ◌+◌, Bool, true, false, cond, slice_get, take, ℕ, Option, Some, None, List, [], ◌∷◌, ◌++◌, map, refl, sym, ap, subst, append_assoc}
use Rattle.std.specs.Option.{option_map_or}
use Rattle.std.proofs.lemmas.List.{append-nil, map-append, take_more}
use Rattle.std.proofs.lemmas.Grind.{flat_map-append}
use Rattle.std.proofs.lemmas.Option.{get_or_from_slice_get, slice_get_within}
use Rattle.plan_scores.specs.declared.plan_score.PlanScore.{PlanScore}
use Rattle.plan_scores.specs.Best.{first_best, or_better}
use Rattle.plan_scores.specs.Order.{is_better_plan}
use Rattle.plan_scores.proofs.FirstBest.{first_best-push}
use Rattle.plan_facts.specs.Plan.{PlanView}
use Rattle.plan_moves.specs.declared.edit.Set.{Set}
use Rattle.plan_moves.specs.Edits.{applied, is_legal}
use Rattle.plan_search.proofs.Chosen.{chosen_first}
use Rattle.construction.specs.declared.best.Best.{Best}
use Rattle.construction.specs.Best.{FindsBest, IsBestOf, best_with}

-- one more edit was judged and is kept where it is better
pub considered : (score : PlanView → PlanScore) (plan : PlanView) (old : Option Best) (sets : List Set) (judged : PlanScore) (better : Bool)
    → judged ≡ score (applied plan sets) → is_legal plan sets ≡ true → better ≡ option_map_or (λ b. is_better_plan judged b.score) old true
    → FindsBest score plan old (cond better (Some (best_with sets judged)) old) (sets ∷ [])
considered score plan None sets judged better is legal answer =
    subst (λ b. FindsBest score plan None (cond b (Some (best_with sets judged)) None) (sets ∷ [])) (sym answer)
    (λ edits h.
    let f : List Set → PlanScore = λ s. score (applied plan s) in
    let none : first_best f edits ≡ None = sym h.edit in
    let push = first_best-push f edits sets in
    record {
      edit = sym (push ∙ ap (λ b. Some (or_better f b sets)) none);
      judged = is;
      legal = legal;
    })
considered score plan (Some best) sets judged better is legal answer =
    λ edits h.
    let f : List Set → PlanScore = λ s. score (applied plan s) in
    let first : first_best f edits ≡ Some best.edit = sym h.edit in
    let push : first_best f (edits ++ sets ∷ []) ≡ Some (cond (is_better_plan (f sets) (f best.edit)) sets best.edit) =
    first_best-push f edits sets ∙ ap (λ b. Some (or_better f b sets)) first in
    let same : better ≡ is_better_plan (f sets) (f best.edit) = answer ∙ (λ i. is_better_plan (is i) (h.judged i)) in
    let found = push ∙ ap (λ b. Some (cond b sets best.edit)) (sym same) in
    elim better as (λ b. first_best f (edits ++ sets ∷ []) ≡ Some (cond b sets best.edit)
    → IsBestOf score plan (edits ++ sets ∷ []) (cond b (Some (best_with sets judged)) (Some best))) [
      | true ↦ λ found. record { edit = sym found; judged = is; legal = legal }
      | false ↦ λ found. record { edit = sym found; judged = h.judged; legal = h.legal }
    ] found

-- one choice more
pub chosen_first-push : {A : Type 0} (choices : List A) (rest : List (List A)) (k : ℕ) (choice : A) → slice_get choices k ≡ Some choice
    → chosen_first (take (k + 1) choices) rest ≡ chosen_first (take k choices) rest ++ map (λ sets. choice ∷ sets) rest
chosen_first-push choices rest k choice at =
    ap (λ zs. chosen_first zs rest) (take_more choices k choice (slice_get_within choices k choice at)
    ∙ ap (λ c. take k choices ++ c ∷ []) (get_or_from_slice_get choices k choice choice at))
    ∙ flat_map-append (λ c. map (λ sets. c ∷ sets) rest) (take k choices) (choice ∷ [])
    ∙ ap (λ zs. chosen_first (take k choices) rest ++ zs) (append-nil (map (λ sets. choice ∷ sets) rest))

prefixed : {A : Type 0} (before : List A) (choice : A) (rest : List (List A))
    → map (λ chosen. before ++ chosen) (map (λ sets. choice ∷ sets) rest) ≡ map (λ chosen. (before ++ choice ∷ []) ++ chosen) rest
prefixed before choice [] = refl
prefixed before choice (sets ∷ rest) =
    ap (λ z. z ∷ map (λ chosen. before ++ chosen) (map (λ ss. choice ∷ ss) rest)) (sym (append_assoc before (choice ∷ []) sets))
    ∙ ap (λ zs. ((before ++ choice ∷ []) ++ sets) ∷ zs) (prefixed before choice rest)

-- the edits with one choice more, behind those that were judged
pub edits-push : {A : Type 0} (edits : List (List A)) (before choices : List A) (rest : List (List A)) (k : ℕ) (choice : A) → slice_get choices k ≡ Some choice
    → (edits ++ map (λ chosen. before ++ chosen) (chosen_first (take k choices) rest)) ++ map (λ chosen. (before ++ choice ∷ []) ++ chosen) rest
    ≡ edits ++ map (λ chosen. before ++ chosen) (chosen_first (take (k + 1) choices) rest)
edits-push edits before choices rest k choice at =
    append_assoc edits (map (λ chosen. before ++ chosen) (chosen_first (take k choices) rest)) (map (λ chosen. (before ++ choice ∷ []) ++ chosen) rest)
    ∙ ap (λ zs. edits ++ zs)
    (ap (λ zs. map (λ chosen. before ++ chosen) (chosen_first (take k choices) rest) ++ zs) (sym (prefixed before choice rest))
    ∙ sym (map-append (λ chosen. before ++ chosen) (chosen_first (take k choices) rest) (map (λ sets. choice ∷ sets) rest))
    ∙ ap (map (λ chosen. before ++ chosen)) (sym (chosen_first-push choices rest k choice at)))
