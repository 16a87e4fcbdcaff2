-- The course of a placing: which entities it comes to, and the plan that it leaves.
use Rattle.std.proofs.Common.{◌≡◌, List, [], ◌∷◌, ◌++◌, Contains, Option, Some, None, refl, sym, ap, subst}
use Rattle.plan_scores.specs.declared.plan_score.PlanScore.{PlanScore}
use Rattle.plan_scores.specs.Best.{first_best}
use Rattle.plan_facts.specs.Plan.{PlanView}
use Rattle.plan_moves.specs.declared.edit.Set.{Set}
use Rattle.plan_moves.specs.declared.edit.Touch.{Touch}
use Rattle.plan_moves.specs.Edits.{applied}
use Rattle.plan_search.specs.declared.placed.Placed.{Placed}
use Rattle.plan_search.specs.Placing.{Placing, before, best_edit, null_choices, placed_in, placing_edits, placing_of}
use Rattle.plan_search.specs.Laws.{EndsAsPlaced, GoesOnWith, GoesThrough, IsAsIn, IsStuckWithoutEdit}
use Rattle.plan_search.proofs.Chosen.{combined_none, first_best-none, none_combined}

-- an entity without a best edit has a null variable with no choice
pub no_choice : (score : PlanView → PlanScore) (plan : PlanView) (entity : Touch)
    → best_edit score plan entity ≡ None → Contains (null_choices plan entity) []
unfolding best_edit
no_choice score plan entity h =
    combined_none (null_choices plan entity) (first_best-none (λ sets. score (applied plan sets)) (placing_edits plan entity) h)

-- an entity with a null variable that has no choice has no best edit
pub no_edit : (score : PlanView → PlanScore) (plan : PlanView) (entity : Touch)
    → Contains (null_choices plan entity) [] → best_edit score plan entity ≡ None
unfolding best_edit
no_edit score plan entity h = ap (first_best (λ sets. score (applied plan sets))) (none_combined (null_choices plan entity) h)

-- where a placing is stuck at once
abbrev stuck_at : PlanView → Touch → Placing
stuck_at plan entity = record { placed = []; stuck = Some entity; plan = plan }

-- a placing whose first entity has this best edit, or none
abbrev placing_with : (PlanView → PlanScore) → PlanView → Touch → List Touch → Option (List Set) → Placing
placing_with score plan entity rest edit =
    elim edit [ None ↦ stuck_at plan entity | Some sets ↦ before (placed_in score (applied plan sets) entity) (placing_of score (applied plan sets) rest) ]

-- the first entity is stuck, or it is placed and the rest goes on in order
in_order_with : (score : PlanView → PlanScore) (plan : PlanView) (entity : Touch) (rest : List Touch) (edit : Option (List Set))
    → ((sets : List Set) → GoesThrough rest (placing_of score (applied plan sets) rest)) → GoesThrough (entity ∷ rest) (placing_with score plan entity rest edit)
in_order_with score plan entity rest None more = record { after = rest; is = refl; all = λ e. cc }
in_order_with score plan entity rest (Some sets) more = record { after = (more sets).after; is = ap (λ tried. entity ∷ tried) (more sets).is; all = (more sets).all }

-- entities are placed in order, up to one that is stuck
pub placing_of-in_order : (score : PlanView → PlanScore) (plan : PlanView) (todo : List Touch) → GoesThrough todo (placing_of score plan todo)
placing_of-in_order score plan [] = record { after = []; is = refl; all = λ e. refl }
placing_of-in_order score plan (entity ∷ rest) = in_order_with score plan entity rest (best_edit score plan entity) (λ sets. placing_of-in_order score (applied plan sets) rest)

-- the first entity has no edit, or the rest is stuck
stuck_with : (score : PlanView → PlanScore) (plan : PlanView) (entity : Touch) (rest : List Touch) (edit : Option (List Set))
    → best_edit score plan entity ≡ edit → ((sets : List Set) → IsStuckWithoutEdit score (placing_of score (applied plan sets) rest))
    → IsStuckWithoutEdit score (placing_with score plan entity rest edit)
stuck_with score plan entity rest None is more =
    λ stuck e. let same : entity ≡ stuck = cc in subst (λ one. best_edit score plan one ≡ None) same is
stuck_with score plan entity rest (Some sets) is more = more sets

-- the entity at which a placing is stuck has no best edit in the last plan
pub placing_of-stuck : (score : PlanView → PlanScore) (plan : PlanView) (todo : List Touch)
    → IsStuckWithoutEdit score (placing_of score plan todo)
placing_of-stuck score plan [] = λ stuck e. cc
placing_of-stuck score plan (entity ∷ rest) =
    stuck_with score plan entity rest (best_edit score plan entity) refl (λ sets. placing_of-stuck score (applied plan sets) rest)

-- an entity is placed by its best edit
pub placing_of-best : (score : PlanView → PlanScore) (plan : PlanView) (entity : Touch) (sets : List Set) → best_edit score plan entity ≡ Some sets → (placing_of score plan (entity ∷ [])).plan ≡ applied plan sets
placing_of-best score plan entity sets h = ap (λ edit. (placing_with score plan entity [] edit).plan) h

-- the one placed last is as in the last plan, with one more placed before the rest
last_before : (score : PlanView → PlanScore) (plan : PlanView) (entity : Touch) (rest : Placing) → EndsAsPlaced score plan rest
    → (front : List Placed) (one : Placed) → placed_in score plan entity ∷ rest.placed ≡ front ++ one ∷ [] → IsAsIn score rest.plan one
last_before score plan entity rest more [] one e =
    let same : placed_in score plan entity ≡ one = cc in
    let none : rest.placed ≡ [] = cc in
    let here : IsAsIn score plan (placed_in score plan entity) = record { values = refl; scored = refl } in
    subst (λ (p : PlanView). IsAsIn score p one) (sym (more.none none)) (subst (λ (o : Placed). IsAsIn score plan o) same here)
last_before score plan entity rest more (first ∷ front) one e =
    let later : rest.placed ≡ front ++ one ∷ [] = cc in
    more.last front one later

-- a list with a last member is not empty
no_last : (front : List Placed) (one : Placed) → [] ≡ front ++ one ∷ [] → ⊥
no_last [] one e = cc
no_last (first ∷ front) one e = cc

-- where none was placed the plan is as it was
ends_at_once : (score : PlanView → PlanScore) (plan : PlanView) (stuck : Option Touch) → EndsAsPlaced score plan (record { placed = []; stuck = stuck; plan = plan })
ends_at_once score plan stuck = record { none = λ e. refl; last = λ front one e. absurd (no_last front one e) }

-- the first entity is stuck, or the rest ends as placed
leaves_with : (score : PlanView → PlanScore) (plan : PlanView) (entity : Touch) (rest : List Touch) (edit : Option (List Set))
    → ((sets : List Set) → EndsAsPlaced score (applied plan sets) (placing_of score (applied plan sets) rest)) → EndsAsPlaced score plan (placing_with score plan entity rest edit)
leaves_with score plan entity rest None more = ends_at_once score plan (Some entity)
leaves_with score plan entity rest (Some sets) more =
    record {
      none = λ e. cc;
      last = last_before score (applied plan sets) entity (placing_of score (applied plan sets) rest) (more sets);
    }

-- the last plan is the one that the entities were placed in
pub placing_of-leaves : (score : PlanView → PlanScore) (plan : PlanView) (todo : List Touch) → EndsAsPlaced score plan (placing_of score plan todo)
placing_of-leaves score plan [] = ends_at_once score plan None
placing_of-leaves score plan (entity ∷ rest) = leaves_with score plan entity rest (best_edit score plan entity) (λ sets. placing_of-leaves score (applied plan sets) rest)

-- the first entity is stuck, or the rest goes on
append_with : (score : PlanView → PlanScore) (plan : PlanView) (entity : Touch) (rest more : List Touch) (edit : Option (List Set))
    → ((sets : List Set) → GoesOnWith score more (placing_of score (applied plan sets) rest) (placing_of score (applied plan sets) (rest ++ more)))
    → GoesOnWith score more (placing_with score plan entity rest edit) (placing_with score plan entity (rest ++ more) edit)
append_with score plan entity rest more None goes = λ e. cc
append_with score plan entity rest more (Some sets) goes = λ e. ap (before (placed_in score (applied plan sets) entity)) (goes sets e)

-- where none of the first entities is stuck, the others are placed in the plan that those leave
pub placing_of-append : (score : PlanView → PlanScore) (plan : PlanView) (todo more : List Touch) → GoesOnWith score more (placing_of score plan todo) (placing_of score plan (todo ++ more))
placing_of-append score plan [] more = λ e. refl
placing_of-append score plan (entity ∷ rest) more = append_with score plan entity rest more (best_edit score plan entity) (λ sets. placing_of-append score (applied plan sets) rest more)
