-- What placing and steps leave alone: the names, the weights, and the shapes of classes.
use Rattle.std.proofs.Common.{◌≡◌, ◌∙◌, ℕ, Bool, cond, true, false, List, [], ◌∷◌, map, Option, Some, None, refl, ap}
use Rattle.std.specs.Option.{option_map, option_map_or}
use Rattle.plan_scores.specs.declared.plan_score.PlanScore.{PlanScore}
use Rattle.plan_scores.specs.Order.{is_better_plan}
use Rattle.plan_facts.specs.Plan.{PlanView, no_class}
use Rattle.plan_facts.specs.PlanChanges.{with_value}
use Rattle.std.proofs.Math.Seq.{map-set_same}
use Rattle.plan_moves.specs.declared.edit.Set.{Set}
use Rattle.plan_moves.specs.declared.edit.Touch.{Touch}
use Rattle.plan_moves.specs.Edits.{applied}
use Rattle.plan_changes.specs.Fits.{Shape, shape_in}
use Rattle.foragers.specs.declared.Seen.{Seen}
use Rattle.acceptors.specs.History.{History}
use Rattle.plan_search.specs.Game.{found_at}
use Rattle.plan_search.specs.Judging.{winning}
use Rattle.plan_search.specs.Leg.{history_of, idle_step, state_of, step_won_by, won_step}
use Rattle.plan_search.specs.Placing.{Placing, before, best_edit, placed_in, placing_of}
use Rattle.plan_search.specs.Posed.{Posed, State, candidate_at, move_of, state_score, with_plan}
use Rattle.plan_search.specs.Quiet.{game}
use Rattle.plan_session.specs.Course.{BareLeg, best_in, gone_on, step_in}
use Rattle.plan_session.specs.Live.{Frame, StaysInFrame, frame_of}
use Rattle.plan_session.proofs.Played.{best_next, state_next}

-- the shapes of a plan's classes
abbrev pub shapes : PlanView → List Shape
shapes plan = map shape_in plan.classes

-- a variable that is set changes no shape
shapes_set : (plan : PlanView) (class id var : ℕ) (value : Option ℕ) → shapes (with_value plan class id var value) ≡ shapes plan
unfolding with_value
shapes_set plan class id var value = map-set_same shape_in plan.classes class _ no_class refl

-- nor does an edit
shapes_applied : (plan : PlanView) (sets : List Set) → shapes (applied plan sets) ≡ shapes plan
unfolding applied
shapes_applied plan [] = refl
shapes_applied plan (first ∷ rest) =
    shapes_applied (with_value plan first.class first.id first.var first.value) rest
    ∙ shapes_set plan first.class first.id first.var first.value

-- a placing whose first entity has this best edit, or none
abbrev placing_with : (PlanView → PlanScore) → PlanView → Touch → List Touch → Option (List Set) → Placing
placing_with score plan entity rest edit =
    elim edit [
      | None ↦ record { placed = []; stuck = Some entity; plan = plan }
      | Some sets ↦ before (placed_in score (applied plan sets) entity) (placing_of score (applied plan sets) rest)
    ]

placed_with : (score : PlanView → PlanScore) (plan : PlanView) (entity : Touch) (rest : List Touch) (edit : Option (List Set))
    → ((next : PlanView) → shapes (placing_of score next rest).plan ≡ shapes next)
    → shapes (placing_with score plan entity rest edit).plan ≡ shapes plan
placed_with score plan entity rest None more = refl
placed_with score plan entity rest (Some sets) more = more (applied plan sets) ∙ shapes_applied plan sets

-- nor does a placing
pub shapes_placed : (score : PlanView → PlanScore) (plan : PlanView) (todo : List Touch)
    → shapes (placing_of score plan todo).plan ≡ shapes plan
shapes_placed score plan [] = refl
shapes_placed score plan (entity ∷ rest) =
    placed_with score plan entity rest (best_edit score plan entity) (λ next. shapes_placed score next rest)

-- an edit of a state stays in its frame
moved : (state : State) (sets : List Set) → frame_of (with_plan state (applied state.plan sets)) ≡ frame_of state
moved state sets =
    ap (λ those. record { names = state.names; weights = state.weights; shapes = those }) (shapes_applied state.plan sets)

made_stays : (posed : Posed) (k number : ℕ) (h : History) (state : State) (edit : Option (List Set))
    → frame_of (option_map_or (won_step (game posed) k h number) (option_map (move_of state) edit) (idle_step k state)).after
    ≡ frame_of state
made_stays posed k number h state None = refl
made_stays posed k number h state (Some sets) = moved state sets

won_stays : (posed : Posed) (k : ℕ) (h : History) (state : State) (winner : Option Seen)
    → frame_of (step_won_by (game posed) k h state winner).after ≡ frame_of state
won_stays posed k h state None = refl
won_stays posed k h state (Some seen) =
    made_stays posed k seen.number h state (candidate_at posed k seen.number state.plan)

either_stays : (frame : Frame) (one other : State) (c : Bool) → frame_of one ≡ frame → frame_of other ≡ frame
    → frame_of (cond c one other) ≡ frame
either_stays frame one other true is other_is = is
either_stays frame one other false is other_is = other_is

-- a leg that stays in its frame does so with one step more
pub goes_on_in_frame : (posed : Posed) (k : ℕ) (leg : BareLeg) → StaysInFrame posed leg → StaysInFrame posed (gone_on posed k leg)
goes_on_in_frame posed k leg stays =
    let g = game posed in
    let h = history_of g leg in
    let next = (step_in posed k leg).after in
    let best = best_in posed leg in
    let in_frame : frame_of next ≡ frame_of leg.start =
    won_stays posed k h (state_of leg) (winning posed.settings h (found_at g k (state_of leg))) ∙ stays.now in
    record {
      now = ap frame_of (state_next posed k leg) ∙ in_frame;
      best = ap frame_of (best_next posed k leg)
          ∙ either_stays (frame_of leg.start) next best (is_better_plan (state_score posed next) (state_score posed best))
          in_frame stays.best;
    }
