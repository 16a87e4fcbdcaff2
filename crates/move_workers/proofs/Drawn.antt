-- What becomes of a candidate that was drawn.
use Rattle.std.proofs.Common.{◌≡◌, ◌∙◌, ℕ, Bool, true, false, cond, List, Option, Some, None, Ok, refl, ap, sym}
use Rattle.std.specs.Prelude.{option_map}
use Rattle.std.specs.Option.{option_and_then}
use Rattle.plan_facts.specs.Plan.{PlanView}
use Rattle.plan_scores.specs.declared.plan_score.PlanScore.{PlanScore}
use Rattle.plan_draws.specs.Draws.{words}
use Rattle.plan_moves.specs.declared.edit.Set.{Set}
use Rattle.plan_moves.specs.Edits.{inverse_of, is_doable, touched_by}
use Rattle.plan_moves.specs.Made.{Fills}
use Rattle.plan_rules.specs.Meaning.{Meaning}
use Rattle.plan_settings.specs.declared.setting.Selector.{Selector}
use Rattle.move_selectors.specs.Candidates.{Made, candidate_of}
use Rattle.score_director.specs.View.{DirectorView, attempted, judged, score_seen}
use Rattle.plan_search.specs.Posed.{candidate_by, doable_only}
use Rattle.move_workers.specs.Judging.{HasPlayed, WorkerView, candidate_in, found_by, played}

-- an edit that wasn't filled is due to none
pub none_due : (drawn : Bool) (due : Option (List Set)) (edit : List Set) → drawn ≡ false → Fills {E = ℕ} (Ok drawn) due edit → due ≡ None
none_due true due edit undrawn fills = cc
none_due false due edit undrawn fills = fills.0

-- an edit that was filled is the one that is due
pub some_due : (drawn : Bool) (due : Option (List Set)) (edit : List Set) → drawn ≡ true → Fills {E = ℕ} (Ok drawn) due edit → due ≡ Some edit
some_due true due edit drawn fills = fills
some_due false due edit drawn fills = cc

-- the candidate is what was drawn, where that is doable
pub candidate_drawn : (seed draws : ℕ) (selectors : List Selector) (makers : List Made) (step number : ℕ) (worker : WorkerView) (plan : PlanView) (due : Option (List Set)) → seed ≡ draws → plan ≡ worker.director.plan → candidate_of plan selectors makers (words draws step number) ≡ due → candidate_in seed selectors makers step number worker ≡ option_and_then (doable_only worker.director.plan) due
unfolding candidate_by
candidate_drawn seed draws selectors makers step number worker plan due same_seed same_plan is =
    ap (λ (s : ℕ). option_and_then (doable_only worker.director.plan) (candidate_of worker.director.plan selectors makers (words s step number))) same_seed
    ∙ ap (λ (p : PlanView). option_and_then (doable_only worker.director.plan) (candidate_of p selectors makers (words draws step number))) (sym same_plan)
    ∙ ap (option_and_then (doable_only worker.director.plan)) is

-- an edit that is doable
pub doable_some : (plan : PlanView) (sets : List Set) → is_doable plan sets ≡ true → doable_only plan sets ≡ Some sets
doable_some plan sets doable = ap (λ (b : Bool). cond b (Some sets) None) doable

-- an edit that isn't doable
pub doable_none : (plan : PlanView) (sets : List Set) → is_doable plan sets ≡ false → doable_only plan sets ≡ None
doable_none plan sets undoable = ap (λ (b : Bool). cond b (Some sets) None) undoable

-- a choice between a value and none is none for every value or for no value
none_for_all : {X Y : Type 0} (b : Bool) (x : X) (y : Y) → cond b (Some x) None ≡ None → cond b (Some y) None ≡ None
none_for_all true x y is = cc
none_for_all false x y is = refl

-- a choice between a value and none that is some value is this one
some_is : {X Y : Type 0} (b : Bool) (x : X) (y : Y) (z : X) → cond b (Some x) None ≡ Some z → (cond b (Some y) None ≡ Some y) × (x ≡ z)
some_is true x y z is = (refl, cc)
some_is false x y z is = cc

-- where an edit isn't judged, nothing is found
pub found_none : (m : Meaning) (seen : DirectorView) (sets : List Set) → judged m seen sets ≡ None → found_by m seen (doable_only seen.plan sets) ≡ None
found_none m seen sets is =
    ap (found_by m seen) (none_for_all (is_doable seen.plan sets) (score_seen m (attempted seen sets)) sets is)

-- where an edit is judged, its score and what it touches are found
pub found_some : (m : Meaning) (seen : DirectorView) (sets : List Set) (score : PlanScore) → judged m seen sets ≡ Some score → found_by m seen (doable_only seen.plan sets) ≡ Some (record { score = score; touched = touched_by sets })
found_some m seen sets score is =
    let p = some_is (is_doable seen.plan sets) (score_seen m (attempted seen sets)) sets score is in
    ap (found_by m seen) p.0 ∙ ap (λ (s : PlanScore). Some (record { score = s; touched = touched_by sets })) p.1

-- where there is no candidate, nothing is played
pub idle : (worker later : WorkerView) (candidate : Option (List Set)) → later ≡ worker → candidate ≡ None → HasPlayed worker later candidate None
idle worker later candidate same none = record {
  now = same ∙ sym (ap (played worker) none);
  back = sym (ap (option_map (inverse_of worker.director.plan)) none);
}
