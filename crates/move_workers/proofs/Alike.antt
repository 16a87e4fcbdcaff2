-- Workers that are all alike.
use Rattle.std.proofs.Common.{◌≡◌, ◌∙◌, ◌+◌, ◌<◌, ◌≤◌, ℕ, Option, Some, None, List, length, get_or, set, refl, sym, ap, subst, arith, All}
use Rattle.std.proofs.lemmas.List.{get_or-set_other, get_or-set_same, length-set}
use native.Mathlib.Decide.{ℕ_discrete}
use Rattle.claim_board.specs.Boards.{BoardView}
use Rattle.plan_moves.specs.declared.edit.Set.{Set}
use Rattle.plan_rules.specs.declared.rule.RuleDef.{RuleDef}
use Rattle.plan_rules.specs.Range.{MayJudge, sizes_of}
use Rattle.score_director.proofs.Worth.{sizes_of-applied}
use Rattle.plan_search.specs.declared.found.Found.{Found}
use Rattle.move_workers.specs.declared.job.Job.{Job}
use Rattle.move_workers.specs.Jobs.{IsDone, found_from}
use Rattle.move_workers.specs.Judging.{WorkerView, played}

-- what each job did, where their workers are alike
pub done_alike : (find : WorkerView → ℕ → Option Found) (board : BoardView) (first : ℕ) (old new : List (Job WorkerView)) → length new ≡ length old
    → ((i : ℕ) (d : Job WorkerView) → i < length old → IsDone board (get_or old i d).worker (found_from (find (get_or old i d).worker) first) (get_or new i d))
    → (worker : WorkerView) → All (λ job. job.worker ≡ worker) old → All (IsDone board worker (found_from (find worker) first)) new
done_alike find board first old new same each worker alike k d lt =
    let within : k < length old = omega arith in
    subst (λ w. IsDone board w (found_from (find w) first) (get_or new k d)) (alike k d within) (each k d within)

-- a plan keeps its sizes where a candidate is played
pub sizes_played : (worker : WorkerView) (candidate : Option (List Set)) → sizes_of (played worker candidate).director.plan ≡ sizes_of worker.director.plan
sizes_played worker None = refl
sizes_played worker (Some sets) = sizes_of-applied worker.director.plan sets

-- what rules may judge once a candidate is played they may judge before it
pub judges_before : (rules : List RuleDef) (caps : List ℕ) (worker : WorkerView) (candidate : Option (List Set))
    → MayJudge rules caps (played worker candidate).director.weights (sizes_of (played worker candidate).director.plan)
    → MayJudge rules caps worker.director.weights (sizes_of worker.director.plan)
judges_before rules caps worker None may = may
judges_before rules caps worker (Some sets) may =
    subst (MayJudge rules caps worker.director.weights) (sizes_of-applied worker.director.plan sets) may

-- one place more of a list has what all places before it have
pub gone_next : {X : Type 0} (P : X → Type 0) (ys : List X) (k : ℕ) (y : X) → k < length ys → P y → ((j : ℕ) (d : X) → j < k → P (get_or ys j d))
    → (j : ℕ) (d : X) → j < k + 1 → P (get_or (set ys k y) j d)
gone_next P ys k y lt has before j d h = elim (ℕ_discrete j k) [
  | yes e ↦ subst P (sym (ap (λ (n : ℕ). get_or (set ys k y) n d) e ∙ get_or-set_same ys k y d lt)) has
  | no ne ↦ subst P (sym (get_or-set_other ys k j y d (λ e. ne (omega arith)))) (before j d (omega arith))
]

-- and the later ones keep what they have
pub left_next : {X : Type 0} (P : X → Type 0) (ys : List X) (k : ℕ) (y : X) → ((j : ℕ) (d : X) → k ≤ j → j < length ys → P (get_or ys j d))
    → (j : ℕ) (d : X) → k + 1 ≤ j → j < length (set ys k y) → P (get_or (set ys k y) j d)
left_next P ys k y after j d h lt =
    subst P (sym (get_or-set_other ys k j y d (λ e. omega arith))) (after j d (omega arith) (omega (arith, length-set ys k y)))
