-- A worker as contracts see it, and what its calls find and leave.
use Rattle.std.specs.Prelude.{◌≡◌, ℕ, IsTrue, List, Option, option_map}
use Rattle.std.specs.Option.{option_map_or}
use Rattle.plan_facts.specs.Plan.{PlanView}
use Rattle.plan_changes.specs.Ready.{ReadyView}
use Rattle.plan_moves.specs.declared.edit.Set.{Set}
use Rattle.plan_moves.specs.Edits.{applied, inverse_of, is_legal, touched_by}
use Rattle.plan_rules.specs.Meaning.{Meaning}
use Rattle.plan_settings.specs.declared.setting.Selector.{Selector}
use Rattle.move_selectors.specs.Candidates.{Made}
use Rattle.score_director.specs.Changed.{changed}
use Rattle.score_director.specs.View.{DirectorView, attempted, kept, score_seen}
use Rattle.plan_search.specs.declared.found.Found.{Found}
use Rattle.plan_search.specs.Posed.{candidate_by}

-- the director of its plan, and the seed of its draws
pub record WorkerView : Type 0 where
  pub director : DirectorView
  pub seed : ℕ

-- the edit of a step's candidate under a number, where it may be made in the worker's plan
abbrev pub candidate_in : ℕ → List Selector → List Made → ℕ → ℕ → WorkerView → Option (List Set)
candidate_in seed selectors makers step number worker =
    candidate_by seed selectors makers step number worker.director.plan

-- what is found of an edit: what the plan is worth after it, and the entities that it touches
abbrev pub found_after : Meaning → DirectorView → List Set → Found
found_after m seen sets = record { score = score_seen m (attempted seen sets); touched = touched_by sets }

-- what is found of a candidate, where it may be made
abbrev pub found_by : Meaning → DirectorView → Option (List Set) → Option Found
found_by m seen candidate = option_map (found_after m seen) candidate

-- the worker after a candidate was played, where it may be made
abbrev pub played : WorkerView → Option (List Set) → WorkerView
played worker candidate =
    record worker {
      director = option_map_or (λ sets. kept (attempted worker.director sets)) candidate worker.director;
    }

-- a worker has played a candidate, where it may be made, and answered the edit that takes it back
pub record HasPlayed (before after : WorkerView) (candidate answer : Option (List Set)) : Type 0 where
  pub now : after ≡ played before candidate
  pub back : answer ≡ option_map (inverse_of before.director.plan) candidate

-- an edit is legal in a plan, and leads from it to another
pub record LeadsTo (wanted plan : PlanView) (sets : List Set) : Type 0 where
  pub legal : IsTrue (is_legal plan sets)
  pub leads : applied plan sets ≡ wanted

-- what a worker finds of a step's candidate under a number
abbrev pub found_in : Meaning → ℕ → List Selector → List Made → ℕ → WorkerView → ℕ → Option Found
found_in m seed selectors makers step worker number =
    found_by m worker.director (candidate_in seed selectors makers step number worker)

-- a worker on a director's plan, whose draws have this seed
abbrev pub worker_of : DirectorView → ℕ → WorkerView
worker_of director seed = record { director = director; seed = seed }

-- the worker with another director
abbrev pub with_director : WorkerView → DirectorView → WorkerView
with_director worker director = record worker { director = director }

-- the worker once a change was made
abbrev pub worker_after : WorkerView → ReadyView → List (List ℕ) → WorkerView
worker_after worker ready names = record worker { director = changed worker.director ready names }
