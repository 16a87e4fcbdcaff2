-- The best of the edits that were judged so far.
use Rattle.std.specs.Prelude.{◌≡◌, ◌<◌, ◌++◌, ℕ, false, List, map, Option, option_map, IfSome, IsTrue, Some, None, All}
use Rattle.plan_scores.specs.declared.plan_score.PlanScore.{PlanScore}
use Rattle.plan_scores.specs.Best.{first_best}
use Rattle.plan_facts.specs.Plan.{AreIncreasing, PlanView, is_pinned}
use Rattle.plan_moves.specs.declared.edit.Set.{Set}
use Rattle.plan_moves.specs.declared.edit.Touch.{Touch}
use Rattle.plan_moves.specs.Edits.{AreInOrder, applied, held_by, is_legal}
use Rattle.plan_rules.specs.Meaning.{Meaning}
use Rattle.plan_search.specs.Placing.{choice_sets, combinations}
use Rattle.score_director.specs.View.{DirectorView}
use Rattle.construction.specs.declared.best.Best.{Best}
use Rattle.construction.specs.declared.best.Trials.{Trials}
use Rattle.construction.specs.Standing.{score_under}

-- an edit with the score after it
abbrev pub best_with : List Set → PlanScore → Best
best_with sets score = record { edit = sets; score = score }

-- the best of the edits that were judged, with the score after it
abbrev pub best_in : Trials → Option Best
best_in trials = option_map (best_with trials.best) trials.score

-- the best of some edits of a plan, with the score after it
pub record IsBestOf (score : PlanView → PlanScore) (plan : PlanView) (edits : List (List Set)) (best : Option Best)
    : Type 0 where
  pub edit : option_map (λ b. b.edit) best ≡ first_best (λ sets. score (applied plan sets)) edits
  pub judged : IfSome best (λ b. b.score ≡ score (applied plan b.edit))
  pub legal : IfSome best (λ b. IsTrue (is_legal plan b.edit))

-- what was the best of some edits has become the best of these ones too
abbrev pub FindsBest : (PlanView → PlanScore) → PlanView → Option Best → Option Best → List (List Set) → Type 0
FindsBest score plan old new more =
    (edits : List (List Set)) → IsBestOf score plan edits old → IsBestOf score plan (edits ++ more) new

-- what trials of a director's edits found to be the best has become the best of these ones too
abbrev pub Considers : Meaning → DirectorView → Trials → Trials → List (List Set) → Type 0
Considers m seen old new more = FindsBest (score_under m seen) seen.plan (best_in old) (best_in new) more

-- the edits that add to some sets one choice for each of an entity's variables
abbrev pub completions : PlanView → Touch → List ℕ → List Set → List (List Set)
completions plan entity vars sets =
    map (λ chosen. sets ++ chosen) (combinations (map (choice_sets plan entity) vars))

-- each set is of the entity, and of a variable before this one
abbrev pub AreOfBefore : Touch → ℕ → List Set → Type 0
AreOfBefore entity var sets = All (λ set. (set.class ≡ entity.class) × (set.id ≡ entity.id) × (set.var < var)) sets

-- some sets of an entity that isn't pinned may go on with one more of each of these variables, which are null
pub record MayGoOn (plan : PlanView) (entity : Touch) (vars : List ℕ) (sets : List Set) : Type 0 where
  pub movable : is_pinned plan entity.class entity.id ≡ false
  pub there : All (λ var. held_by plan entity.class entity.id var ≡ Some None) vars
  pub increasing : AreIncreasing vars
  pub order : AreInOrder sets
  pub legal : IsTrue (is_legal plan sets)
  pub before : All (λ var. AreOfBefore entity var sets) vars
