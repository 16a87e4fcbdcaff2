-- A team as contracts see it.
use Rattle.std.specs.Prelude.{◌≡◌, ◌≤◌, ℕ, IsTrue, List, Bool, false, All, length}
use Rattle.plan_moves.specs.declared.edit.Set.{Set}
use Rattle.plan_moves.specs.Edits.{is_legal}
use Rattle.plan_rules.specs.declared.rule.RuleDef.{RuleDef}
use Rattle.plan_rules.specs.Range.{MayJudge, sizes_of}
use Rattle.move_workers.specs.Judging.{WorkerView}

-- what each of its workers is like, how many they are, and whether memory was wanting while they played
pub record TeamView : Type 0 where
  pub worker : WorkerView
  pub workers : ℕ
  pub is_torn : Bool

-- each of them is this one
abbrev pub AreAll : {X : Type 0} → X → List X → Type 0
AreAll one xs = All (λ x. x ≡ one) xs

-- at most 15 others, all like the lead unless memory was wanting while they played
pub record IsTeam (lead : WorkerView) (others : List WorkerView) (is_torn : Bool) : Type 0 where
  pub few : length others ≤ 15
  pub alike : is_torn ≡ false → AreAll lead others

-- a worker may make an edit: it is legal in its plan, and the rules may judge that under their weights
pub record MayMake (rules : List RuleDef) (caps : List ℕ) (sets : List Set) (worker : WorkerView) : Type 0 where
  pub judges : MayJudge rules caps worker.director.weights (sizes_of worker.director.plan)
  pub own : rules ≡ worker.director.rules
  pub legal : IsTrue (is_legal worker.director.plan sets)

-- a team of so many workers that are all like this one
abbrev pub team_of : WorkerView → ℕ → TeamView
team_of worker workers = record { worker = worker; workers = workers; is_torn = false }
