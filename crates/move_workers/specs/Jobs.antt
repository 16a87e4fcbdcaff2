-- What a worker does of a batch.
use Rattle.std.specs.Prelude.{◌≡◌, ◌+◌, ◌<◌, ℕ, List, [], ◌∷◌, true, false, Option, None, All, length, map, slice_index_or, slice_set}
use Rattle.claim_board.specs.Boards.{BoardView, PassView, all_draws, fresh_pass, times}
use Rattle.plan_rules.specs.declared.rule.RuleDef.{RuleDef}
use Rattle.plan_rules.specs.Range.{MayJudge, sizes_of}
use Rattle.plan_search.specs.declared.found.Found.{Found}
use Rattle.move_workers.specs.declared.job.Job.{Job}
use Rattle.move_workers.specs.declared.job.Share.{Share}
use Rattle.move_workers.specs.declared.job.Verdict.{Verdict}
use Rattle.move_workers.specs.Judging.{WorkerView}

-- a share with a pass of a board, and nothing found
pub record IsIdle (board : BoardView) (share : Share) : Type 0 where
  pub pass_is : share.pass ≡ fresh_pass board
  pub nothing : share.verdicts.items ≡ []
  pub whole : share.is_short ≡ false

-- a worker that may judge by rules under their weights, draws by a seed, and has found nothing in its share
pub record IsReady (board : BoardView) (rules : List RuleDef) (caps : List ℕ) (seed : ℕ) (worker : WorkerView)
    (share : Share) : Type 0 where
  pub judges : MayJudge rules caps worker.director.weights (sizes_of worker.director.plan)
  pub own : rules ≡ worker.director.rules
  pub seed_is : seed ≡ worker.seed
  pub idle : IsIdle board share

-- the verdict on a place of the batch, by what is found at each
abbrev pub verdict_by : (ℕ → Option Found) → ℕ → Verdict
verdict_by found place = record { place = place; found = found place }

-- what is found at each place of a batch that begins with this number
abbrev pub found_from : (ℕ → Option Found) → ℕ → ℕ → Option Found
found_from found first place = found (first + place)

-- each place is below a limit
abbrev pub AreBelow : ℕ → List Verdict → Type 0
AreBelow limit verdicts = All (λ verdict. verdict.place < limit) verdicts

-- a share of this board was worked on; unless memory was wanting, there was nothing left to draw, and each draw has
-- its verdict
pub record IsWorked (board : BoardView) (found : ℕ → Option Found) (share : Share) : Type 0 where
  pub board_is : share.pass.board ≡ board
  pub below : AreBelow board.limit share.verdicts.items
  pub ended : share.is_short ≡ false → share.pass.is_done ≡ true
  pub verdicts : share.is_short ≡ false → share.verdicts.items ≡ map (verdict_by found) share.pass.draws

-- a job whose worker stayed as it was, and worked on its share
pub record IsDone (board : BoardView) (worker : WorkerView) (found : ℕ → Option Found) (job : Job WorkerView)
    : Type 0 where
  pub worker_is : job.worker ≡ worker
  pub worked : IsWorked board found job.share

-- the slots after these verdicts, each in its place
abbrev pub placed : List (Option Found) → List Verdict → List (Option Found)
placed slots [] = slots
placed slots (verdict ∷ verdicts) = placed (slice_set slots verdict.place verdict.found) verdicts

-- at each slot whose place was drawn stands what is found there
abbrev pub HaveFound : (ℕ → Option Found) → List ℕ → List (Option Found) → Type 0
HaveFound found draws slots =
    (place : ℕ) → place < length slots → 0 < times place draws → slice_index_or slots place None ≡ found place

-- these passes are of one board, from which nothing is left to draw, and what was found at their draws stands in the slots
pub record IsGathered (board : BoardView) (found : ℕ → Option Found) (passes : List PassView)
    (slots : List (Option Found)) : Type 0 where
  pub boards : All (λ pass. pass.board ≡ board) passes
  pub done : All (λ pass. pass.is_done ≡ true) passes
  pub placed_all : HaveFound found (all_draws passes) slots
