-- What contracts see of a run.
use Rattle.std.specs.Prelude.{ℕ, List, Option}
use Rattle.plan_ports.specs.Outside.{ShelfState}
use Rattle.plan_rules.specs.Meaning.{Meaning}
use Rattle.move_selectors.specs.Candidates.{Made}
use Rattle.plan_json.specs.Domains.{DomainView}
use Rattle.plan_session.specs.declared.task.Files.{Files}
use Rattle.plan_session.specs.Task.{Task}

-- a run: what its words ask for of a problem, the number and the size of the problem that they ask to generate, and of the one
-- of whose run they ask for the sum, the files of the run with a feed that they ask for, the domains that problems may be of, the
-- makers of moves of each, what the closures of their rules mean, and its shelf before and after it
pub record Run : Type 0 where
  pub asked : Option Task
  pub generates : Option (ℕ × ℕ)
  pub tours : Option (ℕ × ℕ)
  pub feeds : Option Files
  pub domains : List DomainView
  pub makers : List (List Made)
  pub meaning : Meaning
  pub shelf : ShelfState
  pub shelf_after : ShelfState
