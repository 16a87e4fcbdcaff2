-- How far a run with a feed came.
use Rattle.std.specs.Prelude.{◌≡◌, List, Some}
use Rattle.plan_ports.specs.Outside.{LaterShelf, ShelfState}
use Rattle.plan_rules.specs.Meaning.{Meaning}
use Rattle.move_selectors.specs.Candidates.{Made}
use Rattle.plan_json.specs.Domains.{DomainView}
use Rattle.plan_json.specs.Problem.{ProblemView}
use Rattle.plan_session.specs.declared.task.Files.{Files}
use Rattle.plan_session.specs.DueReplay.{Reads}
use Rattle.plan_session.specs.Run.{Run}

-- a run with these files was asked for, over these domains with their makers and what closures mean
pub record AsksFeed (domains : List DomainView) (makers : List (List Made)) (meaning : Meaning)
    (files : Files) (run : Run) : Type 0 where
  pub asked : run.feeds ≡ Some files
  pub domains_are : run.domains ≡ domains
  pub makers_are : run.makers ≡ makers
  pub means : run.meaning ≡ meaning

-- a run with these files that read this problem
pub record HasProblem (meaning : Meaning) (made : List Made) (domain : DomainView) (problem : ProblemView)
    (files : Files) (run : Run) : Type 0 where
  pub means : run.meaning ≡ meaning
  pub reads : Reads run files domain made problem

-- the shelf of a run came to the first of these, and is left as the second
pub record Spans (run : Run) (now after : ShelfState) : Type 0 where
  pub later : LaterShelf run.shelf now
  pub left : run.shelf_after ≡ after
