-- Which text is due for a run with a feed, and under which status; and for one whose journal names the boundaries.
use Rattle.std.specs.Prelude.{◌≡◌, ◌++◌, ℕ, List, Some, Ok, Err, codes, decimal, length, slice_get}
use Rattle.plan_ports.specs.Outside.{FailsAt, Holds}
use Rattle.move_selectors.specs.Candidates.{Made}
use Rattle.plan_changes.specs.declared.line.Post.{Post}
use Rattle.problem_faults.specs.declared.fault.ProblemFault.{ProblemFault}
use Rattle.problem_faults.specs.Words.{refusal_line}
use Rattle.plan_json.specs.Domains.{DomainView}
use Rattle.plan_json.specs.Problem.{ProblemView, problem_of}
use Rattle.plan_session.specs.declared.task.Files.{Files}
use Rattle.plan_session.specs.declared.task.Timing.TheVariants as timing
use Rattle.plan_session.specs.Posed.{posed_in}
use Rattle.plan_session.specs.Replayed.{grounds_of, replay_text}
use Rattle.plan_session.specs.Run.{Run}
use Rattle.plan_session.specs.Sources.{HoldsFeed, HoldsJournal, HoldsOverlong}

-- the line that says that the problem or the journal couldn't be read
abbrev pub source_line : List ℕ
source_line = codes "refused source\n"

-- the line that says that the feed couldn't be read, or is too long
abbrev pub feed_line : List ℕ
feed_line = codes "refused feed\n"

-- the line that says for which of its lines the journal is refused
abbrev pub journal_line : ℕ → List ℕ
journal_line line = codes "refused journal " ++ decimal line ++ codes "\n"

-- a run with these files is asked for, and the first of them holds this problem, of this domain with these makers
pub record Reads (run : Run) (files : Files) (domain : DomainView) (made : List Made)
    (problem : ProblemView) : Type 0 where
  pub bytes : List ℕ
  pub asked : run.feeds ≡ Some files
  pub held : Holds run.shelf files.name bytes
  pub accepted : problem_of run.domains bytes ≡ Ok problem
  pub stands : slice_get run.domains problem.domain ≡ Some domain
  pub makes : slice_get run.makers problem.domain ≡ Some made

-- 0: problem, feed and journal were read, and the text is that of the run whose boundaries take the lines as the journal names
pub record DueReplayed (run : Run) (text : List ℕ) : Type 0 where
  pub files : Files
  pub domain : DomainView
  pub made : List Made
  pub problem : ProblemView
  pub posts : List Post
  pub bounds : List ℕ
  pub journal : List ℕ
  pub again : files.timing ≡ timing.Journal journal
  pub reads : Reads run files domain made problem
  pub fed : HoldsFeed run.shelf files.feed posts
  pub named : HoldsJournal run.shelf journal (length posts) problem.settings.steps (Ok bounds)
  pub says : text ≡ replay_text (grounds_of domain) posts bounds (posed_in run.meaning made domain problem)

-- 3: the shelf failed at the problem's name, which isn't sound
pub record DueNoProblem (run : Run) (text : List ℕ) : Type 0 where
  pub files : Files
  pub asked : run.feeds ≡ Some files
  pub fails : FailsAt files.name run.shelf run.shelf_after
  pub says : text ≡ source_line

-- 3: problem and feed were read, and the shelf failed at the journal's name, which isn't sound
pub record DueNoJournal (run : Run) (text : List ℕ) : Type 0 where
  pub files : Files
  pub domain : DomainView
  pub made : List Made
  pub problem : ProblemView
  pub posts : List Post
  pub journal : List ℕ
  pub again : files.timing ≡ timing.Journal journal
  pub reads : Reads run files domain made problem
  pub fed : HoldsFeed run.shelf files.feed posts
  pub fails : FailsAt journal run.shelf run.shelf_after
  pub says : text ≡ source_line

-- 4: the problem was read, and is refused
pub record DueReplayProblem (run : Run) (line : List ℕ) : Type 0 where
  pub files : Files
  pub bytes : List ℕ
  pub fault : ProblemFault
  pub asked : run.feeds ≡ Some files
  pub held : Holds run.shelf files.name bytes
  pub refused : problem_of run.domains bytes ≡ Err fault
  pub says : line ≡ refusal_line fault

-- 5: the problem was read, and the shelf failed at the feed's name, which isn't sound
pub record DueNoFeed (run : Run) (text : List ℕ) : Type 0 where
  pub files : Files
  pub domain : DomainView
  pub made : List Made
  pub problem : ProblemView
  pub reads : Reads run files domain made problem
  pub fails : FailsAt files.feed run.shelf run.shelf_after
  pub says : text ≡ feed_line

-- 7: problem and feed were read, and the journal is refused for this line
pub record DueJournal (run : Run) (text : List ℕ) : Type 0 where
  pub files : Files
  pub domain : DomainView
  pub made : List Made
  pub problem : ProblemView
  pub posts : List Post
  pub line : ℕ
  pub journal : List ℕ
  pub again : files.timing ≡ timing.Journal journal
  pub reads : Reads run files domain made problem
  pub fed : HoldsFeed run.shelf files.feed posts
  pub refused : HoldsJournal run.shelf journal (length posts) problem.settings.steps (Err line)
  pub says : text ≡ journal_line line

-- 8: the problem was read, and the feed has too many lines or bytes
pub record DueOverlong (run : Run) (text : List ℕ) : Type 0 where
  pub files : Files
  pub domain : DomainView
  pub made : List Made
  pub problem : ProblemView
  pub reads : Reads run files domain made problem
  pub overlong : HoldsOverlong run.shelf files.feed
  pub says : text ≡ feed_line
