-- Which text is due, and under which status.
use Rattle.std.specs.Prelude.{◌≡◌, ◌++◌, ◌⊎◌, ℕ, List, Some, None, Ok, Err, codes, slice_get}
use Rattle.plan_ports.specs.Outside.{FailsAt, Holds}
use Rattle.plan_rules.specs.Meaning.{Meaning}
use Rattle.move_selectors.specs.Candidates.{Made}
use Rattle.problem_faults.specs.declared.fault.ProblemFault.{ProblemFault}
use Rattle.problem_faults.specs.Words.{refusal_line}
use Rattle.plan_json.specs.Domains.{DomainView}
use Rattle.plan_json.specs.Problem.{ProblemView, problem_of}
use Rattle.plan_search.specs.Posed.{Posed}
use Rattle.plan_session.specs.Posed.{posed_in}
use Rattle.plan_session.specs.declared.status.Status.{Status}
use Rattle.plan_session.specs.declared.status.Status.TheVariants as status
use Rattle.plan_gen.specs.Text.{problem_text}
use Rattle.plan_words.specs.declared.command.Command.{Command}
use Rattle.plan_words.specs.declared.command.Command.TheVariants.{Gen, Tour}
use Rattle.plan_session.specs.DueLive.{DueBegun, DueEndless, DueLive, DueLostFeed}
use Rattle.plan_session.specs.DueReplay.{DueJournal, DueNoFeed, DueNoJournal, DueNoProblem, DueOverlong, DueReplayProblem, DueReplayed, source_line}
use Rattle.plan_session.specs.Ending.{Says}
use Rattle.plan_session.specs.Run.{Run}
use Rattle.plan_session.specs.Toured.{tour_text}
use Rattle.plan_session.specs.Task.{Task, text_wanted}

-- the line that says that the words are no command
abbrev pub usage_line : List ℕ
usage_line = codes "refused usage\n"

-- a generated problem, as one line
abbrev pub generated_text : ℕ → ℕ → List ℕ
generated_text number size = problem_text number size ++ codes "\n"

-- a text of each posed problem
abbrev pub TextOf : Type 0
TextOf = Posed → List ℕ

-- what is due for a problem of a domain with these makers: the text that is wanted of it
abbrev pub DueForProblem : Meaning → List Made → TextOf → DomainView → ProblemView → Status → List ℕ → Type 0
DueForProblem meaning makers wants domain problem status.Ok text = text ≡ wants (posed_in meaning makers domain problem)
DueForProblem meaning makers wants domain problem _ text = ⊥

-- the bytes are a problem, and the text is the one that is wanted of it
pub record Answers (domains : List DomainView) (makers : List (List Made)) (meaning : Meaning) (wants : TextOf)
    (bytes text : List ℕ) : Type 0 where
  pub problem : ProblemView
  pub domain : DomainView
  pub made : List Made
  pub accepted : problem_of domains bytes ≡ Ok problem
  pub stands : slice_get domains problem.domain ≡ Some domain
  pub makes : slice_get makers problem.domain ≡ Some made
  pub says : text ≡ wants (posed_in meaning made domain problem)

-- the bytes are refused, and the line says what for
pub record Refuses (domains : List DomainView) (bytes line : List ℕ) : Type 0 where
  pub fault : ProblemFault
  pub refused : problem_of domains bytes ≡ Err fault
  pub says : line ≡ refusal_line fault

-- what is due for the bytes of a problem
abbrev pub DueForBytes : List DomainView → List (List Made) → Meaning → TextOf → List ℕ → Status → List ℕ → Type 0
DueForBytes domains makers meaning wants bytes status.Ok text = Answers domains makers meaning wants bytes text
DueForBytes domains makers meaning wants bytes status.Problem text = Refuses domains bytes text
DueForBytes domains makers meaning wants bytes _ text = ⊥

-- what is due for the tour of a number and a size: the sum of a run of the generated problem, or what that is refused for
abbrev pub DueForTour : List DomainView → List (List Made) → Meaning → ℕ → ℕ → Status → List ℕ → Type 0
DueForTour domains makers meaning number size =
    DueForBytes domains makers meaning (tour_text number size) (problem_text number size)

-- 0: the problem was read, and the text is what is wanted of it
pub record DueOk (run : Run) (text : List ℕ) : Type 0 where
  pub task : Task
  pub bytes : List ℕ
  pub asked : run.asked ≡ Some task
  pub held : Holds run.shelf task.name bytes
  pub answers : Answers run.domains run.makers run.meaning (text_wanted task.wanted) bytes text

-- 0: a problem was generated
pub record DueGenerated (run : Run) (text : List ℕ) : Type 0 where
  pub number : ℕ
  pub size : ℕ
  pub generates : run.generates ≡ Some (number, size)
  pub says : text ≡ generated_text number size

-- a tour was asked for, and this is due for it
pub record DueTour (run : Run) (status : Status) (text : List ℕ) : Type 0 where
  pub number : ℕ
  pub size : ℕ
  pub tours : run.tours ≡ Some (number, size)
  pub due : DueForTour run.domains run.makers run.meaning number size status text

-- 2: the words are no command
pub record DueUsage (run : Run) (text : List ℕ) : Type 0 where
  pub unasked : run.asked ≡ None
  pub ungenerated : run.generates ≡ None
  pub untoured : run.tours ≡ None
  pub unfed : run.feeds ≡ None
  pub says : text ≡ usage_line

-- 3: the shelf failed at the problem's name, which isn't sound
pub record DueSource (run : Run) (text : List ℕ) : Type 0 where
  pub task : Task
  pub asked : run.asked ≡ Some task
  pub fails : FailsAt task.name run.shelf run.shelf_after
  pub says : text ≡ source_line

-- 4: the problem was read, and is refused
pub record DueProblem (run : Run) (line : List ℕ) : Type 0 where
  pub task : Task
  pub bytes : List ℕ
  pub asked : run.asked ≡ Some task
  pub held : Holds run.shelf task.name bytes
  pub refuses : Refuses run.domains bytes line

-- the text that is due in a run under a status
abbrev pub IsDue : Run → Status → List ℕ → Type 0
IsDue run status.Ok text =
    DueOk run text ⊎ DueGenerated run text ⊎ DueTour run status.Ok text ⊎ DueReplayed run text ⊎ DueLive run text
IsDue run status.Memory text = DueBegun run text
IsDue run status.Usage text = DueUsage run text
IsDue run status.Source text = DueSource run text ⊎ DueNoProblem run text ⊎ DueNoJournal run text
IsDue run status.Problem text = DueProblem run text ⊎ DueTour run status.Problem text ⊎ DueReplayProblem run text
IsDue run status.Feed text = DueNoFeed run text ⊎ DueLostFeed run text
IsDue run status.Journal text = DueJournal run text
IsDue run status.FeedTooLong text = DueOverlong run text ⊎ DueEndless run text
IsDue run _ text = ⊥

-- what is due for a command that reads no problem: what it generates, or a tour
abbrev pub DueUnread : List DomainView → List (List Made) → Meaning → Command → Status → List ℕ → Type 0
DueUnread domains makers meaning (Gen number size) = Says status.Ok (generated_text number size)
DueUnread domains makers meaning (Tour number size workers buffer) = DueForTour domains makers meaning number size
DueUnread domains makers meaning _ = λ status text. ⊥
