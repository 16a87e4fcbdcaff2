-- What the program's words ask for.
use Rattle.std.specs.Prelude.{ℕ, List, Option, Some, None, option_and_then}
use Rattle.plan_words.specs.Command.{AreHands, command}
use Rattle.plan_words.specs.declared.command.Command.{Command}
use Rattle.plan_words.specs.declared.command.Command.TheVariants.{Solve, Replay, Score, Explain, Gen, Tour}
use Rattle.plan_search.specs.Posed.{Posed}
use Rattle.plan_search.specs.RunLines.{score_text, solve_text}
use Rattle.plan_session.specs.Explained.{explain_text}
use Rattle.plan_session.specs.Toured.{tour_text}
use Rattle.plan_session.specs.declared.task.Files.{Files}
use Rattle.plan_session.specs.declared.task.Timing.{Timing}
use Rattle.plan_session.specs.declared.task.Timing.TheVariants as timing
use Rattle.plan_session.specs.declared.task.Wanted.{Wanted}
use Rattle.plan_session.specs.declared.task.Wanted.TheVariants as want

-- what a command asks for: the name of a problem, and what is wanted of it
pub record Task : Type 0 where
  pub name : List ℕ
  pub wanted : Wanted

-- the task of a name
abbrev pub task : List ℕ → Wanted → Task
task name wanted = record { name = name; wanted = wanted }

-- what a command asks for of the one file that it reads: `solve` without a feed, `score` and `explain`
abbrev pub task_of : Command → Option Task
task_of (Solve name None workers buffer) =
    Some (task name (want.Solution (record { workers = workers; buffer = buffer })))
task_of (Solve name (Some feed) workers buffer) = None
task_of (Replay name feed journal) = None
task_of (Score name) = Some (task name want.Score)
task_of (Explain name) = Some (task name want.Explanation)
task_of (Gen number size) = None
task_of (Tour number size workers buffer) = None

-- the task that the words ask for; none where they are no command, or none of these
unfoldable pub task_asked : List (List ℕ) → Option Task
task_asked words = option_and_then task_of (command words)

-- the number and the size of the problem that a command generates
abbrev pub generated_by : Command → Option (ℕ × ℕ)
generated_by (Solve name feed workers buffer) = None
generated_by (Replay name feed journal) = None
generated_by (Score name) = None
generated_by (Explain name) = None
generated_by (Gen number size) = Some (number, size)
generated_by (Tour number size workers buffer) = None

-- the number and the size of the problem that the words ask to generate; none where they ask for something else
unfoldable pub generation_asked : List (List ℕ) → Option (ℕ × ℕ)
generation_asked words = option_and_then generated_by (command words)

-- the number and the size of the problem that a command generates to sum up a run of it
abbrev pub toured_by : Command → Option (ℕ × ℕ)
toured_by (Solve name feed workers buffer) = None
toured_by (Replay name feed journal) = None
toured_by (Score name) = None
toured_by (Explain name) = None
toured_by (Gen number size) = None
toured_by (Tour number size workers buffer) = Some (number, size)

-- the number and the size of the problem of whose run the words ask for the sum; none where they ask for something else
unfoldable pub tour_asked : List (List ℕ) → Option (ℕ × ℕ)
tour_asked words = option_and_then toured_by (command words)

-- the files of the run with a feed that a command asks for
abbrev pub fed_by : Command → Option Files
fed_by (Solve name None workers buffer) = None
fed_by (Solve name (Some feed) workers buffer) = Some (record {
  name = name;
  feed = feed;
  timing = timing.Live (record { workers = workers; buffer = buffer });
})
fed_by (Replay name feed journal) = Some (record { name = name; feed = feed; timing = timing.Journal journal })
fed_by (Score name) = None
fed_by (Explain name) = None
fed_by (Gen number size) = None
fed_by (Tour number size workers buffer) = None

-- the files of the run with a feed that the words ask for; none where they ask for something else
unfoldable pub files_asked : List (List ℕ) → Option Files
files_asked words = option_and_then fed_by (command words)

-- the numbers of workers, and of candidates at once, are in their range
abbrev pub IsTimely : Timing → Type 0
IsTimely (timing.Live hands) = AreHands hands.workers hands.buffer
IsTimely (timing.Journal name) = Unit {0}

-- the text that is wanted of a posed problem: the same for all workers
abbrev pub text_wanted : Wanted → Posed → List ℕ
text_wanted (want.Solution hands) = solve_text
text_wanted want.Score = score_text
text_wanted want.Explanation = explain_text
text_wanted (want.Tour number size hands) = tour_text number size

-- the numbers of workers, and of candidates at once, are in their range
abbrev pub IsFit : Wanted → Type 0
IsFit (want.Solution hands) = AreHands hands.workers hands.buffer
IsFit want.Score = Unit {0}
IsFit want.Explanation = Unit {0}
IsFit (want.Tour number size hands) = AreHands hands.workers hands.buffer
