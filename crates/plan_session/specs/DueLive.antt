-- Which text is due of a live run, and under which status.
use Rattle.std.specs.Prelude.{◌≡◌, ◌≤◌, ℕ, true, List, Some, Ok, All, length}
use Rattle.std.specs.List.Sorted.{IsNonDecreasing}
use mathlib.Core.List.{IsPrefix}
use Rattle.move_selectors.specs.Candidates.{Made}
use Rattle.plan_changes.specs.declared.line.Post.{Post}
use Rattle.plan_json.specs.Domains.{DomainView}
use Rattle.plan_json.specs.Problem.{ProblemView}
use Rattle.plan_ports.specs.Outside.{FailsAt, ShelfState}
use Rattle.run_journal.specs.Bounds.{bounds_of}
use Rattle.plan_session.specs.declared.searching.Hands.{Hands}
use Rattle.plan_session.specs.declared.task.Files.{Files}
use Rattle.plan_session.specs.declared.task.Timing.TheVariants as timing
use Rattle.plan_session.specs.DueReplay.{Reads}
use Rattle.plan_session.specs.Posed.{posed_in}
use Rattle.plan_session.specs.Replayed.{grounds_of, replay_text}
use Rattle.plan_session.specs.Run.{Run}
use Rattle.plan_session.specs.Sources.{HoldsFeed, HoldsOverlong, posts_of}

-- 0: problem and feed were read, and the text is that of the run whose boundaries take the lines as the text itself names them
pub record DueLive (run : Run) (text : List ℕ) : Type 0 where
  pub files : Files
  pub hands : Hands
  pub domain : DomainView
  pub made : List Made
  pub problem : ProblemView
  pub posts : List Post
  pub bounds : List ℕ
  pub live : files.timing ≡ timing.Live hands
  pub reads : Reads run files domain made problem
  pub fed : HoldsFeed run.shelf files.feed posts
  pub named : bounds_of text (length posts) problem.settings.steps ≡ Ok bounds
  pub says : text ≡ replay_text (grounds_of domain) posts bounds (posed_in run.meaning made domain problem)

-- the feed under the name begins with these lines, by its bytes where the shelf tells them
abbrev pub BeginsFeed : ShelfState → List ℕ → List Post → Type 0
BeginsFeed shelf name posts =
    shelf.tells ≡ true → (bytes : List ℕ) × (shelf.bytes_of name ≡ Some bytes) × IsPrefix posts (posts_of bytes)

-- the problem was read, and the text is that of a run whose boundaries take the first lines of the feed
pub record IsBegun (run : Run) (files : Files) (text : List ℕ) : Type 0 where
  pub hands : Hands
  pub domain : DomainView
  pub made : List Made
  pub problem : ProblemView
  pub posts : List Post
  pub bounds : List ℕ
  pub live : files.timing ≡ timing.Live hands
  pub reads : Reads run files domain made problem
  pub begins : BeginsFeed run.shelf files.feed posts
  pub each : length bounds ≡ length posts
  pub rising : IsNonDecreasing bounds
  pub within : All (λ bound. bound ≤ problem.settings.steps) bounds
  pub says : text ≡ replay_text (grounds_of domain) posts bounds (posed_in run.meaning made domain problem)

-- 1 and 6: of such a text a front was written where memory was wanting, or the sink failed
abbrev pub DueBegun : Run → List ℕ → Type 0
DueBegun run text = (files : Files) × IsBegun run files text

-- 5: such a text was cut short, since the shelf failed at the feed's name, which isn't sound
pub record DueLostFeed (run : Run) (text : List ℕ) : Type 0 where
  pub files : Files
  pub whole : List ℕ
  pub begun : IsBegun run files whole
  pub front : IsPrefix text whole
  pub fails : FailsAt files.feed run.shelf run.shelf_after

-- 8: such a text was cut short, since the feed has too many lines or bytes
pub record DueEndless (run : Run) (text : List ℕ) : Type 0 where
  pub files : Files
  pub whole : List ℕ
  pub begun : IsBegun run files whole
  pub front : IsPrefix text whole
  pub overlong : HoldsOverlong run.shelf files.feed
