-- What is due of a run with a feed, once what was read is known: what is refused, and what is done again.
use Rattle.std.proofs.Common.{◌≡◌, ◌∙◌, ℕ, List, Some, Ok, Err, length, slice_get, inl, inr, refl, sym, ap}
use Rattle.plan_ports.specs.Outside.{FailsAt, Holds, ShelfState}
use Rattle.plan_rules.specs.Meaning.{Meaning}
use Rattle.move_selectors.specs.Candidates.{Made}
use Rattle.plan_changes.specs.declared.line.Post.{Post}
use Rattle.problem_faults.specs.declared.fault.ProblemFault.{ProblemFault}
use Rattle.problem_faults.specs.Words.{refusal_line}
use Rattle.plan_json.specs.Domains.{DomainView}
use Rattle.plan_json.specs.Problem.{ProblemView, problem_of}
use Rattle.plan_session.specs.declared.status.Status.TheVariants as status
use Rattle.plan_session.specs.declared.task.Files.{Files}
use Rattle.plan_session.specs.declared.task.Timing.TheVariants as timing
use Rattle.plan_session.specs.Due.{IsDue}
use Rattle.plan_session.specs.DueReplay.{feed_line, journal_line, source_line}
use Rattle.plan_session.specs.Posed.{posed_in}
use Rattle.plan_session.specs.Replayed.{grounds_of, replay_text}
use Rattle.plan_session.specs.Replaying.{AsksFeed, HasProblem, Spans}
use Rattle.plan_session.specs.Run.{Run}
use Rattle.plan_session.specs.Sources.{HoldsFeed, HoldsJournal, HoldsOverlong}
use Rattle.plan_session.proofs.ShelfLaws.{failed_before, overlong_before}

module _ (run : Run) (files : Files) (meaning : Meaning) (made : List Made) (domain : DomainView) (problem : ProblemView)
    (ready : HasProblem meaning made domain problem files run) where
  -- the run that the journal tells
  pub due_replayed : (journal : List ℕ) (posts : List Post) (bounds : List ℕ) → files.timing ≡ timing.Journal journal
      → HoldsFeed run.shelf files.feed posts → HoldsJournal run.shelf journal (length posts) problem.settings.steps (Ok bounds)
      → IsDue run status.Ok (replay_text (grounds_of domain) posts bounds (posed_in meaning made domain problem))
  due_replayed journal posts bounds again fed named = inr (inr (inr (inl (record {
    files = files;
    domain = domain;
    made = made;
    problem = problem;
    posts = posts;
    bounds = bounds;
    journal = journal;
    again = again;
    reads = ready.reads;
    fed = fed;
    named = named;
    says = ap (λ means. replay_text (grounds_of domain) posts bounds (posed_in means made domain problem)) (sym ready.means);
  }))))

  -- the line that refuses the journal
  pub due_journal : (journal : List ℕ) (posts : List Post) (line : ℕ) → files.timing ≡ timing.Journal journal
      → HoldsFeed run.shelf files.feed posts → HoldsJournal run.shelf journal (length posts) problem.settings.steps (Err line)
      → IsDue run status.Journal (journal_line line)
  due_journal journal posts line again fed refused = record {
    files = files;
    domain = domain;
    made = made;
    problem = problem;
    posts = posts;
    line = line;
    journal = journal;
    again = again;
    reads = ready.reads;
    fed = fed;
    refused = refused;
    says = refl;
  }

  -- the journal couldn't be read
  pub due_no_journal : (journal : List ℕ) (posts : List Post) (now after : ShelfState) → files.timing ≡ timing.Journal journal
      → HoldsFeed run.shelf files.feed posts → Spans run now after → FailsAt journal now after → IsDue run status.Source source_line
  due_no_journal journal posts now after again fed spans fails = inr (inr (record {
    files = files;
    domain = domain;
    made = made;
    problem = problem;
    posts = posts;
    journal = journal;
    again = again;
    reads = ready.reads;
    fed = fed;
    fails = rw spans.left (failed_before run.shelf now after journal spans.later fails);
    says = refl;
  }))

  -- the feed couldn't be read
  pub due_no_feed : (now after : ShelfState) → Spans run now after → FailsAt files.feed now after → IsDue run status.Feed feed_line
  due_no_feed now after spans fails = inl (record {
    files = files;
    domain = domain;
    made = made;
    problem = problem;
    reads = ready.reads;
    fails = rw spans.left (failed_before run.shelf now after files.feed spans.later fails);
    says = refl;
  })

  -- the feed has too many lines or bytes
  pub due_overlong : (now after : ShelfState) → Spans run now after → HoldsOverlong now files.feed → IsDue run status.FeedTooLong feed_line
  due_overlong now after spans overlong = inl (record {
    files = files;
    domain = domain;
    made = made;
    problem = problem;
    reads = ready.reads;
    overlong = overlong_before run.shelf now files.feed spans.later overlong;
    says = refl;
  })

module _ (run : Run) (files : Files) (domains : List DomainView) (makers : List (List Made)) (meaning : Meaning)
    (asks : AsksFeed domains makers meaning files run) where
  -- the problem that was accepted
  pub has_problem : (bytes : List ℕ) (problem : ProblemView) (domain : DomainView) (made : List Made) → Holds run.shelf files.name bytes
      → problem_of domains bytes ≡ Ok problem → slice_get domains problem.domain ≡ Some domain → slice_get makers problem.domain ≡ Some made
      → HasProblem meaning made domain problem files run
  has_problem bytes problem domain made held accepted stands makes = record {
    means = asks.means;
    reads = record {
      bytes = bytes;
      asked = asks.asked;
      held = held;
      accepted = ap (λ ds. problem_of ds bytes) asks.domains_are ∙ accepted;
      stands = ap (λ ds. slice_get ds problem.domain) asks.domains_are ∙ stands;
      makes = ap (λ ms. slice_get ms problem.domain) asks.makers_are ∙ makes;
    };
  }

  -- the line that refuses the problem
  pub due_refused : (bytes : List ℕ) (fault : ProblemFault) → Holds run.shelf files.name bytes → problem_of domains bytes ≡ Err fault
      → IsDue run status.Problem (refusal_line fault)
  due_refused bytes fault held refused = inr (inr (record {
    files = files;
    bytes = bytes;
    fault = fault;
    asked = asks.asked;
    held = held;
    refused = ap (λ ds. problem_of ds bytes) asks.domains_are ∙ refused;
    says = refl;
  }))
