-- What is due, once the bytes and what they mean are known.
use Rattle.std.proofs.Common.{◌≡◌, ◌∙◌, ◌⊎◌, ◌+◌, ◌<◌, ℕ, Bool, true, false, List, Option, Some, None, Ok, IsSomeAnd, map, length, get_or, slice_get, replicate, inl, inr, refl, sym, ap, subst, arith}
use Rattle.std.specs.Option.{option_and_then, option_map}
use Rattle.std.proofs.lemmas.List.{length-replicate}
use Rattle.std.proofs.lemmas.Option.{slice_get-get_or, slice_get-map}
use Rattle.plan_ports.specs.Outside.{Holds, ShelfState, SinkState}
use Rattle.plan_search.specs.Posed.{Posed}
use Rattle.plan_session.specs.Posed.{posed_in}
use Rattle.plan_rules.specs.Meaning.{Meaning}
use Rattle.move_selectors.specs.Candidates.{Made}
use Rattle.problem_faults.specs.declared.fault.ProblemFault.{ProblemFault}
use Rattle.problem_faults.specs.declared.fault.ProblemFault.TheVariants.{Memory}
use Rattle.plan_json.specs.Domains.{DomainView}
use Rattle.plan_json.specs.Problem.{ProblemView, problem_of}
use Rattle.plan_words.specs.Command.{command}
use Rattle.plan_words.specs.declared.command.Command.{Command}
use Rattle.plan_words.specs.declared.command.Command.TheVariants.{Solve, Replay, Score, Explain, Gen, Tour}
use Rattle.plan_session.specs.declared.status.Status.{Status}
use Rattle.plan_session.specs.declared.status.Status.TheVariants as status
use Rattle.plan_session.specs.declared.task.Files.{Files}
use Rattle.plan_session.specs.declared.task.Wanted.{Wanted}
use Rattle.plan_session.specs.Due.{DueForBytes, DueForProblem, DueForTour, DueGenerated, DueUnread, IsDue, generated_text}
use Rattle.plan_session.specs.Ending.{Ended, Says}
use Rattle.plan_session.specs.Run.{Run}
use Rattle.plan_session.specs.Task.{Task, fed_by, files_asked, generated_by, generation_asked, task_asked, task_of, text_wanted, tour_asked, toured_by}
use Rattle.plan_session.proofs.EndingLaws.{ended_saying}

-- what is due for a problem is due for its bytes
pub due_for_bytes : (domains : List DomainView) (makers : List (List Made)) (meaning : Meaning) (wants : Posed → List ℕ) (bytes : List ℕ) (p : ProblemView)
    (d : DomainView) (made : List Made) → problem_of domains bytes ≡ Ok p → slice_get domains p.domain ≡ Some d → slice_get makers p.domain ≡ Some made
    → (s : Status) (text : List ℕ) → DueForProblem meaning made wants d p s text → DueForBytes domains makers meaning wants bytes s text
due_for_bytes domains makers meaning wants bytes p d made accepted stands makes status.Ok text due =
    record { problem = p; domain = d; made = made; accepted = accepted; stands = stands; makes = makes; says = due }
due_for_bytes domains makers meaning wants bytes p d made accepted stands makes _ text due = absurd due

-- what is due for the bytes that a shelf holds is due for the task
pub due_for_task : (run : Run) (task : Task) (bytes : List ℕ) → run.asked ≡ Some task → Holds run.shelf task.name bytes
    → (s : Status) (text : List ℕ) → DueForBytes run.domains run.makers run.meaning (text_wanted task.wanted) bytes s text → IsDue run s text
due_for_task run task bytes asked held status.Ok text due =
    inl (record { task = task; bytes = bytes; asked = asked; held = held; answers = due })
due_for_task run task bytes asked held status.Problem text due =
    inl (record { task = task; bytes = bytes; asked = asked; held = held; refuses = due })
due_for_task run task bytes asked held _ text due = absurd due

-- a shelf that doesn't tell its bytes may hold any
pub held_more : (shelf : ShelfState) (name : List ℕ) (n : ℕ) (tells : Bool) → shelf.tells ≡ tells
    → (tells ≡ true → (bytes : List ℕ) × (shelf.bytes_of name ≡ Some bytes) × (n < length bytes))
    → (bytes : List ℕ) × Holds shelf name bytes × (n < length bytes)
held_more shelf name n true told more = let h = more refl in (h.0, λ tells. h.1, h.2)
held_more shelf name n false told more =
    (replicate (n + 1) 0, λ tells. cc, omega (arith, length-replicate {A = ℕ} (n + 1) 0))

-- a fault that isn't want of memory is what was found
pub found_fault : (fault : ProblemFault) (Found : Type 0) → (fault ≡ Memory → ⊥) → (fault ≡ Memory) ⊎ Found → Found
found_fault fault Found other h = elim h [ inl m ↦ absurd (other m) | inr found ↦ found ]

-- what stands at a place that a list has
pub slice_at : {X : Type 0} (xs : List X) (k : ℕ) (x : X) → k < length xs → x ≡ get_or xs k x → slice_get xs k ≡ Some x
slice_at xs k x within is = slice_get-get_or xs k x within ∙ ap (λ y. Some y) (sym is)

-- what stands at a place of a list, as the list that is mapped has it
pub stands_mapped : {X Y : Type 0} (f : X → Y) (xs : List X) (k : ℕ) (x : X) → k < length xs → x ≡ get_or xs k x → slice_get (map f xs) k ≡ Some (f x)
stands_mapped f xs k x within is =
    slice_get-map f xs k ∙ ap (option_map f) (slice_at xs k x within is)

-- what is said of the value, where there is one
pub some_and_at : {X : Type 0} (P : X → Type 0) (o : Option X) (x : X) → o ≡ Some x → IsSomeAnd o P → P x
some_and_at P o x is h = subst (λ z. IsSomeAnd z P) is h

-- the task that a command asks for
pub asked : (words : List (List ℕ)) (c : Command) (task : Option Task) → command words ≡ Some c → task_of c ≡ task → task_asked words ≡ task
unfolding task_asked
asked words c task is of_it = ap (option_and_then task_of) is ∙ of_it

-- words that are no command ask for nothing
pub asked_nothing : (words : List (List ℕ)) → command words ≡ None → task_asked words ≡ None
unfolding task_asked
asked_nothing words is = ap (option_and_then task_of) is

-- what a command asks to generate
pub generates : (words : List (List ℕ)) (c : Command) (made : Option (ℕ × ℕ)) → command words ≡ Some c → generated_by c ≡ made → generation_asked words ≡ made
unfolding generation_asked
generates words c made is of_it = ap (option_and_then generated_by) is ∙ of_it

pub generates_nothing : (words : List (List ℕ)) → command words ≡ None → generation_asked words ≡ None
unfolding generation_asked
generates_nothing words is = ap (option_and_then generated_by) is

-- what a command asks to tour
pub tours : (words : List (List ℕ)) (c : Command) (made : Option (ℕ × ℕ)) → command words ≡ Some c → toured_by c ≡ made → tour_asked words ≡ made
unfolding tour_asked
tours words c made is of_it = ap (option_and_then toured_by) is ∙ of_it

pub tours_nothing : (words : List (List ℕ)) → command words ≡ None → tour_asked words ≡ None
unfolding tour_asked
tours_nothing words is = ap (option_and_then toured_by) is

-- the files of the run with a feed that a command asks for
pub feeds : (words : List (List ℕ)) (c : Command) (files : Option Files) → command words ≡ Some c → fed_by c ≡ files → files_asked words ≡ files
unfolding files_asked
feeds words c files is of_it = ap (option_and_then fed_by) is ∙ of_it

pub feeds_nothing : (words : List (List ℕ)) → command words ≡ None → files_asked words ≡ None
unfolding files_asked
feeds_nothing words is = ap (option_and_then fed_by) is

-- a command that asks for a run with a feed asks for nothing else
pub fed_asks_nothing : (c : Command) (files : Files) → fed_by c ≡ Some files → (task_of c ≡ None) × (generated_by c ≡ None) × (toured_by c ≡ None)
fed_asks_nothing (Solve name None workers buffer) files is = absurd cc
fed_asks_nothing (Solve name (Some feed) workers buffer) files is = (refl, refl, refl)
fed_asks_nothing (Replay name feed journal) files is = (refl, refl, refl)
fed_asks_nothing (Score name) files is = absurd cc
fed_asks_nothing (Explain name) files is = absurd cc
fed_asks_nothing (Gen number size) files is = absurd cc
fed_asks_nothing (Tour number size workers buffer) files is = absurd cc

-- a command that asks for something of a problem that it names generates none and has no feed
pub asked_generates_nothing : (c : Command) (task : Task) → task_of c ≡ Some task → (generated_by c ≡ None) × (toured_by c ≡ None) × (fed_by c ≡ None)
asked_generates_nothing (Solve name None workers buffer) task is = (refl, refl, refl)
asked_generates_nothing (Solve name (Some feed) workers buffer) task is = absurd cc
asked_generates_nothing (Replay name feed journal) task is = absurd cc
asked_generates_nothing (Score name) task is = (refl, refl, refl)
asked_generates_nothing (Explain name) task is = (refl, refl, refl)
asked_generates_nothing (Gen number size) task is = absurd cc
asked_generates_nothing (Tour number size workers buffer) task is = absurd cc

-- what is due under a status is due under the same one
due_said : (run : Run) (said s : Status) (text : List ℕ) → s ≡ said → IsDue run said text → IsDue run s text
due_said run said s text is due = subst (λ (given : Status). IsDue run given text) (sym is) due

generated : (run : Run) (number size : ℕ) (text : List ℕ) → run.generates ≡ Some (number, size) → text ≡ generated_text number size → DueGenerated run text
generated run number size text is says = record { number = number; size = size; generates = is; says = says }

-- what is due for a tour is due in the run that asks for it
due_toured : (run : Run) (number size : ℕ) → run.tours ≡ Some (number, size) → (s : Status) (text : List ℕ)
    → DueForTour run.domains run.makers run.meaning number size s text → IsDue run s text
due_toured run number size is status.Ok text due = inr (inr (inl (record { number = number; size = size; tours = is; due = due })))
due_toured run number size is status.Problem text due = inr (inl (record { number = number; size = size; tours = is; due = due }))
due_toured run number size is _ text due = absurd due

-- what is due for a command that reads no problem is due in the run
pub due_unread : (run : Run) (c : Command) → run.generates ≡ generated_by c → run.tours ≡ toured_by c
    → (s : Status) (text : List ℕ) → DueUnread run.domains run.makers run.meaning c s text → IsDue run s text
due_unread run (Gen number size) generates tours s text said =
    due_said run status.Ok s text said.0 (inr (inl (generated run number size text generates said.1)))
due_unread run (Tour number size workers buffer) generates tours s text due = due_toured run number size tours s text due
due_unread run (Solve name feed workers buffer) generates tours s text due = absurd due
due_unread run (Replay name feed journal) generates tours s text due = absurd due
due_unread run (Score name) generates tours s text due = absurd due
due_unread run (Explain name) generates tours s text due = absurd due

-- the text that is wanted of a problem was said, or a front of it
pub ended_wanted : (meaning : Meaning) (makers : List Made) (wanted asked : Wanted) (d : DomainView) (p : ProblemView) (old new : SinkState) (result : Status)
    → asked ≡ wanted → Ended (Says status.Ok (text_wanted wanted (posed_in meaning makers d p))) old new result
    → Ended (DueForProblem meaning makers (text_wanted asked) d p) old new result
ended_wanted meaning makers wanted asked d p old new result is ended =
    ended_saying (DueForProblem meaning makers (text_wanted asked) d p) status.Ok (text_wanted wanted (posed_in meaning makers d p)) old new result
    (ap (λ w. text_wanted w (posed_in meaning makers d p)) (sym is)) ended
