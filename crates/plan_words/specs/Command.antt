-- The commands: which words are which command.
use Rattle.std.specs.Prelude.{ℕ, ◌-◌, ◌^◌, ◌≤◌, Bool, ◌&&◌, List, [], ◌∷◌, Option, Some, None, option_and_then, option_to_list, is_none, if◌then◌else◌}
use Rattle.plan_words.specs.Items.{Word}
use Rattle.plan_words.specs.Sorted.{Sorted, one, two, sorted_words}
use Rattle.plan_words.specs.Values.{are_names, number_in, number_or}
use Rattle.plan_words.specs.Verb.{verb}
use Rattle.plan_words.specs.declared.verb.Verb.{Verb}
use Rattle.plan_words.specs.declared.verb.Verb.TheVariants as verbs
use Rattle.plan_words.specs.declared.command.Command.{Command}
use Rattle.plan_words.specs.declared.command.Command.TheVariants.{Solve, Replay, Score, Explain, Gen, Tour}

-- goes on with what there is
abbrev pub given : {X Y : Type 0} → Option X → (X → Option Y) → Option Y
given x next = option_and_then next x

-- no option was given
abbrev pub has_no_option : Sorted → Bool
has_no_option s = is_none s.feed && (is_none s.journal && (is_none s.workers && is_none s.buffer))

-- the number of workers: 1 to 16, usually 1
abbrev pub workers_of : Sorted → Option ℕ
workers_of s = number_or 1 1 16 s.workers

-- the size of the buffer: 1 to 1,024, usually 64
abbrev pub buffer_of : Sorted → Option ℕ
buffer_of s = number_or 64 1 1024 s.buffer

-- solve NAME [--feed NAME] [--workers N] [--buffer N]
abbrev pub solve : Sorted → Option Command
solve s =
    given (one s.positional) (λ name.
    given (workers_of s) (λ workers.
    given (buffer_of s) (λ buffer.
    if are_names (name ∷ option_to_list s.feed) && is_none s.journal
    then Some (Solve name s.feed workers buffer) else None)))

-- replay NAME --feed NAME --journal NAME
abbrev pub replay : Sorted → Option Command
replay s =
    given (one s.positional) (λ name.
    given s.feed (λ feed.
    given s.journal (λ journal.
    if are_names (name ∷ feed ∷ journal ∷ []) && (is_none s.workers && is_none s.buffer)
    then Some (Replay name feed journal) else None)))

-- the name of a command that has nothing else
abbrev pub only_name : Sorted → Option Word
only_name s =
    given (one s.positional) (λ name.
    if are_names (name ∷ []) && has_no_option s then Some name else None)

-- score NAME
abbrev pub score : Sorted → Option Command
score s = given (only_name s) (λ name. Some (Score name))

-- explain NAME
abbrev pub explain : Sorted → Option Command
explain s = given (only_name s) (λ name. Some (Explain name))

-- the number and the size of a generated problem: 0 to 2^32 - 1, and 1 to 10,000
abbrev pub number_and_size : Sorted → Option (ℕ × ℕ)
number_and_size s =
    given (two s.positional) (λ words.
    given (number_in 0 (2 ^ 32 - 1) words.0) (λ number.
    given (number_in 1 10000 words.1) (λ size. Some (number, size))))

-- gen NUMBER SIZE
abbrev pub gen : Sorted → Option Command
gen s =
    given (number_and_size s) (λ problem.
    if has_no_option s then Some (Gen problem.0 problem.1) else None)

-- tour NUMBER SIZE [--workers N] [--buffer N]
abbrev pub tour : Sorted → Option Command
tour s =
    given (number_and_size s) (λ problem.
    given (workers_of s) (λ workers.
    given (buffer_of s) (λ buffer.
    if is_none s.feed && is_none s.journal then Some (Tour problem.0 problem.1 workers buffer) else None)))

-- the command that begins with this word and goes on so
abbrev pub command_of : Verb → Sorted → Option Command
command_of verbs.Solve s = solve s
command_of verbs.Replay s = replay s
command_of verbs.Score s = score s
command_of verbs.Explain s = explain s
command_of verbs.Gen s = gen s
command_of verbs.Tour s = tour s

-- the command that the words are
abbrev pub command : List Word → Option Command
command [] = None
command (first ∷ others) = given (verb first) (λ v. given (sorted_words others) (command_of v))

-- so many workers, and candidates at once, are in their range
abbrev pub AreHands : ℕ → ℕ → Type 0
AreHands workers buffer = (1 ≤ workers) × (workers ≤ 16) × (1 ≤ buffer) × (buffer ≤ 1024)

-- the size of a generated problem is from 1 to 10,000, and workers and buffers are in their range
abbrev pub IsSized : Command → Type 0
IsSized (Solve name feed workers buffer) = AreHands workers buffer
IsSized (Replay name feed journal) = Unit {0}
IsSized (Score name) = Unit {0}
IsSized (Explain name) = Unit {0}
IsSized (Gen number size) = (1 ≤ size) × (size ≤ 10000)
IsSized (Tour number size workers buffer) = (1 ≤ size) × (size ≤ 10000) × AreHands workers buffer
