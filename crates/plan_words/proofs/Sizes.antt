-- The sizes of generated problems, and how many workers judge how many candidates at once, are in their range.
use Rattle.std.proofs.Common.{◌≡◌, ◌≤◌, ◌-◌, ◌^◌, ◌&&◌, ℕ, Bool, true, false, nat_le, if◌then◌else◌, List, [], ◌∷◌, Option, Some, None, is_none, option_to_list, refl, subst, arith}
use Rattle.plan_words.specs.Command.{AreHands, IsSized, buffer_of, command, command_of, given, has_no_option, number_and_size, only_name, workers_of}
use Rattle.std.specs.Str.Parse.{digits_value}
use Rattle.plan_words.specs.Items.{Word}
use Rattle.plan_words.specs.Values.{are_names, is_number, number_in, number_or}
use Rattle.plan_words.specs.Verb.{verb}
use Rattle.plan_words.specs.Sorted.{Sorted, one, sorted_words, two}
use Rattle.plan_words.specs.declared.verb.Verb.{Verb}
use Rattle.plan_words.specs.declared.verb.Verb.TheVariants as verbs
use Rattle.plan_words.specs.declared.command.Command.{Command}
use Rattle.plan_words.specs.declared.command.Command.TheVariants.{Solve, Replay, Gen, Tour}

-- what is said of the value, where there is one
abbrev pub Each : {X : Type 0} → (X → Type 0) → Option X → Type 0
Each P None = Unit {0}
Each P (Some x) = P x

-- it may be said of what goes on with what there is
each_given : {X Y : Type 0} (P : Y → Type 0) (o : Option X) (next : X → Option Y) → ((x : X) → o ≡ Some x → Each P (next x)) → Each P (given o next)
each_given P None next all = tt
each_given P (Some x) next all = all x refl

-- nor is it lost where a test lets nothing through
each_if : {Y : Type 0} (P : Y → Type 0) (b : Bool) (y : Y) → P y → Each P (if b then Some y else None)
each_if P true y holds = holds
each_if P false y holds = tt

-- a number in a range is in it
in_range : (low high : ℕ) (word : Word) → Each (λ (n : ℕ). (low ≤ n) × (n ≤ high)) (number_in low high word)
in_range low high word =
    let number = digits_value 10 word in
    elim (is_number word && (nat_le low number && nat_le number high)) as (λ (b : Bool). (b ≡ (is_number word && (nat_le low number && nat_le number high)))
    → Each (λ (n : ℕ). (low ≤ n) × (n ≤ high)) (if b then Some number else None)) [
      | true ↦ λ e. (grind arith, grind arith)
      | false ↦ λ e. tt
    ] refl

-- what is said of a value that is there
each_of : {X : Type 0} (P : X → Type 0) (o : Option X) (x : X) → o ≡ Some x → Each P o → P x
each_of P o x is all = subst (λ (o : Option _). Each P o) is all

-- the size behind the number
pair_in_range : (s : Sorted) → Each (λ (problem : ℕ × ℕ). (1 ≤ problem.1) × (problem.1 ≤ 10000)) (number_and_size s)
pair_in_range s =
    each_given _ (two s.positional) _ (λ words _.
    each_given _ (number_in 0 (2 ^ 32 - 1) words.0) _ (λ number _.
    each_given _ (number_in 1 10000 words.1) _ (λ size is. each_of (λ (n : ℕ). (1 ≤ n) × (n ≤ 10000)) (number_in 1 10000 words.1) size is (in_range 1 10000 words.1))))

-- a number that may be absent is in its range, where the usual one is
or_in_range : (usual low high : ℕ) → low ≤ usual → usual ≤ high → (word : Option Word) → Each (λ (n : ℕ). (low ≤ n) × (n ≤ high)) (number_or usual low high word)
or_in_range usual low high least most None = (least, most)
or_in_range usual low high least most (Some word) = in_range low high word

-- the workers and the buffer of a line
hands_in_range : (s : Sorted) (workers buffer : ℕ) → workers_of s ≡ Some workers → buffer_of s ≡ Some buffer → AreHands workers buffer
hands_in_range s workers buffer w b =
    let few = each_of (λ (n : ℕ). (1 ≤ n) × (n ≤ 16)) (workers_of s) workers w (or_in_range 1 1 16 (omega arith) (omega arith) s.workers) in
    let small = each_of (λ (n : ℕ). (1 ≤ n) × (n ≤ 1024)) (buffer_of s) buffer b (or_in_range 64 1 1024 (omega arith) (omega arith) s.buffer) in
    (few.0, few.1, small.0, small.1)

-- each command by its word
sized_by : (v : Verb) (s : Sorted) → Each IsSized (command_of v s)
sized_by verbs.Solve s =
    each_given IsSized (one s.positional) _ (λ name _. each_given IsSized (workers_of s) _ (λ workers w. each_given IsSized (buffer_of s) _ (λ buffer b.
    each_if IsSized (are_names (name ∷ option_to_list s.feed) && is_none s.journal) (Solve name s.feed workers buffer)
    (hands_in_range s workers buffer w b))))
sized_by verbs.Replay s =
    each_given IsSized (one s.positional) _ (λ name _. each_given IsSized s.feed _ (λ feed _. each_given IsSized s.journal _ (λ journal _.
    each_if IsSized (are_names (name ∷ feed ∷ journal ∷ []) && (is_none s.workers && is_none s.buffer)) (Replay name feed journal) tt)))
sized_by verbs.Score s = each_given IsSized (only_name s) _ (λ name _. tt)
sized_by verbs.Explain s = each_given IsSized (only_name s) _ (λ name _. tt)
sized_by verbs.Gen s =
    each_given IsSized (number_and_size s) _ (λ problem is.
    each_if IsSized (has_no_option s) (Gen problem.0 problem.1)
    (each_of (λ (problem : ℕ × ℕ). (1 ≤ problem.1) × (problem.1 ≤ 10000)) (number_and_size s) problem is (pair_in_range s)))
sized_by verbs.Tour s =
    each_given IsSized (number_and_size s) _ (λ problem is. each_given IsSized (workers_of s) _ (λ workers w. each_given IsSized (buffer_of s) _ (λ buffer b.
    each_if IsSized (is_none s.feed && is_none s.journal) (Tour problem.0 problem.1 workers buffer)
    (let size = each_of (λ (problem : ℕ × ℕ). (1 ≤ problem.1) × (problem.1 ≤ 10000)) (number_and_size s) problem is (pair_in_range s) in
    (size.0, size.1, hands_in_range s workers buffer w b)))))

-- the sizes of a command that is read are in their range
each_sized : (words : List Word) → Each IsSized (command words)
each_sized [] = tt
each_sized (first ∷ others) = each_given IsSized (verb first) _ (λ v _. each_given IsSized (sorted_words others) _ (λ s _. sized_by v s))

pub sized : (words : List Word) (c : Command) → command words ≡ Some c → IsSized c
sized words c is = each_of IsSized (command words) c is (each_sized words)
