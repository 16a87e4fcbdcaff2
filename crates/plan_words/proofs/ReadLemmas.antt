-- What the parser reads of the words of a line in their one order.
use Rattle.std.proofs.Common.{◌≡◌, ◌≤◌, Bool, true, false, ◌&&◌, ◌++◌, ◌∷◌, [], List, length, drop, fold, codes, Option, Some, None, is_some, option_map, option_and_then, option_to_list, slice_get, find, if◌then◌else◌, refl, sym, ap, ap₂, ◌∙◌, subst, arith}
use Rattle.std.specs.List.{list_all, list_any}
use Rattle.std.specs.Option.{option_or}
use Rattle.std.specs.Str.{bytes_eq}
use Rattle.std.proofs.lemmas.Bool.{and_parts, or_parts, eqb-true}
use Rattle.clap.specs.Words.{App, Row, Rule, Shape, built, rows_of, found_of, first_value, first_of, matches_of}
use Rattle.clap.specs.Walk.{Walk, walk_from, walked, nothing_held, settled, with_values, without, has_row, with_default, is_empty}
use Rattle.clap.specs.Takes.{turn_passes, walk_passes, settle_passes}
use Rattle.clap.specs.Values.{reading_of}
use Rattle.clap.specs.declared.builder.value_parser.ValueParser.TheVariants as vp
use Rattle.clap.specs.declared.parser.matches.ArgMatches.{ArgMatches}
use Rattle.clap.specs.declared.parser.matches.ValueSource.TheVariants.{CommandLine}
use Rattle.clap.proofs.WalkLemmas.{first_value-rows}
use Rattle.clap.proofs.OnLiterals.{clap_on_literals}
use Rattle.plan_words.specs.Items.{Word}
use Rattle.plan_words.specs.Sorted.{Sorted}
use Rattle.plan_words.specs.Canonical.{canonical, option_words}
use Rattle.plan_words.specs.Parsers.{parser, HasNoGap, Takes, found_line}

if_same : {X : Type 0} (b : Bool) (x : X) → (if b then x else x) ≡ x
if_same true x = refl
if_same false x = refl

-- ---- what was read, by id

-- an id, and what was read for it
abbrev Entry : Type 0
Entry = Word × Option Word

-- the row of an id with its one value
abbrev row : Word → Word → Row
row id value = record { id = id; values = value ∷ []; count = None; source = Some CommandLine; reading = reading_of vp.String }

-- the rows of the ids for which something was read
abbrev rows : List Entry → List Row
rows [] = []
rows ((id, None) ∷ es) = rows es
rows ((id, Some value) ∷ es) = row id value ∷ rows es

-- the id has an entry
abbrev has_entry : Word → List Entry → Bool
has_entry id = list_any (λ e. bytes_eq e.0 id)

-- an id without an entry has no row
no_row : (id : Word) (es : List Entry) → has_entry id es ≡ false → has_row id (rows es) ≡ false
no_row id [] new = refl
no_row id ((other, None) ∷ es) new = no_row id es (or_parts _ _ new).1
no_row id ((other, Some value) ∷ es) new = let news = or_parts (bytes_eq other id) _ new in rw news.0 (no_row id es news.1)

-- where nothing is read for an id, no row is added
none_added : (id : Word) (es : List Entry) → rows (es ++ (id, None) ∷ []) ≡ rows es
none_added id [] = refl
none_added id ((other, None) ∷ es) = none_added id es
none_added id ((other, Some value) ∷ es) = ap (λ rs. row other value ∷ rs) (none_added id es)

-- the use of a new id adds its row at the end
one_added : (id value : Word) (es : List Entry) → has_entry id es ≡ false
    → with_values id (reading_of vp.String) CommandLine (value ∷ []) (without id (rows es)) ≡ rows (es ++ (id, Some value) ∷ [])
one_added id value [] new = refl
one_added id value ((other, None) ∷ es) new = one_added id value es (or_parts _ _ new).1
one_added id value ((other, Some v) ∷ es) new =
    let news = or_parts (bytes_eq other id) _ new in
    rw (news.0, news.0) (ap (λ rs. row other v ∷ rs) (one_added id value es news.1))

-- the first word that was read for an id
abbrev looked_up : Word → List Entry → Option Word
looked_up id [] = None
looked_up id (e ∷ es) = if bytes_eq e.0 id then option_or e.1 (looked_up id es) else looked_up id es

-- the parser gives this word for the id
look_up : (id : Word) (es : List Entry) → first_of id (rows es) ≡ looked_up id es
look_up id [] = refl
look_up id ((other, None) ∷ es) =
    look_up id es ∙ sym (if_same (bytes_eq other id) (looked_up id es))
look_up id ((other, Some value) ∷ es) = here_or_later (bytes_eq other id) (look_up id es)
  where
    here_or_later : (b : Bool) → first_of id (rows es) ≡ looked_up id es
        → option_and_then (λ r. slice_get r.values 0) (if b then Some (row other value) else find (λ r. bytes_eq r.id id) (rows es)) ≡ (if b then Some value else looked_up id es)
    here_or_later true later = refl
    here_or_later false later = later

-- nothing else was read for it
or_none : (o : Option Word) → option_or o None ≡ o
or_none None = refl
or_none (Some word) = refl

-- ---- the walk over the words

-- the parser, as clap builds it
abbrev shape : Word → Shape
shape first = (built (parser first)).top

-- the walk, where these rows are there and nothing waits for a value
abbrev between : List Row → Walk
between rs = walk_from (record { rows = rs; pending = None; skip = 0 })

-- where the words lead from here
abbrev end : Word → Walk → List Word → Walk
end first here words = fold (walked (shape first).rules []) here words

-- the words pass, and at their end these entries are read
record Reads (first : Word) (here : Walk) (words : List Word) (es : List Entry) : Type 0 where
  passes : walk_passes (shape first) [] here words ≡ true
  stopped : (end first here words).stopped ≡ None
  settles : settle_passes (shape first).rules false (end first here words).held ≡ true
  read : (settled (shape first).rules (end first here words).held).rows ≡ rows es

-- one word, and then the others
word_reads : (first : Word) (here next : Walk) (word : Word) (rest : List Word) (es : List Entry) → walked (shape first).rules [] here word ≡ next
    → turn_passes (shape first) [] here word ≡ true → Reads first next rest es → Reads first here (word ∷ rest) es
unfolding walk_passes
word_reads first here next word rest es leads passes on =
    let others = subst (λ w. Reads first w rest es) (sym leads) on in
    record { passes = ap₂ (λ b c. b && c) passes others.passes; stopped = others.stopped; settles = others.settles; read = others.read }

-- a word that begins so is an option with its value, which is read under the id
record IsOption (first name id : Word) : Type 0 where
  leads : (rs : List Row) (value : Word) → walked (shape first).rules [] (between rs) (name ++ value) ≡ between (with_values id (reading_of vp.String) CommandLine (value ∷ []) (without id rs))
  passes : (rs : List Row) (value : Word) → has_row id rs ≡ false → turn_passes (shape first) [] (between rs) (name ++ value) ≡ true

-- the parser has each of the four options
is_feed : (first : Word) → IsOption first (codes "--feed=") (codes "feed")
unfolding clap_on_literals
is_feed first = record { leads = λ rs value. refl; passes = λ rs value new. rw new }

is_journal : (first : Word) → IsOption first (codes "--journal=") (codes "journal")
unfolding clap_on_literals
is_journal first = record { leads = λ rs value. refl; passes = λ rs value new. rw new }

is_workers : (first : Word) → IsOption first (codes "--workers=") (codes "workers")
unfolding clap_on_literals
is_workers first = record { leads = λ rs value. refl; passes = λ rs value new. rw new }

is_buffer : (first : Word) → IsOption first (codes "--buffer=") (codes "buffer")
unfolding clap_on_literals
is_buffer first = record { leads = λ rs value. refl; passes = λ rs value new. rw new }

-- an option that may be absent, and then the others
option_reads : (first name id : Word) (o : Option Word) (before : List Entry) (rest : List Word) (es : List Entry) → IsOption first name id → has_entry id before ≡ false
    → Reads first (between (rows (before ++ (id, o) ∷ []))) rest es → Reads first (between (rows before)) (option_words name o ++ rest) es
option_reads first name id None before rest es is new on = subst (λ rs. Reads first (between rs) rest es) (none_added id before) on
option_reads first name id (Some value) before rest es is new on =
    word_reads first _ _ (name ++ value) rest es (is.leads (rows before) value ∙ ap between (one_added id value before new))
    (is.passes (rows before) value (no_row id before new)) on

-- the positional words stand last
abbrev with_positional : List Entry → List Word → List Entry
with_positional before words = (before ++ (codes "first", slice_get words 0) ∷ []) ++ (codes "second", slice_get words 1) ∷ []

-- the positional words, behind the two dashes
positional_reads : (first : Word) (words : List Word) (before : List Entry) → length words ≤ 2 → has_entry (codes "first") before ≡ false
    → ((o : Option Word) → has_entry (codes "second") (before ++ (codes "first", o) ∷ []) ≡ false)
    → Reads first (record (between (rows before)) { is_trailing = true }) words (with_positional before words)
unfolding clap_on_literals
positional_reads first [] before few new next =
    record { passes = refl; stopped = refl; settles = refl; read = sym (none_added (codes "second") (before ++ (codes "first", None) ∷ []) ∙ none_added (codes "first") before) }
positional_reads first (word ∷ []) before few new next = record {
  passes = refl;
  stopped = refl;
  settles = rw (no_row (codes "first") before new);
  read = one_added (codes "first") word before new ∙ sym (none_added (codes "second") (before ++ (codes "first", Some word) ∷ []));
}
positional_reads first (word ∷ second ∷ []) before few new next =
    let added = one_added (codes "first") word before new in
    record {
      passes = rw (no_row (codes "first") before new);
      stopped = refl;
      settles = rw (added, no_row (codes "second") (before ++ (codes "first", Some word) ∷ []) (next (Some word)));
      read = rw added (one_added (codes "second") second (before ++ (codes "first", Some word) ∷ []) (next (Some word)));
    }
positional_reads first (word ∷ second ∷ third ∷ rest) before few new next = absurd (omega arith)

-- the options of a line, in the order of its words
abbrev options : Sorted → List Entry
options s = (codes "feed", s.feed) ∷ (codes "journal", s.journal) ∷ (codes "workers", s.workers) ∷ (codes "buffer", s.buffer) ∷ []

-- the words of a line, one after another
line_reads : (first : Word) (s : Sorted) → length s.positional ≤ 2
    → Reads first (walk_from nothing_held) (drop 1 (canonical first s)) (with_positional (options s) s.positional)
unfolding clap_on_literals
line_reads first s few =
    let last = positional_reads first s.positional (options s) few refl (λ o. refl) in
    let dashes = word_reads first (between (rows (options s))) _ (codes "--") s.positional _ refl refl last in
    let buffer = option_reads first _ (codes "buffer") s.buffer ((codes "feed", s.feed) ∷ (codes "journal", s.journal) ∷ (codes "workers", s.workers) ∷ []) _ _ (is_buffer first) refl dashes in
    let workers = option_reads first _ (codes "workers") s.workers ((codes "feed", s.feed) ∷ (codes "journal", s.journal) ∷ []) _ _ (is_workers first) refl buffer in
    let journal = option_reads first _ (codes "journal") s.journal ((codes "feed", s.feed) ∷ []) _ _ (is_journal first) refl workers in
    option_reads first _ (codes "feed") s.feed [] _ _ (is_feed first) refl journal

-- ---- the line

-- the parser takes the words of a line
pub taken : (first : Word) (s : Sorted) → length s.positional ≤ 2 → Takes (parser first) (canonical first s)
taken first s few =
    let reads = line_reads first s few in
    rw (reads.stopped, reads.passes, reads.settles)

-- rules without defaults add no row
no_defaults : (rules : List Rule) (rs : List Row) → list_all (λ a. is_empty a.defaults) rules ≡ true → fold with_default rs rules ≡ rs
no_defaults [] rs none = refl
no_defaults (a ∷ rules) rs none =
    ap (λ r. fold with_default r rules) (same a.defaults (and_parts _ _ none).0) ∙ no_defaults rules rs (and_parts _ _ none).1
  where
    same : (defaults : List Word) → is_empty defaults ≡ true → with_default rs (record a { defaults = defaults }) ≡ rs
    same [] empty = if_same (has_row a.id rs) rs
    same (d ∷ ds) empty = absurd (omega (arith, eqb-true _ _ empty))

-- what m found is the line
pub record ComesBack (m : ArgMatches) (s : Sorted) : Type 0 where
  pub no_gap : HasNoGap (found_of m)
  pub line : found_line (found_of m) ≡ s

-- the words of a line come back from the parser
pub comes_back : (m : ArgMatches) (first : Word) (s : Sorted) (app : App) (words : List Word) → length s.positional ≤ 2 → app ≡ parser first → words ≡ canonical first s
    → rows_of (found_of m) ≡ matches_of app words → ComesBack m s
comes_back m first s app words few app_is words_are matches =
    let found = found_of m in
    let there = matches ∙ ap₂ matches_of app_is words_are ∙ no_defaults (shape first).rules _ refl ∙ (line_reads first s few).read in
    let value : (id : Word) → first_value found id ≡ looked_up id (with_positional (options s) s.positional) =
    λ id. first_value-rows found id ∙ ap (first_of id) there ∙ look_up id (with_positional (options s) s.positional) in
    let one = value (codes "first") ∙ or_none (slice_get s.positional 0) in
    let two = value (codes "second") ∙ or_none (slice_get s.positional 1) in
    record {
      no_gap = rw (one, two) (second_is_behind s.positional);
      line = λ i. record {
        positional = (ap₂ (λ a b. option_to_list a ++ option_to_list b) one two ∙ at_most_two s.positional few) i;
        feed = (value (codes "feed") ∙ or_none s.feed) i;
        journal = (value (codes "journal") ∙ or_none s.journal) i;
        workers = (value (codes "workers") ∙ or_none s.workers) i;
        buffer = (value (codes "buffer") ∙ or_none s.buffer) i;
      };
    }
  where
    second_is_behind : (words : List Word) → is_some (slice_get words 1) ≡ true → is_some (slice_get words 0) ≡ true
    second_is_behind [] there = there
    second_is_behind (word ∷ rest) there = refl

    at_most_two : (words : List Word) → length words ≤ 2 → option_to_list (slice_get words 0) ++ option_to_list (slice_get words 1) ≡ words
    at_most_two [] few = refl
    at_most_two (word ∷ []) few = refl
    at_most_two (word ∷ second ∷ []) few = refl
    at_most_two (word ∷ second ∷ third ∷ rest) few = absurd (omega arith)

-- a value that a function takes to a value is there
pub where_mapped : {X Y : Type 0} (f : X → Y) (o : Option X) → is_some (option_map f o) ≡ true → is_some o ≡ true
where_mapped f None there = there
where_mapped f (Some x) there = refl
