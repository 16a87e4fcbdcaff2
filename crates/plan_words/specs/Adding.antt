-- What one word more adds to words that are sorted out already.
use Rattle.std.specs.Prelude.{◌≡◌, nat_le, List, [], ◌∷◌, ◌++◌, length, codes, Option, Some, None, option_and_then, option_map, ◌+◌, if◌then◌else◌}
use Rattle.std.specs.Str.{bytes_eq}
use Rattle.plan_words.specs.Items.{Word, Item, Positional, Given, has_dash, utf8_items}
use Rattle.plan_words.specs.Sorted.{Sorted}

-- the value in a place that is empty
abbrev pub filled : Option Word → Word → Option (Option Word)
filled None value = Some (Some value)
filled (Some _) value = None

-- a positional word more, of at most two
abbrev pub with_word : Sorted → Word → Option Sorted
with_word s word =
    if nat_le (length s.positional + 1) 2 then Some (record s { positional = s.positional ++ word ∷ [] }) else None

-- the value of an option more, which has none yet
abbrev pub with_value : Sorted → Word → Word → Option Sorted
with_value s name value =
    if has_dash value then None
    else (if bytes_eq name (codes "--feed")
    then option_map (λ feed. record s { feed = feed }) (filled s.feed value)
    else (if bytes_eq name (codes "--journal")
    then option_map (λ journal. record s { journal = journal }) (filled s.journal value)
    else (if bytes_eq name (codes "--workers")
    then option_map (λ workers. record s { workers = workers }) (filled s.workers value)
    else (if bytes_eq name (codes "--buffer")
    then option_map (λ buffer. record s { buffer = buffer }) (filled s.buffer value)
    else None))))

-- what an item adds to what is sorted out already
abbrev pub with_item : Sorted → Item → Option Sorted
with_item s (Positional word) = with_word s word
with_item s (Given name value) = with_value s name value

-- what the items add, one after another
abbrev pub with_items : Sorted → List Item → Option Sorted
with_items s [] = Some s
with_items s (item ∷ items) = option_and_then (λ t. with_items t items) (with_item s item)

-- what the words add
abbrev pub with_words : Sorted → List Word → Option Sorted
with_words s words = option_and_then (with_items s) (utf8_items words)

-- what some words add to this is what the rest of them adds to that
abbrev pub GoesOn : Sorted → List Word → Sorted → List Word → Type 0
GoesOn old words new rest = with_words old words ≡ with_words new rest

-- nothing is sorted out yet
abbrev pub nothing : Sorted
nothing = record { positional = []; feed = None; journal = None; workers = None; buffer = None }
