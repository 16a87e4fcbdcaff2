-- The items of a command line, sorted out: what stands in which place.
use Rattle.std.specs.Prelude.{Bool, true, not, ◌&&◌, nat_le, List, [], ◌∷◌, length, codes, Option, Some, None, option_and_then, if◌then◌else◌}
use Rattle.std.specs.List.{list_all, list_any, filter_map, slice_get}
use Rattle.std.specs.Str.{bytes_eq}
use Rattle.plan_words.specs.Items.{Word, Item, Positional, Given, has_dash, utf8_items}

-- the positional words in order, and the value of each option that was given
pub record Sorted : Type 0 where
  pub positional : List Word
  pub feed : Option Word
  pub journal : Option Word
  pub workers : Option Word
  pub buffer : Option Word

-- every option of every command
abbrev pub options : List Word
options = codes "--feed" ∷ codes "--journal" ∷ codes "--workers" ∷ codes "--buffer" ∷ []

-- an option is one of these, and its value doesn't begin with a dash
abbrev pub is_right : Item → Bool
is_right (Positional _) = true
is_right (Given name value) = list_any (bytes_eq name) options && not (has_dash value)

-- the word of a positional item
abbrev pub word_of : Item → Option Word
word_of (Positional word) = Some word
word_of (Given _ _) = None

-- the value that an item gives to an option
abbrev pub value_of : Word → Item → Option Word
value_of option (Positional _) = None
value_of option (Given name value) = if bytes_eq name option then Some value else None

-- the positional words
abbrev pub positional_words : List Item → List Word
positional_words items = filter_map word_of items

-- the values given to an option
abbrev pub values_of : Word → List Item → List Word
values_of option items = filter_map (value_of option) items

-- each item is right, there are at most two positional words, and each option is given at most once
abbrev pub can_sort : List Item → Bool
can_sort items = list_all is_right items && (nat_le (length (positional_words items)) 2
    && list_all (λ option. nat_le (length (values_of option items)) 1) options)

-- the items, sorted out; none where they break a rule
abbrev pub sorted : List Item → Option Sorted
sorted items = if can_sort items then Some (record {
  positional = positional_words items;
  feed = slice_get (values_of (codes "--feed") items) 0;
  journal = slice_get (values_of (codes "--journal") items) 0;
  workers = slice_get (values_of (codes "--workers") items) 0;
  buffer = slice_get (values_of (codes "--buffer") items) 0;
}) else None

-- the words after the first, sorted out; none where they break a rule that all commands have
abbrev pub sorted_words : List Word → Option Sorted
sorted_words words = option_and_then sorted (utf8_items words)

-- the one positional word
abbrev pub one : List Word → Option Word
one (word ∷ []) = Some word
one _ = None

-- the two positional words
abbrev pub two : List Word → Option (Word × Word)
two (word ∷ next ∷ []) = Some (word, next)
two _ = None
