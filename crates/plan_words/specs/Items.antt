-- The words of a command line after its first: positional words, and options with their values.
use Rattle.std.specs.Prelude.{ℕ, Bool, ◌==◌, not, ◌&&◌, List, [], ◌∷◌, Option, Some, None, option_map, slice_index, if◌then◌else◌}
use Rattle.std.specs.List.{list_all, list_any, before_first, after_first}
use Rattle.std.specs.Str.{is_utf8}

-- a word is its bytes
abbrev pub Word : Type 0
Word = List ℕ

-- a positional word, or the name of an option, with its dashes, and the value given to it
pub data Item : Type 0 where
  Positional : Word → Item
  Given : Word → Word → Item

-- the word begins with a dash
abbrev pub has_dash : Word → Bool
has_dash word = slice_index word 0 == 45

-- the byte of an equals sign
abbrev pub is_equals_sign : ℕ → Bool
is_equals_sign byte = byte == 61

-- the word is an option whose value is the next word
abbrev pub wants_value : Word → Bool
wants_value word = has_dash word && not (list_any is_equals_sign word)

-- the word by itself: an option with the value behind its first equals sign, or a positional word
abbrev pub item : Word → Item
item word =
    if has_dash word then Given (before_first is_equals_sign word) (after_first is_equals_sign word)
    else Positional word

-- the items that the words are, in order; none where an option at the end lacks its value
abbrev pub items : List Word → Option (List Item)
items [] = Some []
items (word ∷ []) = if wants_value word then None else Some (item word ∷ [])
items (word ∷ next ∷ rest) =
    if wants_value word then option_map (λ others. Given word next ∷ others) (items rest)
    else option_map (λ others. item word ∷ others) (items (next ∷ rest))

-- the items of words that are UTF-8, each
abbrev pub utf8_items : List Word → Option (List Item)
utf8_items words = if list_all is_utf8 words then items words else None
