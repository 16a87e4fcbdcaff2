-- Words behind references.
use Rattle.std.specs.Prelude.{List, map, Option, option_map, String, string_bytes}
use Rattle.std.specs.Borrow.{Bor}
use Rattle.plan_words.specs.Items.{Word}

-- the word behind a reference that may be absent
abbrev pub word_at : Option (Bor Word) → Option Word
word_at = option_map (λ w. w.now)

-- the words that texts are
abbrev pub texts : {Z : Type 0} → List (String Z) → List Word
texts = map string_bytes
