-- The words of a command in one order, as they are handed to the parser.
use Rattle.std.specs.Prelude.{List, [], ◌∷◌, ◌++◌, codes, Option, Some, None}
use Rattle.plan_words.specs.Items.{Word}
use Rattle.plan_words.specs.Sorted.{Sorted}

-- an option with its value behind it in one word, or nothing
abbrev pub option_words : Word → Option Word → List Word
option_words name None = []
option_words name (Some value) = (name ++ value) ∷ []

-- the first word, the options in one order, and the positional words behind two dashes
abbrev pub canonical : Word → Sorted → List Word
canonical first s =
    first ∷ (option_words (codes "--feed=") s.feed ++ (option_words (codes "--journal=") s.journal
    ++ (option_words (codes "--workers=") s.workers ++ (option_words (codes "--buffer=") s.buffer
    ++ (codes "--" ∷ s.positional)))))
