-- Numbers from 0 to 63 that are kept as a word.
use Rattle.std.specs.Prelude.{◌≡◌, ℤ, true, List}
use Rattle.stream_group.specs.declared.tally.Tally.{Tally}
use Rattle.stream_group.specs.declared.words.Word.{Word}
use Rattle.stream_group.specs.Collected.{counts_different}
use Rattle.stream_group.specs.Tally.{TalliesMore}

-- a tally with the bits of a word, and with what was made as the word says
abbrev pub with_word : Tally → Word → Tally
with_word tally word = record {
  collect = tally.collect;
  made = word.made;
  noted = record { small = word.bits; few = tally.noted.few; more = tally.noted.more };
}

-- where a tally of different numbers has the one word, it took these besides once it has the other
abbrev pub WordTakes : Word → Word → List ℤ → Type 0
WordTakes old new more = (tally : Tally) → counts_different tally.collect ≡ true
    → TalliesMore (with_word tally old) (with_word tally new) more
