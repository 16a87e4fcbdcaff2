use Rattle.std.proofs.Common.{◌≡◌, length}
use Rattle.plan_words.specs.Sorted.{sorted_words}
use Rattle.plan_words.specs.Adding.{with_words}
use Rattle.plan_words.proofs.line.Line.of.Given as goal

-- what is sorted out and the words that are left make what all words make
abbrev pub invariant-loop-word : goal.invariant-loop-word
invariant-loop-word l = with_words l.line l.rest ≡ sorted_words l.fn.words

abbrev pub decreases-loop-word : goal.decreases-loop-word
decreases-loop-word l = length l.rest
