use Rattle.std.proofs.Common.{ap, ◌∙◌}
use Rattle.plan_words.specs.Adding.{with_words}
use Rattle.plan_words.proofs.SortLemmas.{with_words-nothing}
use Rattle.plan_words.proofs.line.Line.of.Goals as goal

pub loop-word-init : goal.loop-word-init
loop-word-init c = ap (λ line. with_words line c.args.words.now) c.empty-line.ensures ∙ with_words-nothing c.args.words.now
