use Rattle.std.proofs.Common.{◌∙◌}
use Rattle.score_director.proofs.Led.{totals_are}
use Rattle.score_director.proofs.network.score_known.Goals as goal

pub score_by_totals-requires-clause-totals : goal.score_by_totals-requires-clause-totals
score_by_totals-requires-clause-totals g c κs within =
    c.deref.ensures.value ∙ c.in_ok-weights.ensures ∙ totals_are g.B.Book.meaning c.args.rules.now.defs c.args.plan.now c.args.net.now c.requires.network
