use Rattle.std.proofs.Common.{◌∙◌, sym, ap}
use Rattle.score_director.specs.View.{DirectorView, score_seen}
use Rattle.construction.proofs.Standing.{judged_idle}
use Rattle.construction.proofs.judge.score_after.Goals as goal

pub returns-in-None-clause-score : goal.returns-in-None-clause-score
returns-in-None-clause-score g c =
    c.score.ensures ∙ ap (λ (d : DirectorView). score_seen g.B.Book.meaning d) c.judge.ensures.same
    ∙ judged_idle g.B.Book.meaning c.args.director.now c.args.edit.now c.requires.plan c.requires.legal (sym c.in-None.is ∙ c.in_ok-score.ensures.score)
