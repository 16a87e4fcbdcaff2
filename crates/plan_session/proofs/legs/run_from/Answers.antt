use Rattle.std.proofs.Common.{◌∙◌, ap}
use Rattle.plan_settings.specs.declared.settings.Settings.{Settings}
use Rattle.move_workers.specs.Teams.{TeamView}
use Rattle.plan_session.proofs.LegLaws.{opened_live}
use Rattle.plan_session.proofs.legs.run_from.Goals as goal

pub returns-clause-live : goal.returns-clause-live
returns-clause-live g c = λ makers posed k leg by fresh opened.
    opened_live g.B.Book.meaning posed k leg c.args.core c.args.director c.args.names c.in_ok-team.team.worker c.begin-best.result c.score.result
    by.means fresh opened
    (ap (λ (t : TeamView). t.worker) c.in_ok-team.ensures
    ∙ (λ i. record { director = c.args.director; seed = ap (λ (s : Settings). s.seed) by.settings_are i }))
    c.score.ensures c.begin-best.ensures.score c.begin-best.ensures.back c.begin-best.ensures.wins
