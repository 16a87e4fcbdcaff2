use Rattle.std.proofs.Common.{subst}
use Rattle.std.specs.Prelude.{OnOk}
use Rattle.score_director.specs.Net.{NetView}
use Rattle.score_director.specs.NetState.{Foresees}
use Rattle.score_director.proofs.net.Net.judge.Goals as goal

pub returns-clause-foresees : goal.returns-clause-foresees
returns-clause-foresees g c =
    subst (λ (v : NetView). OnOk c.foresee_totals-noted.result (Foresees g.B.Book.meaning c.args.rules.now.defs v.heads.now v.rules c.args.keys.now c.args.plan.now c.foresee_totals-noted.new.totals.items)) c.self.view_is
    c.foresee_totals-noted.ensures.foresees
