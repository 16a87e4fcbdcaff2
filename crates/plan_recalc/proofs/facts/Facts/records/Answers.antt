use Rattle.plan_recalc.proofs.Found.{facts_past}
use Rattle.plan_recalc.proofs.facts.Facts.records.Goals as goal

pub returns-in-None : goal.returns-in-None
returns-in-None c = rw (← c.self.view_is) (facts_past c.self.inside.classes c.args.class c.in-None.ensures)
