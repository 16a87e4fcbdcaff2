use Rattle.std.proofs.Common.{sym}
use Rattle.plan_facts.proofs.Places.{record_read}
use Rattle.plan_facts.proofs.table.Table.get.Goals as goal

pub returns-in-Some : goal.returns-in-Some
returns-in-Some c =
    rw (← c.self.view_is) (sym (record_read _ _ _ _ (rw (← c.self.view_is) at c.requires) (rw (← c.self.view_is) at c.in-Some.ensures) c.index.ensures))
