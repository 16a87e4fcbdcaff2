use Rattle.std.proofs.Common.{◌∙◌, ap, Bool, false, Option, unwrap_or}
use Rattle.std.proofs.lemmas.Option.{unwrap_or-slice_get}
use Rattle.plan_facts.proofs.table.Table.is_nullable.Goals as goal

pub returns-in-None : goal.returns-in-None
returns-in-None c =
    rw (← c.self.view_is) (ap (λ (o : Option Bool). unwrap_or o false) c.in-None.ensures ∙ unwrap_or-slice_get c.self.inside.nullables c.args.var false)
