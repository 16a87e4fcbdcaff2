use Rattle.std.proofs.Common.{◌≡◌, ◌∙◌, false, Option, ap, is_some, sym}
use Rattle.plan_facts.specs.Plan.{record_with_id}
use Rattle.plan_facts.specs.PlanBack.{record_like}
use Rattle.plan_facts.specs.declared.record.Raw.{Raw}
use Rattle.plan_facts.proofs.Back.{with_facts}
use Rattle.plan_facts.proofs.PutBack.{absent_unchanged, copied_some}
use Rattle.plan_facts.proofs.table.Table.put.Goals as goal

pub returns-else-is_some : goal.returns-else-is_some
returns-else-is_some c =
    let view = c.args.self.now in
    let none : is_some (record_with_id c.args.raw.id view.facts) ≡ false = ap (λ (o : Option Raw). is_some o) (sym c.get.ensures) ∙ copied_some c.get.result ∙ sym c.is_some.ensures ∙ c.if-is_some.false in
    ap (with_facts view) (sym (absent_unchanged view.facts c.args.raw.id (record_like c.args.raw) none))
