use Rattle.std.proofs.Common.{◌∙◌, ℕ, List, ap, sym}
use Rattle.std.specs.List.{insert}
use Rattle.plan_facts.specs.Plan.{ids_in}
use Rattle.plan_facts.proofs.PutBack.{ids_in-insert}
use Rattle.plan_facts.proofs.table.Table.put_back.Goals as goal

pub invariant_of-self : goal.invariant_of-self
invariant_of-self c =
    c.insert_id.ensures
    ∙ ap (λ (ids : List ℕ). insert ids c.count_lower-place.result c.args.raw.id) c.self.invariant
    ∙ ids_in-insert c.self.inside.facts.items c.count_lower-place.result c.args.raw
    ∙ sym (ap ids_in c.insert_record.ensures)
