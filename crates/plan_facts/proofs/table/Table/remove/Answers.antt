use Rattle.std.proofs.Common.{◌∙◌, ap, sym, List, ℕ}
use Rattle.std.specs.List.{remove}
use Rattle.plan_facts.specs.Plan.{ClassView, ids_in}
use Rattle.plan_facts.specs.PlanChanges.{without_record}
use Rattle.plan_facts.specs.declared.record.Raw.{Raw}
use Rattle.plan_facts.proofs.Gone.{removed_at, ids_in-remove}
use Rattle.plan_facts.proofs.table.Table.remove.Goals as goal

pub invariant_of-self : goal.invariant_of-self
invariant_of-self c =
    c.remove.ensures.items ∙ ap (λ (ids : List ℕ). remove ids c.in-Some.place) c.self.invariant ∙ sym (ids_in-remove _ c.in-Some.place) ∙ sym (ap ids_in c.remove-in-Some.ensures.items)

pub returns : goal.returns
returns c =
    let here = rw (← c.self.view_is) at c.in-Some.ensures in
    let facts = c.remove-in-Some.ensures.items ∙ removed_at c.self.inside.facts.items c.in-Some.place c.args.id (rw (← c.self.view_is) at c.requires.increasing) here.0 here.1 in
    ap (λ (f : List Raw). let v : ClassView = record { fields = c.self.inside.fields; ranges = c.self.inside.ranges; nullables = c.self.inside.nullables; facts = f; greatest = c.self.inside.greatest } in v) facts ∙ ap (λ (v : ClassView). without_record v c.args.id) c.self.view_is
