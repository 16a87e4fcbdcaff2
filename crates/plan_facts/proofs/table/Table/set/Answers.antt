use Rattle.std.proofs.Common.{◌≡◌, ◌<◌, ◌∙◌, ap, sym, List, length, set, map, cond, ◌==◌, refl, get_or, Some}
use Rattle.plan_facts.specs.Plan.{ClassView, ids_in, record_with_id}
use Rattle.plan_facts.specs.PlanChanges.{with_record}
use Rattle.plan_facts.specs.declared.record.Raw.{Raw}
use Rattle.plan_facts.proofs.Places.{record_read, changed_here, ids_in-changed, at_record, of_record}
use Rattle.plan_facts.proofs.table.Table.set.Goals as goal

read : (c : goal.After-index_mut-raw) → record_with_id c.args.id c.self.inside.facts.items ≡ Some c.index_mut-raw.result.now
read c = record_read _ _ _ _ (rw (← c.self.view_is) at c.requires.increasing) (rw (← c.self.view_is) at c.in-Some.ensures) c.index_mut-raw.ensures.value

pub set_value-requires : goal.set_value-requires
set_value-requires c = at_record (λ raw. c.args.var < length raw.values) (read c) (rw (← c.self.view_is) at c.requires.there)

changed : (c : goal.After-self-1) → set c.self.inside.facts.items c.in-Some.place c.set_value.new.raw ≡ map (λ raw. cond (raw.id == c.args.id) (record raw { values = set raw.values c.args.var c.args.value }) raw) c.self.inside.facts.items
changed c =
    let change = λ (raw : Raw). let r : Raw = record raw { values = set raw.values c.args.var c.args.value } in r in
    changed_here _ c.args.id _ change _ _ (rw (← c.self.view_is) at c.requires.increasing) (rw (← c.self.view_is) at c.in-Some.ensures) c.index_mut-raw.ensures.value c.set_value.ensures.now

pub invariant_of-self : goal.invariant_of-self
invariant_of-self c = c.self.invariant ∙ sym (ap ids_in (changed c) ∙ ids_in-changed _ _ _ (λ raw. refl))

pub returns-clause-held : goal.returns-clause-held
returns-clause-held c =
    let read = record_read _ _ _ _ (rw (← c.self.view_is) at c.requires.increasing) (rw (← c.self.view_is) at c.in-Some.ensures) c.index_mut-raw.ensures.value in
    rw (← c.self.view_is) (of_record (λ raw. c.set_value.result ≡ get_or raw.values c.args.var c.set_value.result) read c.set_value.ensures.held)

pub returns-clause-now : goal.returns-clause-now
returns-clause-now c =
    ap (λ (facts : List Raw). let v : ClassView = record { fields = c.self.inside.fields; ranges = c.self.inside.ranges; nullables = c.self.inside.nullables; facts = facts; greatest = c.self.inside.greatest } in v) (changed c)
    ∙ ap (λ v. with_record v c.args.id (λ raw. record raw { values = set raw.values c.args.var c.args.value })) c.self.view_is
