use Rattle.std.proofs.Common.{◌≡◌, ◌<◌, ◌∙◌, ap, sym, List, SFits, w64, length, set, map, cond, ◌==◌, refl, rules}
use Rattle.std.proofs.lemmas.Int.{to_z-of_z}
use Rattle.plan_facts.specs.Plan.{ClassView, ids_in}
use Rattle.plan_facts.specs.PlanChanges.{with_record}
use Rattle.plan_facts.specs.declared.record.Raw.{Raw}
use Rattle.plan_facts.proofs.Places.{record_read, changed_here, ids_in-changed, at_record}
use Rattle.plan_facts.proofs.table.Table.set_field.Goals as goal

pub set_number-requires : goal.set_number-requires
set_number-requires c =
    let read = record_read _ _ _ _ (rw (← c.self.view_is) at c.requires.increasing) (rw (← c.self.view_is) at c.in-Some.ensures) c.index_mut-raw.ensures.value in
    at_record (λ raw. c.args.field < length raw.fields) read (rw (← c.self.view_is) at c.requires.there)

changed : (c : goal.After-self-1) → set c.self.inside.facts.items c.in-Some.place c.set_number.new.raw ≡ map (λ raw. cond (raw.id == c.args.id) (record raw { fields = set raw.fields c.args.field c.args.number }) raw) c.self.inside.facts.items
changed c =
    let change = λ (raw : Raw). let r : Raw = record raw { fields = set raw.fields c.args.field c.args.number } in r in
    let is : c.set_number.new.raw ≡ change c.index_mut-raw.result.now = (let fits : SFits w64 c.args.number = search rules in rw (to_z-of_z) at c.set_number.ensures) in
    changed_here _ c.args.id _ change _ _ (rw (← c.self.view_is) at c.requires.increasing) (rw (← c.self.view_is) at c.in-Some.ensures) c.index_mut-raw.ensures.value is

pub invariant_of-self : goal.invariant_of-self
invariant_of-self c = c.self.invariant ∙ sym (ap ids_in (changed c) ∙ ids_in-changed _ _ _ (λ raw. refl))

pub returns : goal.returns
returns c = ap (λ (facts : List Raw). let v : ClassView = record { fields = c.self.inside.fields; ranges = c.self.inside.ranges; nullables = c.self.inside.nullables; facts = facts; greatest = c.self.inside.greatest } in v) (changed c) ∙ ap (λ v. with_record v c.args.id (λ raw. record raw { fields = set raw.fields c.args.field c.args.number })) c.self.view_is
