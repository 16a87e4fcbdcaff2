use Rattle.std.proofs.Common.{◌∙◌, ap, sym, rules, SFits, w64}
use Rattle.std.proofs.lemmas.Int.{to_z-of_z}
use Rattle.plan_facts.specs.Plan.{PlanView, plan_with}
use Rattle.plan_facts.specs.PlanChanges.{with_field}
use Rattle.plan_facts.proofs.Changed.{WasSetField, was_set_field}
use Rattle.plan_facts.proofs.plan.Plan.set_field.Goals as goal

after : (c : goal.After-self-1) → WasSetField (plan_with c.self.inside.tables.items c.self.inside.made) c.args.class c.args.id c.args.field c.args.number c.set_field.new.self
after c =
    was_set_field (plan_with c.self.inside.tables.items c.self.inside.made) c.args.class c.args.id c.args.field c.args.number c.index_mut-table.result.now c.set_field.new.self c.self.invariant.0 c.index_mut-table.ensures.value (rw (← c.self.view_is) at c.requires.there) c.requires.number (let fits : SFits w64 c.args.number = search rules in simp to_z-of_z at c.set_field.ensures)

pub invariant_of-self : goal.invariant_of-self
invariant_of-self c = ((after c).sound, c.self.invariant.1 ∙ sym (after c).counts)

pub returns-clause-now : goal.returns-clause-now
returns-clause-now c =
    (after c).is ∙ ap (λ (plan : PlanView). with_field plan c.args.class c.args.id c.args.field c.args.number) c.self.view_is

pub returns-clause-sound : goal.returns-clause-sound
returns-clause-sound c = (after c).sound
