use Rattle.std.proofs.Common.{◌∙◌, sym, ap, arith, List}
use Rattle.plan_facts.specs.Plan.{PlanView, ClassView, plan_with, unplaced_of}
use Rattle.plan_facts.specs.PlanChanges.{without_fact}
use Rattle.plan_facts.proofs.Removed.{WasRemoved, was_removed, live_class}
use Rattle.plan_facts.proofs.plan.Plan.remove.Goals as goal

pub let_go_in-requires : goal.let_go_in-requires
let_go_in-requires c = (was_removed (plan_with c.self.inside.tables.items c.self.inside.made) c.args.class c.args.id c.index_mut-table.result.now c.remove.new.self (live_class (plan_with c.self.inside.tables.items c.self.inside.made) c.args.class c.args.id (rw (← c.self.view_is) at (sym c.if-not-is_live.ensures))) c.self.invariant.0 c.index_mut-table.ensures.value c.remove.ensures).counted

pub count_all_missing-self-inside-requires : goal.count_all_missing-self-inside-requires
count_all_missing-self-inside-requires c =
    let w = was_removed (plan_with c.self.inside.tables.items c.self.inside.made) c.args.class c.args.id c.index_mut-table.result.now c.remove.new.self (live_class (plan_with c.self.inside.tables.items c.self.inside.made) c.args.class c.args.id (rw (← c.self.view_is) at (sym c.if-not-is_live.ensures))) c.self.invariant.0 c.index_mut-table.ensures.value c.remove.ensures in
    let same = ap (λ (tables : List ClassView). unplaced_of (plan_with tables 0)) (c.deref.ensures.value ∙ c.let_go_in.ensures) in
    omega (arith, w.few)

after : (c : goal.After-self-2-1) → WasRemoved (plan_with c.self.inside.tables.items c.self.inside.made) c.args.class c.args.id c.remove.new.self
after c = was_removed (plan_with c.self.inside.tables.items c.self.inside.made) c.args.class c.args.id c.index_mut-table.result.now c.remove.new.self (live_class (plan_with c.self.inside.tables.items c.self.inside.made) c.args.class c.args.id (rw (← c.self.view_is) at (sym c.if-not-is_live.ensures))) c.self.invariant.0 c.index_mut-table.ensures.value c.remove.ensures

pub invariant_of-self : goal.invariant_of-self
invariant_of-self c =
    (rw c.let_go_in.ensures (after c).sound, c.count_all_missing-self-inside.ensures ∙ ap (λ (tables : List ClassView). unplaced_of (plan_with tables 0)) c.deref.ensures.value)

pub returns-clause-removed : goal.returns-clause-removed
returns-clause-removed c =
    ap (λ (tables : List ClassView). plan_with tables c.self.inside.made) c.let_go_in.ensures ∙ (after c).is ∙ ap (λ (plan : PlanView). without_fact plan c.args.class c.args.id) c.self.view_is

pub returns-clause-sound : goal.returns-clause-sound
returns-clause-sound c = rw c.let_go_in.ensures (after c).sound
