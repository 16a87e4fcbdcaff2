use Rattle.std.proofs.Common.{◌≡◌, ◌∙◌, ap, refl, sym, subst, List, map, set, Some}
use Rattle.plan_facts.specs.Plan.{ClassView, ids_in, record_with_id, view_of}
use Rattle.plan_facts.specs.PlanChanges.{with_record}
use Rattle.plan_facts.specs.PlanBack.{record_like}
use Rattle.plan_facts.specs.declared.record.Raw.{Raw}
use Rattle.plan_facts.proofs.Back.{put_here, put_raw}
use Rattle.plan_facts.proofs.Places.{ids_in-changed, record_read}
use Rattle.plan_facts.proofs.table.Table.replace.Goals as goal

changed : (c : goal.After-self-1) → set c.self.inside.facts.items c.in-Some.place c.replace.new.dest ≡ map (put_raw c.args.raw) c.self.inside.facts.items
changed c =
    ap (set c.self.inside.facts.items c.in-Some.place) c.replace.ensures.after
    ∙ put_here c.self.inside.facts.items c.in-Some.place c.args.raw c.index_mut-record.result.now (rw (← c.self.view_is) at c.requires.increasing) (rw (← c.self.view_is) at c.in-Some.ensures) c.index_mut-record.ensures.value

pub invariant_of-self : goal.invariant_of-self
invariant_of-self c = c.self.invariant ∙ sym (ap ids_in (changed c) ∙ ids_in-changed _ _ _ (λ raw. refl))

pub returns-clause-was : goal.returns-clause-was
returns-clause-was c =
    let read = record_read c.self.inside.facts.items c.args.raw.id c.in-Some.place c.index_mut-record.result.now (rw (← c.self.view_is) at c.requires.increasing) (rw (← c.self.view_is) at c.in-Some.ensures) c.index_mut-record.ensures.value in
    subst (λ (v : ClassView). record_with_id c.args.raw.id v.facts ≡ Some c.replace.result) c.self.view_is (read ∙ ap (λ (r : Raw). Some r) (sym c.replace.ensures.value))

pub returns-clause-now : goal.returns-clause-now
returns-clause-now c =
    ap (λ (facts : List Raw). view_of c.self.inside.fields c.self.inside.ranges c.self.inside.nullables facts c.self.inside.greatest) (changed c) ∙ ap (λ (v : ClassView). with_record v c.args.raw.id (record_like c.args.raw)) c.self.view_is
