use Rattle.std.proofs.Common.{◌≡◌, ◌<◌, ◌∙◌, List, ap, arith, get_or, length, set, subst, sym}
use Rattle.std.proofs.lemmas.List.{length-set, length_push}
use Rattle.std.proofs.lemmas.List.Elements.{All-set}
use Rattle.plan_facts.specs.Plan.{AreIncreasing, ClassView, ids_in}
use Rattle.plan_facts.specs.PlanBack.{classes_put, with_records}
use Rattle.plan_facts.specs.declared.record.Raw.{Raw}
use Rattle.plan_facts.proofs.PutBack.{classes_none, ids_in-put, last_class_put}
use Rattle.plan_facts.proofs.plan.putting.put_all.Goals as goal
use Rattle.plan_facts.proofs.plan.putting.put_all.Goals.{After-put_records}

fewer : (c : After-put_records) → length c.pop.new.self < length c.classes.tables.items
fewer c =
    let last = ap (λ (held : List (List Raw)). length held) c.in-Some.ensures.last in
    let more = length_push c.pop.new.self c.in-Some.records in
    let few = c.classes.invariant.few in
    omega arith

pub classes-preserved : goal.classes-preserved
classes-preserved c =
    let P : ClassView → Type 0 = λ (view : ClassView). AreIncreasing (ids_in view.facts) in
    let tables = c.classes.tables.items in
    let held = c.pop.new.self in
    let raws = c.in-Some.records in
    let k = c.len.result in
    let table = c.index_mut.result.now in
    let within : k < length tables = (let at = c.len.ensures in let few = fewer (goal.at.classes-preserved c).After-put_records in omega arith) in
    let own : P table = subst P (sym c.index_mut.ensures.value) (c.classes.invariant.increasing k table within) in
    let put : P c.put_records.new.table = subst AreIncreasing (sym (ap (λ (view : ClassView). ids_in view.facts) c.put_records.ensures ∙ ids_in-put table.facts raws)) own in
    let new : c.put_records.new.table ≡ with_records (get_or tables k table) raws = c.put_records.ensures ∙ ap (λ (view : ClassView). with_records view raws) c.index_mut.ensures.value in
    record {
      few = (let count = length-set tables k c.put_records.new.table in let few = fewer (goal.at.classes-preserved c).After-put_records in omega arith);
      increasing = All-set P tables k c.put_records.new.table put c.classes.invariant.increasing;
      goes_on = ap (λ (view : ClassView). classes_put (set tables k view) held) new
          ∙ ap (λ n. classes_put (set tables n (with_records (get_or tables n table) raws)) held) c.len.ensures
          ∙ sym (last_class_put tables held raws table (fewer (goal.at.classes-preserved c).After-put_records))
          ∙ ap (classes_put tables) (sym c.in-Some.ensures.last) ∙ c.classes.invariant.goes_on;
    }

pub returns : goal.returns
returns c = sym (classes_none c.classes.tables.items) ∙ ap (classes_put c.classes.tables.items) (sym c.in_default.ensures.none) ∙ c.classes.invariant.goes_on
