use Rattle.std.proofs.Common.{◌≡◌, ◌∙◌, ◌++◌, ◌∷◌, [], List, ap, arith, length, refl, subst, sym}
use Rattle.std.proofs.lemmas.List.{length_push}
use Rattle.plan_facts.specs.Plan.{AreIncreasing, ClassView, ids_in}
use Rattle.plan_facts.specs.PlanBack.{record_like, with_records}
use Rattle.plan_facts.specs.declared.record.Raw.{Raw}
use Rattle.plan_facts.proofs.Places.{ids_in-changed}
use Rattle.plan_facts.proofs.PutBack.{last_record}
use Rattle.plan_facts.proofs.table.putting.put_records.Goals as goal

pub records-preserved : goal.records-preserved
records-preserved c =
    let table = c.records.table in
    let raw = c.in-Some.raw in
    let last : c.records.records ≡ c.pop.new.self ++ raw ∷ [] = c.in-Some.ensures.last in
    record {
      increasing = subst AreIncreasing (sym (ap (λ (view : ClassView). ids_in view.facts) c.put.ensures ∙ ids_in-changed table.facts raw.id (record_like raw) (λ r. refl))) c.records.invariant.increasing;
      goes_on = ap (λ (view : ClassView). with_records view c.pop.new.self) c.put.ensures ∙ sym (last_record table c.pop.new.self raw) ∙ ap (with_records table) (sym last) ∙ c.records.invariant.goes_on;
    }

pub records-smaller : goal.records-smaller
records-smaller c =
    let last = ap (λ (raws : List Raw). length raws) c.in-Some.ensures.last in
    let more = length_push c.pop.new.self c.in-Some.raw in
    omega arith

pub returns : goal.returns
returns c = ap (with_records c.records.table) (sym c.in_default.ensures.none) ∙ c.records.invariant.goes_on
