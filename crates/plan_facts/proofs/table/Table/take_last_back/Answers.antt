use Rattle.std.proofs.Common.{◌≡◌, ◌∙◌, ◌-◌, ℕ, ap, arith, sym, List, length, take}
use Rattle.std.proofs.lemmas.List.{take-map}
use Rattle.plan_facts.specs.Plan.{ids_in, view_of}
use Rattle.plan_facts.specs.PlanBack.{without_last}
use Rattle.plan_facts.specs.declared.record.Raw.{Raw}
use Rattle.plan_facts.proofs.table.Table.take_last_back.Goals as goal

pub invariant_of-self : goal.invariant_of-self
invariant_of-self c =
    let rest = c.len-rest.result - 1 in
    c.truncate.ensures.items
    ∙ ap (λ (ids : List ℕ). take rest ids) c.self.invariant
    ∙ take-map (λ (raw : Raw). raw.id) rest c.self.inside.facts.items
    ∙ sym (ap ids_in c.truncate-2.ensures.items)

pub returns : goal.returns
returns c =
    let facts = c.self.inside.facts.items in
    let count : c.len-rest.result ≡ length facts = (let len = c.len-rest.ensures in omega (arith, c.self.inside.facts.ok.0)) in
    ap (λ (now : List Raw). view_of c.self.inside.fields c.self.inside.ranges c.self.inside.nullables now (c.self.inside.greatest - 1)) (c.truncate-2.ensures.items ∙ ap (λ n. take (n - 1) facts) count)
    ∙ ap without_last c.self.view_is
