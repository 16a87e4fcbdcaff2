use Rattle.std.proofs.Common.{◌≡◌, ◌∙◌, ◌-◌, ap, arith, get_or, length, subst}
use Rattle.std.specs.Prelude.{IsSomeAnd, slice_get}
use Rattle.plan_facts.specs.Plan.{ClassView, missing_in}
use Rattle.plan_facts.specs.declared.record.Raw.{Raw}
use Rattle.plan_facts.proofs.Back.{stands_at}
use Rattle.plan_facts.proofs.Places.{of_record}
use Rattle.plan_facts.proofs.table.Table.last_missing.Goals as goal

pub returns : goal.returns
returns c =
    let facts = c.self.inside.facts.items in
    let nullables = c.self.inside.nullables in
    let last = c.index-last.result.now in
    let count : c.len.result ≡ length facts = (let len = c.len.ensures in omega (arith, c.self.inside.facts.ok.0)) in
    let some = rw (← c.self.view_is) at c.requires in
    let there = stands_at facts (length facts - 1) last (omega (arith, some)) (c.index-last.ensures ∙ ap (λ n. get_or facts (n - 1) last) count) in
    let counted = c.count_missing.ensures ∙ (λ i. missing_in (c.as_slice.ensures i) (c.as_slice-2.ensures i)) in
    subst (λ (v : ClassView). IsSomeAnd (slice_get v.facts (length v.facts - 1)) (λ raw. c.count_missing.result ≡ missing_in v.nullables raw.values)) c.self.view_is
    (of_record (λ (raw : Raw). c.count_missing.result ≡ missing_in nullables raw.values) there counted)
