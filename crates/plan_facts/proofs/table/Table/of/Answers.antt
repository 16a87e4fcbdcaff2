use Rattle.std.proofs.Common.{◌≡◌, ◌∙◌, List, ap, subst, rules, fold, max, IsPermutation}
use Rattle.std.proofs.lemmas.List.Sorted.{IsNonDecreasingBy-from_sort_by_key}
use Rattle.plan_facts.specs.declared.record.Raw.{Raw}
use Rattle.plan_facts.specs.Plan.{ids_in}
use Rattle.plan_facts.specs.PlanFaults.{by_id}
use Rattle.plan_facts.proofs.ById.{sorted_by_id}
use Rattle.plan_facts.proofs.table.Table.of.Goals as goal

pub returns : goal.returns
returns c =
    let facts = c.sort_unstable_by_key.new.self.items in
    let ids : c.in_ok-ids.ids.items ≡ ids_in facts = search rules in
    let sorted = IsNonDecreasingBy-from_sort_by_key (λ (raw : Raw). raw.id) facts c.sort_unstable_by_key.ensures.sorted (λ a r q k. search rules) in
    let moved = subst (λ (raws : List Raw). IsPermutation raws facts) c.into_items-facts.ensures c.sort_unstable_by_key.ensures.permutation in
    let is : facts ≡ by_id c.args.raws = sorted_by_id c.args.raws facts c.requires moved sorted in
    let greatest : c.greatest_of-greatest.result ≡ fold max 0 (ids_in (by_id c.args.raws)) = c.greatest_of-greatest.ensures ∙ ap (fold max 0) (c.deref-2.ensures.value ∙ ids ∙ ap ids_in is) in
    λ i. record { fields = c.args.fields; ranges = c.args.ranges; nullables = c.args.nullables; facts = is i; greatest = greatest i }
