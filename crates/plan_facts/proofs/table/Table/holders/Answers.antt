use Rattle.std.proofs.Common.{◌≡◌, ◌∙◌, ◌==◌, false, ℕ, ap, sym}
use Rattle.std.specs.List.{list_any}
use Rattle.plan_facts.specs.PlanBack.{holders_in}
use Rattle.plan_facts.proofs.Spared.{no_holders}
use Rattle.plan_facts.proofs.table.Table.holders.Goals as goal

pub returns-then-not-contains : goal.returns-then-not-contains
returns-then-not-contains c =
    let ranges = c.self.inside.ranges in
    let none : list_any (λ range. range == c.args.class) ranges ≡ false = ap (list_any (λ (range : ℕ). range == c.args.class)) (sym c.as_slice-ranges.ensures) ∙ sym c.contains.ensures.value ∙ c.if-not-contains.true in
    c.new-held.ensures ∙ sym (no_holders c.args.class c.args.id ranges c.self.inside.facts.items none) ∙ ap (holders_in c.args.class c.args.id) c.self.view_is
