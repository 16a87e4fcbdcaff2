use Rattle.std.proofs.Common.{◌≡◌, ◌∙◌, ◌==◌, false, ℕ, List, ap, sym}
use Rattle.std.specs.List.{list_any}
use Rattle.plan_facts.specs.declared.record.Raw.{Raw}
use Rattle.plan_facts.specs.Plan.{ids_in, view_of}
use Rattle.plan_facts.specs.PlanChanges.{class_let_go}
use Rattle.plan_facts.proofs.Gone.{ids_in-let_go}
use Rattle.plan_facts.proofs.Spared.{let_go_none}
use Rattle.plan_facts.proofs.table.Table.let_go.Goals as goal

pub invariant_of-self : goal.invariant_of-self
invariant_of-self c = c.self.invariant ∙ sym (ap ids_in c.let_go_all.ensures ∙ ids_in-let_go _ _ _ _)

pub returns-else-contains : goal.returns-else-contains
returns-else-contains c =
    let ranges = c.self.inside.ranges in
    let facts = c.self.inside.facts.items in
    let none : list_any (λ range. range == c.args.class) ranges ≡ false = ap (list_any (λ (range : ℕ). range == c.args.class)) (sym c.as_slice-ranges.ensures) ∙ sym c.contains.ensures.value ∙ c.if-contains.false in
    let same = let_go_none c.args.class c.args.id ranges facts (rw (← c.self.view_is) at c.requires) none in
    sym c.self.view_is
    ∙ sym (ap (λ (now : List Raw). view_of c.self.inside.fields ranges c.self.inside.nullables now c.self.inside.greatest) same)
    ∙ ap (class_let_go c.args.class c.args.id) c.self.view_is
