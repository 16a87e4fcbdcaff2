use Rattle.std.proofs.Common.{◌≡◌, ◌∙◌, ℕ, ℤ, List, Option, Some, None, inl, inr, map, sym, ap}
use Rattle.plan_facts.specs.PlanFaults.{add_fault}
use Rattle.plan_changes.specs.Named.{value_given}
use Rattle.plan_changes.specs.Performed.{number_given}
use Rattle.plan_changes.specs.Ready.{ReadyView}
use Rattle.plan_changes.proofs.Accepted.{new_fact_passes}
use Rattle.plan_changes.proofs.ready.Ready.add.Goals as goal

pub want_of-requires : goal.want_of-requires
want_of-requires c =
    let self = c.args.self.now in
    let plan = c.args.plan.now in
    let names = c.args.names.now in
    let class = ap (λ (r : ReadyView). r.class) c.self.view_is in
    let fields = c.in_ok-fields.ensures ∙ ap (map (number_given names)) (c.as_slice.ensures ∙ ap (λ (r : ReadyView). r.fields) c.self.view_is) in
    let values = c.in_ok-values.ensures ∙ ap (map value_given) (c.as_slice-2.ensures ∙ ap (λ (r : ReadyView). r.values) c.self.view_is) in
    let none = ap (λ n. add_fault plan n c.in_ok-fields.fields c.in_ok-values.values) class
    ∙ ap (λ (fs : List ℤ). add_fault plan self.class fs c.in_ok-values.values) fields
    ∙ ap (λ (vs : List (Option ℕ)). add_fault plan self.class (map (number_given names) self.fields) vs) values
    ∙ new_fact_passes self plan names c.requires.few c.requires.fits c.requires.next in
    elim c.in-Err.ensures.err [
      | inl is ↦ is
      | inr bad ↦ absurd (let e : None ≡ Some c.in-Err.fault = sym none ∙ bad in cc)
    ]
