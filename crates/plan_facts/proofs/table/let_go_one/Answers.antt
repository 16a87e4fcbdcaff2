use Rattle.std.proofs.Common.{◌≡◌, ◌∙◌, ℕ, Option, None, List, length, get_or, set, ap}
use Rattle.plan_facts.specs.declared.record.Raw.{Raw}
use Rattle.plan_facts.specs.PlanChanges.{let_go}
use Rattle.plan_facts.proofs.Gone.{zip_over, zip_over_all}
use Rattle.plan_facts.proofs.table.let_go_one.Goals as goal

pub loop-var-preserved : goal.loop-var-preserved
loop-var-preserved c =
    let same : length c.as_mut_slice-values.result.now ≡ length c.args.ranges.now = ap (λ (values : List (Option ℕ)). length values) c.as_mut_slice-values.ensures.value ∙ c.requires in
    let step = zip_over (λ (pair : ℕ × Option ℕ). let_go c.args.class c.args.id pair.0 pair.1) c.args.ranges.now c.as_mut_slice-values.result.now c.loop-var.values c.loop-var.var 0 None c.loop-var-test.true same c.loop-var.invariant in
    ap (set c.loop-var.values c.loop-var.var) (c.held_after.ensures ∙ ap (let_go c.args.class c.args.id (get_or c.args.ranges.now c.loop-var.var 0)) step.0) ∙ step.1

pub returns : goal.returns
returns c =
    let all = zip_over_all (λ (pair : ℕ × Option ℕ). let_go c.args.class c.args.id pair.0 pair.1) c.args.ranges.now c.args.raw.now.values c.loop-var.values c.loop-var.var c.loop-var-test.false c.requires (rw c.as_mut_slice-values.ensures.value at c.loop-var.invariant) in
    ap (λ (values : List (Option ℕ)). let raw : Raw = record { id = c.args.raw.now.id; fields = c.args.raw.now.fields; values = values; pinned = c.args.raw.now.pinned } in raw) all
