use Rattle.std.proofs.Common.{◌≡◌, ◌∙◌, ℕ, List, Option, ap, arith, false, length, subst, sym, true, zip}
use Rattle.std.specs.List.{list_any}
use Rattle.plan_facts.specs.PlanBack.{holds}
use Rattle.plan_facts.proofs.Spared.{held_nowhere, held_somewhere}
use Rattle.plan_facts.proofs.table.putting.is_holder.Goals as goal

pub returns-then-is_held : goal.returns-then-is_held
returns-then-is_held c =
    let ranges = c.args.ranges.now in
    let values = c.as_slice-values.result.now in
    let long = ap (λ (vs : List (Option ℕ)). length vs) c.as_slice-values.ensures in
    let same = c.requires in
    let found = held_somewhere c.args.class c.args.id ranges values c.loop-var.var (omega arith) (omega arith) (sym c.is_held.ensures ∙ c.if-is_held.true) in
    sym (subst (λ (vs : List (Option ℕ)). list_any (λ pair. holds c.args.class c.args.id pair.0 pair.1) (zip ranges vs) ≡ true) c.as_slice-values.ensures found)

pub returns : goal.returns
returns c =
    let ranges = c.args.ranges.now in
    let values = c.as_slice-values.result.now in
    let none = held_nowhere c.args.class c.args.id ranges values (λ var within. c.loop-var.invariant var (omega arith)) in
    sym (subst (λ (vs : List (Option ℕ)). list_any (λ pair. holds c.args.class c.args.id pair.0 pair.1) (zip ranges vs) ≡ false) c.as_slice-values.ensures none)
