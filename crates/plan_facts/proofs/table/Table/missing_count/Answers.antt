use Rattle.std.proofs.Common.{◌≡◌, ◌∙◌, List, Bool, length, ap, sym}
use Rattle.plan_facts.specs.Plan.{ClassView, nulls_in}
use Rattle.plan_facts.proofs.Places.{same_eqb}
use Rattle.plan_facts.proofs.Spared.{none_missing}
use Rattle.plan_facts.proofs.table.Table.missing_count.Goals as goal

pub returns-then-is_empty : goal.returns-then-is_empty
returns-then-is_empty c =
    let nullables = c.as_slice-nullables.result.now in
    let none : length nullables ≡ 0 = same_eqb (length nullables) 0 (sym c.is_empty.ensures ∙ c.if-is_empty.true) in
    let same : nullables ≡ c.args.self.now.nullables = c.as_slice-nullables.ensures ∙ ap (λ (v : ClassView). v.nullables) c.self.view_is in
    sym (none_missing nullables c.args.self.now.facts none) ∙ ap (λ (ns : List Bool). nulls_in ns c.args.self.now.facts) same
