use Rattle.std.proofs.Common.{List, subst}
use Rattle.std.specs.Prelude.{IsPermutation}
use Rattle.plan_rules.specs.declared.row.Part.{Part}
use Rattle.score_director.proofs.Ordered.{written_become}
use Rattle.score_director.proofs.order.put_in_order.Goals as goal

pub returns-clause-rule : goal.returns-clause-rule
returns-clause-rule c =
    let after = c.sort_rows.new.rows in
    let P : List (List Part) → Type 0 = λ before. IsPermutation before after in
    written_become c.args.rows.now after (subst P c.as_mut_slice.ensures.value c.sort_rows.ensures.same) c.sort_rows.ensures.sorted
