use Rattle.std.proofs.Common.{rules, is_lt}
use Rattle.std.specs.Cmp.{int_cmp_total}
use Rattle.std.specs.Cmp.Lexicographic.{lists_total}
use Rattle.std.proofs.lemmas.Fn.{always_returns_same}
use Rattle.std.proofs.lemmas.List.MinMax.{ranks_by}
use Rattle.plan_rules.specs.Order.{row_cmp, row_numbers}
use Rattle.score_director.proofs.order.sort_rows.Goals as goal

pub returns-clause-sorted : goal.returns-clause-sorted
returns-clause-sorted c =
    c.sort_unstable_by.ensures.sorted (λ one other. is_lt (row_cmp one other)) (ranks_by (lists_total int_cmp_total) row_numbers)
    (always_returns_same _ _ _ (λ a r f k. search rules))
