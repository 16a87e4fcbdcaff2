use Rattle.std.proofs.Common.{rules, ap, ◌≡◌}
use Rattle.std.specs.Ordering.{is_lt}
use Rattle.std.proofs.lemmas.List.Sorted.{answers_always}
use Rattle.construction.specs.Order.{rank_order}
use Rattle.construction.proofs.Ranks.{rank_order_weak}
use Rattle.construction.proofs.order.sort_ranks.Goals as goal

pub returns-clause-sorted : goal.returns-clause-sorted
returns-clause-sorted c =
    c.sort_unstable_by.ensures.sorted (λ one other. is_lt (rank_order one other)) rank_order_weak
    (answers_always _ (λ a r. is_lt r ≡ is_lt (rank_order a.0.now a.1.0.now)) _ (λ f a r f' k. ap is_lt (search rules)))
