use Rattle.std.proofs.Common.{rules, ap, ◌≡◌}
use Rattle.std.specs.Ordering.{is_lt}
use Rattle.std.proofs.lemmas.Fn.{always_returns_same}
use Rattle.stream_group.specs.Keyed.{is_before}
use Rattle.stream_group.proofs.Runs.{before_weak}
use Rattle.stream_group.proofs.change.sort.Goals as goal

pub returns-clause-sorted : goal.returns-clause-sorted
returns-clause-sorted c =
    c.sort_unstable_by.ensures.sorted (is_before c.args.width) (before_weak c.args.width)
    (always_returns_same _ (λ a r. is_lt r ≡ is_before c.args.width a.0.now a.1.0.now) _ (λ a r f' k. (ap is_lt (search rules), search rules)))
