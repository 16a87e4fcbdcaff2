use Rattle.std.proofs.Common.{◌≡◌, ◌*◌, take, pos, ◌+ℤ◌, neg_ℤ, ◌≤ℤ◌, fold}
use Rattle.plan_recalc.proofs.collect.sum_of.Given as goal

-- the sum so far, within as many times the greatest key
abbrev pub invariant-loop-number : goal.invariant-loop-number
invariant-loop-number l = record {
  sum : l.sum ≡ fold (λ a b. a +ℤ b) (pos 0) (take l.number-index l.numbers);
  low : neg_ℤ (pos (1000000000 * l.number-index)) ≤ℤ l.sum;
  high : l.sum ≤ℤ pos (1000000000 * l.number-index);
}
