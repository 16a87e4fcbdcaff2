use Rattle.std.proofs.Common.{◌≡◌}
use Rattle.plan_recalc.proofs.Entered.{IsPast}
use Rattle.plan_recalc.proofs.keys.enter_key.Given as goal

-- the keys so far are below the one that is entered, and nothing has changed
abbrev pub invariant-loop-place : goal.invariant-loop-place
invariant-loop-place l = record {
  keys : l.keys.items ≡ l.fn.keys.items;
  key : l.key ≡ l.fn.key;
  past : IsPast l.key l.keys.items l.place;
}
