use Rattle.std.proofs.Common.{◌≡◌, ℕ, length}
use Rattle.plan_rules.specs.Places.{place_of}
use Rattle.plan_rules.proofs.places.grow.Given as goal

abbrev pub invariant-loop : goal.invariant-loop
invariant-loop l = record {
  kept : (n : ℕ) → place_of l.table n ≡ place_of l.fn.table n;
  counted : length l.table ≡ l.counter;
}
