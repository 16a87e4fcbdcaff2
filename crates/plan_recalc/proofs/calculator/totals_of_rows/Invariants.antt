use Rattle.std.proofs.Common.{◌≡◌, ◌++◌, length}
use Rattle.std.specs.Vec.Iter.{into_iter_items}
use Rattle.plan_facts.specs.Plan.{records_of}
use Rattle.plan_rules.specs.Range.{sizes_of}
use Rattle.plan_recalc.specs.RulesFrom.{AreTotals}
use Rattle.plan_recalc.proofs.calculator.totals_of_rows.Given as goal

-- the totals of the rules so far, and the rows of the others are still to come
abbrev pub invariant-loop-rows : goal.invariant-loop-rows
invariant-loop-rows g l = record {
  rest : l.fn.all.items ≡ l.yielded ++ into_iter_items l.rows-iterator;
  totals : AreTotals g.B.Book.meaning (records_of l.plan) l.rules.defs l.rules.caps l.weights (sizes_of l.plan) (length l.yielded) l.matches l.impacts l.score;
}
