use Rattle.std.proofs.Common.{◌≡◌, drop}
use Rattle.std.specs.Prelude.{nat_lt}
use Rattle.std.specs.List.{list_any}
use Rattle.plan_rules.specs.Limits.{row_limit}
use Rattle.plan_rules.specs.Range.{bounds_from, bound_at_end, has_too_many_rows, rule_bound}
use Rattle.plan_rules.proofs.range.rows_of.Given as goal

-- no stream so far may have too many rows
abbrev pub invariant-loop-node : goal.invariant-loop-node
invariant-loop-node l = record {
  bounds : has_too_many_rows l.sizes l.rule ≡ list_any (nat_lt row_limit) (bounds_from l.sizes l.rows (drop l.node-index l.rule.nodes));
  end : rule_bound l.sizes l.rule ≡ bound_at_end l.sizes l.rows (drop l.node-index l.rule.nodes);
}
