use Rattle.std.proofs.Common.{◌≡◌, map, take}
use Rattle.plan_facts.specs.Plan.{records_of}
use Rattle.plan_rules.specs.Rows.{rule_rows}
use Rattle.plan_recalc.proofs.rows.all_rows.Given as goal

-- the rows of the rules so far
abbrev pub invariant-loop-rule : goal.invariant-loop-rule
invariant-loop-rule g l =
    map (λ rows. rows.items) l.all.items ≡ map (rule_rows g.B.Book.meaning (records_of l.plan)) (take l.rule-index l.rules.defs)
