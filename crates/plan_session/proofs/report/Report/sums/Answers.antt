use Rattle.std.proofs.Common.{rules, ◌≡◌, ◌<◌, ◌∷◌, ◌++◌, ◌+◌, [], length, get_or, take, sym, subst, arith}
use Rattle.plan_search.specs.RunLines.{rule_line, sums_lines}
use Rattle.plan_session.proofs.Grown.{lent_at, sums-push, written_more}
use Rattle.plan_session.proofs.report.Report.sums.Goals as goal

pub loop-rule-preserved : goal.loop-rule-preserved
loop-rule-preserved c =
    let matches = c.args.totals.now.matches in
    let k = c.loop-rule.rule in
    let item = c.index-matches-rule.result in
    let of_rule = c.as_slice.result.now in
    let same : c.as_slice-matches.result.now ≡ matches = search rules in
    let lent : of_rule ≡ get_or matches k item = lent_at matches c.as_slice-matches.result.now k item of_rule same c.index-matches-rule.is (search rules) in
    let within : k < length matches = subst (λ xs. k < length xs) same (omega arith) in
    written_more _ _ (sums_lines (take k matches)) (rule_line k of_rule ∷ []) _ _ _ _
    (subst (λ zs. sums_lines (take (k + 1) matches) ≡ sums_lines (take k matches) ++ rule_line k zs ∷ []) (sym lent) (sums-push matches k item within))
    c.loop-rule.invariant c.in_ok-rule.ensures
