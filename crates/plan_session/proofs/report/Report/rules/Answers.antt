use Rattle.std.proofs.Common.{rules, ◌≡◌, ◌<◌, ◌∷◌, ◌++◌, [], length, get_or, map, take, refl, ◌+◌, sym, subst, arith}
use Rattle.plan_search.specs.RunLines.{match_line, matches_lines, rule_line}
use Rattle.plan_session.proofs.Grown.{lent_at, matches-push, written_more}
use Rattle.plan_session.proofs.report.Report.rules.Goals as goal

pub loop-rule-preserved : goal.loop-rule-preserved
loop-rule-preserved c =
    let matches = c.args.totals.now.matches in
    let k = c.loop-rule.rule in
    let item = c.index-matches-rule.result in
    let of_rule = c.as_slice-of_rule.result.now in
    let same : c.as_slice-matches.result.now ≡ matches = search rules in
    let lent : of_rule ≡ get_or matches k item = lent_at matches c.as_slice-matches.result.now k item of_rule same c.index-matches-rule.is (search rules) in
    let within : k < length matches = subst (λ xs. k < length xs) same (omega arith) in
    let front = matches_lines (take k matches) in
    written_more _ _ (front ++ rule_line k of_rule ∷ []) (map match_line of_rule) _ _ _ _
    (subst (λ zs. matches_lines (take (k + 1) matches) ≡ (front ++ rule_line k zs ∷ []) ++ map match_line zs) (sym lent) (matches-push matches k item within))
    (written_more _ _ front (rule_line k of_rule ∷ []) _ _ _ _ refl c.loop-rule.invariant c.in_ok-rule.ensures)
    c.in_ok-matches.ensures
