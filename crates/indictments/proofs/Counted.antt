-- All matches of a plan in range are few.
use Rattle.std.proofs.Common.{◌≡◌, ◌∙◌, ◌+◌, ◌*◌, ◌≤◌, ℕ, false, List, [], ◌∷◌, All, length, take, refl, sym, ap, arith}
use Rattle.std.proofs.lemmas.List.{length-append, length-map, take_all}
use Rattle.std.proofs.lemmas.List.Elements.{All-head, All-tail}
use Rattle.std.proofs.lemmas.List.Sums.{sum_by-append, sum_by-cons}
use Rattle.plan_rules.specs.declared.row.Match.{Match}
use Rattle.plan_rules.specs.declared.rule.RuleDef.{RuleDef}
use Rattle.plan_rules.specs.declared.row.Part.{Part}
use Rattle.plan_rules.specs.Limits.{row_limit, score_limit}
use Rattle.plan_rules.specs.Meaning.{Meaning}
use Rattle.plan_rules.specs.Range.{AreWithin, bound_at_end, has_too_many_rows, head_bound, rule_bound}
use Rattle.plan_rules.specs.Rows.{Facts, rule_rows}
use Rattle.plan_rules.specs.Totals.{all_matches, impact_of, matches_of}
use Rattle.plan_rules.proofs.Lengths.{bound_at_end-le, length-rule_rows-le}
use Rattle.plan_recalc.specs.Size.{AreAllWithin, all_sizes, impact_sizes, score_size}
use Rattle.indictments.specs.Indicts.{all_of}
use Rattle.indictments.specs.Tallies.{AreFew}

-- a rule has few matches where none of its streams may have too many rows
few_of_rule : (m : Meaning) (facts : Facts) (sizes : List ℕ) (rule : RuleDef) (weight : ℕ) → AreWithin sizes facts → has_too_many_rows sizes rule ≡ false → length (matches_of m facts rule weight) ≤ row_limit
few_of_rule m facts sizes rule weight within few =
    let bound : bound_at_end sizes (head_bound sizes rule.head) (take (length rule.nodes) rule.nodes) ≤ row_limit = bound_at_end-le sizes (head_bound sizes rule.head) rule.nodes (length rule.nodes) few in
    let all : bound_at_end sizes (head_bound sizes rule.head) (take (length rule.nodes) rule.nodes) ≡ rule_bound sizes rule = ap (bound_at_end sizes (head_bound sizes rule.head)) (take_all (length rule.nodes) rule.nodes (omega arith)) in
    let rows = length-rule_rows-le m facts sizes rule within in
    let as_many : length (matches_of m facts rule weight) ≡ length (rule_rows m facts rule) = length-map (rule_rows m facts rule) (λ (row : List Part). record { row = row; impact = impact_of m rule weight row }) in
    omega (arith, bound, all, rows, as_many)

-- and so have all rules
pub few_of_all : (m : Meaning) (facts : Facts) (sizes : List ℕ) (rules : List RuleDef) (weights : List ℕ) → AreWithin sizes facts → All (λ rule. has_too_many_rows sizes rule ≡ false) rules
    → length (all_of (all_matches m facts rules weights)) ≤ length rules * row_limit
few_of_all m facts sizes [] weights within few = omega arith
few_of_all m facts sizes (rule ∷ rules) [] within few = omega arith
few_of_all m facts sizes (rule ∷ rules) (weight ∷ weights) within few =
    let P : RuleDef → Type 0 = λ rule. has_too_many_rows sizes rule ≡ false in
    let here = few_of_rule m facts sizes rule weight within (All-head P rule rules few) in
    let rest = few_of_all m facts sizes rules weights within (All-tail P rule rules few) in
    let joined = length-append (matches_of m facts rule weight) (all_of (all_matches m facts rules weights)) in
    omega (arith, here, rest, joined)

-- the sizes of all rules' impacts are those of all matches
sizes_of_all : (matches : List (List Match)) → impact_sizes (all_of matches) ≡ all_sizes matches
sizes_of_all [] = refl
sizes_of_all (first ∷ rest) =
    sum_by-append (λ (one : Match). score_size one.impact) first (all_of rest) ∙ ap (λ n. impact_sizes first + n) (sizes_of_all rest) ∙ sym (sum_by-cons impact_sizes first rest)

-- so all matches are few
pub few_matches_all : (m : Meaning) (facts : Facts) (sizes : List ℕ) (rules : List RuleDef) (weights : List ℕ) (matches : List (List Match)) → AreWithin sizes facts
    → All (λ rule. has_too_many_rows sizes rule ≡ false) rules → length rules ≤ 32 → matches ≡ all_matches m facts rules weights → AreAllWithin score_limit matches → AreFew (all_of matches)
few_matches_all m facts sizes rules weights matches within few count are small =
    let most = few_of_all m facts sizes rules weights within few in
    let same : length (all_of matches) ≡ length (all_of (all_matches m facts rules weights)) = ap (λ (ms : List (List Match)). length (all_of ms)) are in
    let all = sizes_of_all matches in
    record { count = omega (arith, most, same, count); impacts = omega (arith, all, small) }
