-- Fewer facts lead to no more rows and to no greater score.
use Rattle.std.proofs.Common.{◌≡◌, ◌∙◌, ◌≤◌, ◌*◌, ◌-◌, ◌/◌, ◌||◌, ℕ, Bool, false, cond, nat_lt, List, [], ◌∷◌, Option, Some, None, length, take, get_or, refl, ap, arith}
use Rattle.std.specs.List.{list_any}
use Rattle.std.specs.Option.{option_or}
use Rattle.std.proofs.Math.Nat.{div-mul-le_self, mul-le-mul_right}
use Rattle.std.proofs.lemmas.Bool.Decides.{nat_tests}
use Rattle.std.proofs.lemmas.List.Sums.{sum_by-cons}
use Rattle.std.proofs.lemmas.Nat.{le-div, mul-le}
use Rattle.plan_facts.specs.First.{first_fault}
use Rattle.plan_facts.proofs.FirstLaws.{none-first_fault}
use Rattle.plan_rules.specs.Limits.{row_limit, score_limit}
use Rattle.plan_rules.specs.Range.{Weighed, size_of, head_bound, node_bound, bounds_from, bound_at_end, impact_bound, weighed, score_bound, rows_fault, range_fault_of}
use Rattle.plan_rules.specs.declared.rule.Head.{Head}
use Rattle.plan_rules.specs.declared.rule.Head.TheVariants as head
use Rattle.plan_rules.specs.declared.rule.Node.{Node}
use Rattle.plan_rules.specs.declared.rule.Node.TheVariants as node
use Rattle.plan_rules.specs.declared.rule.RuleDef.{RuleDef}
use Rattle.plan_rules.specs.declared.fault.RangeFault.{RangeFault}
use Rattle.plan_rules.specs.declared.fault.RangeFault.TheVariants.{RowsBound, ScoreRange}
use Rattle.plan_rules.proofs.Lengths.{few_rows_in_range, score_in_range}
use Rattle.plan_rules.proofs.Untrue.{neither, within}

-- no class has more facts than another count says
abbrev pub AreFewer : List ℕ → List ℕ → Type 0
AreFewer fewer sizes = (class : ℕ) → size_of fewer class ≤ size_of sizes class

fewer_pairs : (a b : ℕ) → a ≤ b → a * (a - 1) / 2 ≤ b * (b - 1) / 2
fewer_pairs a b le =
    let less : a - 1 ≤ b - 1 = omega arith in
    let grows = mul-le a (a - 1) b (b - 1) le less in
    let half = div-mul-le_self (a * (a - 1)) 2 in
    le-div (a * (a - 1) / 2) (b * (b - 1)) 2 (omega arith) (omega arith)

head_less : (fewer sizes : List ℕ) (h : Head) → AreFewer fewer sizes → head_bound fewer h ≤ head_bound sizes h
head_less fewer sizes (head.ForEach class) less = less class
head_less fewer sizes (head.ForEachNulls class) less = less class
head_less fewer sizes (head.Pairs class joiners) less = fewer_pairs (size_of fewer class) (size_of sizes class) (less class)

node_less : (fewer sizes : List ℕ) (rows more : ℕ) (n : Node) → AreFewer fewer sizes → rows ≤ more → node_bound fewer rows n ≤ node_bound sizes more n
node_less fewer sizes rows more (node.Filter test) less le = le
node_less fewer sizes rows more (node.Join class nulls joiners) less le = mul-le rows (size_of fewer class) more (size_of sizes class) le (less class)
node_less fewer sizes rows more (node.IfExists class nulls joiners) less le = le
node_less fewer sizes rows more (node.IfNotExists class nulls joiners) less le = le
node_less fewer sizes rows more (node.GroupBy keys collect) less le = le

not_over : (most n : ℕ) → n ≤ most → nat_lt most n ≡ false
not_over most n le = grind (arith, nat_tests)

both : (a b : Bool) → a ≡ false → b ≡ false → (a || b) ≡ false
both a b first second = ap (λ x. x || b) first ∙ second

streams_less : (fewer sizes : List ℕ) (rows more : ℕ) (nodes : List Node) → AreFewer fewer sizes → rows ≤ more → list_any (nat_lt row_limit) (bounds_from sizes more nodes) ≡ false → list_any (nat_lt row_limit) (bounds_from fewer rows nodes) ≡ false
streams_less fewer sizes rows more [] less le few =
    let most = within row_limit more (neither (nat_lt row_limit more) false few).0 in
    both (nat_lt row_limit rows) false (not_over row_limit rows (omega (arith, le, most))) refl
streams_less fewer sizes rows more (first ∷ rest) less le few =
    let parts = neither (nat_lt row_limit more) (list_any (nat_lt row_limit) (bounds_from sizes (node_bound sizes more first) rest)) few in
    let most = within row_limit more parts.0 in
    both (nat_lt row_limit rows) (list_any (nat_lt row_limit) (bounds_from fewer (node_bound fewer rows first) rest)) (not_over row_limit rows (omega (arith, le, most)))
    (streams_less fewer sizes (node_bound fewer rows first) (node_bound sizes more first) rest less (node_less fewer sizes rows more first less le) parts.1)

end_less : (fewer sizes : List ℕ) (rows more : ℕ) (nodes : List Node) → AreFewer fewer sizes → rows ≤ more → bound_at_end fewer rows nodes ≤ bound_at_end sizes more nodes
end_less fewer sizes rows more [] less le = le
end_less fewer sizes rows more (first ∷ rest) less le =
    end_less fewer sizes (node_bound fewer rows first) (node_bound sizes more first) rest less (node_less fewer sizes rows more first less le)

impact_less : (fewer sizes : List ℕ) (w : Weighed) → AreFewer fewer sizes → impact_bound fewer w ≤ impact_bound sizes w
impact_less fewer sizes w less =
    let rows = end_less fewer sizes (head_bound fewer w.rule.head) (head_bound sizes w.rule.head) w.rule.nodes less (head_less fewer sizes w.rule.head less) in
    mul-le-mul_right w.cap (mul-le-mul_right w.weight rows)

score_less : (fewer sizes : List ℕ) (ws : List Weighed) → AreFewer fewer sizes → score_bound fewer ws ≤ score_bound sizes ws
score_less fewer sizes [] less = omega arith
score_less fewer sizes (w ∷ ws) less =
    let one = impact_less fewer sizes w less in
    let rest = score_less fewer sizes ws less in
    let few = sum_by-cons (impact_bound fewer) w ws in
    let all = sum_by-cons (impact_bound sizes) w ws in
    omega (arith, one, rest, few, all)

-- what was in range with more facts is in range with fewer
pub fewer_in_range : (fewer sizes : List ℕ) (rules : List RuleDef) (weights caps : List ℕ) → AreFewer fewer sizes → range_fault_of sizes rules weights caps ≡ None → range_fault_of fewer rules weights caps ≡ None
fewer_in_range fewer sizes rules weights caps less none =
    let few = few_rows_in_range sizes rules weights caps none in
    let rows : first_fault (rows_fault fewer) [] rules ≡ None = none-first_fault (rows_fault fewer) [] rules (λ k d lt. ap (λ b. cond b (Some (RowsBound (length (take k rules)))) None) (streams_less fewer sizes (head_bound fewer (get_or rules k d).head) (head_bound sizes (get_or rules k d).head) (get_or rules k d).nodes less (head_less fewer sizes (get_or rules k d).head less) (few k d lt))) in
    let most = score_in_range sizes rules weights caps none in
    let le = score_less fewer sizes (weighed rules weights caps) less in
    ap (λ (o : Option RangeFault). option_or o (cond (nat_lt score_limit (score_bound fewer (weighed rules weights caps))) (Some ScoreRange) None)) rows
    ∙ ap (λ b. cond b (Some ScoreRange) None) (not_over score_limit (score_bound fewer (weighed rules weights caps)) (omega (arith, le, most)))
