-- What is found of and stored in the first rule and the others is of all.
use Rattle.std.proofs.Common.{◌≡◌, ◌<◌, ◌∙◌, ◌++◌, ℕ, List, [], ◌∷◌, get_or, length, refl, sym, ap, append_assoc, subst}
use Rattle.std.specs.List.{AllZip}
use Rattle.std.proofs.lemmas.List.{get_or_default}
use Rattle.plan_rules.specs.Meaning.{Meaning}
use Rattle.stream_heads.specs.declared.delta.CellsDelta.{CellsDelta}
use Rattle.stream_heads.specs.Meant.{Rows}
use Rattle.head_changes.specs.declared.changes.ClassChange.{ClassChange}
use Rattle.head_changes.specs.Changes.{taking}
use Rattle.score_director.specs.declared.rule.RuleAhead.{RuleAhead}
use Rattle.score_director.specs.declared.rule.RuleNet.{RuleNet}
use Rattle.score_director.specs.Rule.{FindsFrom, FindsRule, ForeseesFrom, ForeseesRule, KeepsRuleBase, PutsDown, StoresAll, StoresRule, head_change}
use Rattle.score_director.proofs.ZipLaws.{zip_cons}

-- what is read of the changes is the change of the rows that a rule begins with
pub head_change_is : (lefts : List ClassChange) (net : RuleNet) (item other : ClassChange) (left : CellsDelta)
    → net.class < length lefts → item ≡ get_or lefts net.class item → left ≡ taking item net.nulls → left ≡ head_change lefts other net
head_change_is lefts net item other left within item_is left_is =
    left_is ∙ ap (λ (change : ClassChange). taking change net.nulls) (item_is ∙ get_or_default lefts net.class item other within)

pub finds_from : (m : Meaning) (heads : Rows) (lefts rights : List ClassChange) (nets rest : List RuleNet) (net : RuleNet) (item : ClassChange) (left : CellsDelta) (found : RuleAhead) (others : List RuleAhead)
    → nets ≡ net ∷ rest → net.class < length lefts → item ≡ get_or lefts net.class item → left ≡ taking item net.nulls
    → FindsRule m heads net rights left found → AllZip (FindsFrom m heads lefts rights) rest others
    → AllZip (FindsFrom m heads lefts rights) nets (found ∷ others)
finds_from m heads lefts rights nets rest net item left found others is within item_is left_is one more =
    zip_cons (FindsFrom m heads lefts rights) nets rest net others found is
    (λ other. subst (λ (change : CellsDelta). FindsRule m heads net rights change found) (head_change_is lefts net item other left within item_is left_is) one) more

-- a number that was put down of the first rule, and those of the others behind it
pub puts_first : (m : Meaning) (heads : Rows) (lefts rights : List ClassChange) (nets rest : List RuleNet) (net : RuleNet) (item : ClassChange) (left : CellsDelta) (total : ℕ) (before between after : List ℕ)
    → nets ≡ net ∷ rest → net.class < length lefts → item ≡ get_or lefts net.class item → left ≡ taking item net.nulls
    → ForeseesRule m heads net rights left total → between ≡ before ++ total ∷ [] → PutsDown (ForeseesFrom m heads lefts rights) rest between after
    → PutsDown (ForeseesFrom m heads lefts rights) nets before after
puts_first m heads lefts rights nets rest net item left total before between after is within item_is left_is one pushed others = record {
  more = total ∷ others.more;
  is = others.is ∙ ap (λ (ns : List ℕ). ns ++ others.more) pushed ∙ append_assoc before (total ∷ []) others.more;
  each =
      zip_cons (ForeseesFrom m heads lefts rights) nets rest net others.more total is
      (λ other. subst (λ (change : CellsDelta). ForeseesRule m heads net rights change total) (head_change_is lefts net item other left within item_is left_is) one) others.each;
}

pub stores_from : (lefts rights : List ClassChange) (nets rest new : List RuleNet) (net net' : RuleNet) (item : ClassChange) (left : CellsDelta) (all others : List RuleAhead) (found : RuleAhead)
    → nets ≡ net ∷ rest → all ≡ found ∷ others → net.class < length lefts → item ≡ get_or lefts net.class item → left ≡ taking item net.nulls
    → StoresRule net net' rights left found → StoresAll lefts rights rest new others → StoresAll lefts rights nets (net' ∷ new) all
stores_from lefts rights nets rest new net net' item left all others found is are within item_is left_is one more =
    let here : StoresAll lefts rights (net ∷ rest) (net' ∷ new) (found ∷ others) = (
      λ other. subst (λ (change : CellsDelta). StoresRule net net' rights change found) (head_change_is lefts net item other left within item_is left_is) one,
      more,
    ) in
    subst (λ (ns : List RuleNet). StoresAll lefts rights ns (net' ∷ new) all) (sym is)
    (subst (λ (fs : List RuleAhead). StoresAll lefts rights (net ∷ rest) (net' ∷ new) fs) (sym are) here)

-- rules that stay keep what a rollback brings back
pub keep_base : (nets : List RuleNet) → AllZip KeepsRuleBase nets nets
keep_base [] = tt
keep_base (net ∷ rest) = (record { class = refl; nulls = refl; nodes = refl; end = refl }, keep_base rest)
