use Rattle.std.proofs.Common.{◌≡◌, ◌∙◌, ◌<◌, ◌≤◌, ◌++◌, ◌∷◌, [], ℕ, List, get_or, length, map, ap, subst, sym}
use Rattle.std.proofs.lemmas.List.{map_more, map_push, take_all}
use Rattle.plan_facts.specs.Plan.{records_of}
use Rattle.plan_rules.specs.Range.{has_too_many_rows, sizes_of}
use Rattle.plan_rules.specs.Rows.{rule_rows}
use Rattle.plan_rules.specs.Sound.{IsSound}
use Rattle.plan_rules.proofs.Accepted.{sound_rules}
use Rattle.plan_recalc.proofs.rows.all_rows.Goals as goal

pub rule_rows-requires-clause-sound : goal.rule_rows-requires-clause-sound
rule_rows-requires-clause-sound g c κs within =
    let rules = c.args.rules.now in
    let k = c.loop-rule.rule-index in
    let rule = c.rule-item.result in
    let there : k < length rules.defs = rw (← c.as_slice-rule-items.ensures) (c.loop-rule-test.true) in
    let read : rule ≡ get_or rules.defs k rule = rw (← c.as_slice-rule-items.ensures) (c.rule-item.is) in
    subst (IsSound (length rules.schema) rules.numbers) (sym read) (sound_rules rules.schema rules.numbers rules.defs rules.harder rules.accepted k rule there)

pub rule_rows-requires-clause-few : goal.rule_rows-requires-clause-few
rule_rows-requires-clause-few g c κs within =
    let rules = c.args.rules.now in
    let k = c.loop-rule.rule-index in
    let rule = c.rule-item.result in
    let there : k < length rules.defs = rw (← c.as_slice-rule-items.ensures) (c.loop-rule-test.true) in
    let read : rule ≡ get_or rules.defs k rule = rw (← c.as_slice-rule-items.ensures) (c.rule-item.is) in
    ap (λ (sizes : List ℕ). has_too_many_rows sizes rule) c.in_ok-facts.ensures.sizes
    ∙ ap (has_too_many_rows (sizes_of c.args.plan.now)) read ∙ c.requires.few k rule there

pub loop-rule-preserved : goal.loop-rule-preserved
loop-rule-preserved g c =
    let rules = c.args.rules.now in
    let k = c.loop-rule.rule-index in
    let rule = c.rule-item.result in
    let m = g.B.Book.meaning in
    let f = records_of c.args.plan.now in
    let made = c.in_ok-rule_rows.field-0 in
    let there : k < length rules.defs = rw (← c.as_slice-rule-items.ensures) (c.loop-rule-test.true) in
    let read : rule ≡ get_or rules.defs k rule = rw (← c.as_slice-rule-items.ensures) (c.rule-item.is) in
    let is : made.items ≡ rule_rows m f (get_or rules.defs k rule) = c.in_ok-rule_rows.ensures ∙ (λ i. rule_rows m (c.in_ok-facts.ensures.records i) (read i)) in
    ap (map (λ list. list.items)) c.in_ok-push.ensures.items ∙ map_push (λ list. list.items) c.loop-rule.all.items made
    ∙ (λ i. c.loop-rule.invariant i ++ is i ∷ []) ∙ sym (map_more (rule_rows m f) rules.defs k rule there)

pub returns : goal.returns
returns g c =
    let rules = c.args.rules.now in
    let k = c.loop-rule.rule-index in
    let end : length rules.defs ≤ k = rw (← c.as_slice-rule-items.ensures) (c.loop-rule-test.false) in
    c.loop-rule.invariant ∙ ap (map (rule_rows g.B.Book.meaning (records_of c.args.plan.now))) (take_all k rules.defs end)
