use Rattle.std.proofs.Common.{◌∙◌, ◌<◌, ◌≤◌, ◌++◌, ◌∷◌, [], length, map, ap, sym, arith}
use Rattle.std.proofs.lemmas.List.{map_push, take_all}
use Rattle.plan_facts.specs.Plan.{records_of}
use Rattle.plan_rules.specs.Rows.{rule_rows}
use Rattle.score_director.proofs.Led.{as_many, rows_are}
use Rattle.score_director.proofs.Lists.{map_take_more}
use Rattle.score_director.proofs.totals.all_rows.Goals as goal

pub rows-requires : goal.rows-requires
rows-requires g c =
    let long = as_many g.B.Book.meaning c.args.rules.now.defs c.args.plan.now c.in_ok-net.net c.in_ok-net.ensures.network in
    omega (arith, long, c.loop-rule-test.true, c.count-rule-end.ensures.count)

pub loop-rule-preserved : goal.loop-rule-preserved
loop-rule-preserved g c =
    let m = g.B.Book.meaning in
    let defs = c.args.rules.now.defs in
    let plan = c.args.plan.now in
    let rule = c.loop-rule.rule in
    let sorted = c.put_in_order.new.rows in
    let made = c.in_ok-items_of.field-0 in
    let within : rule < length defs = omega (arith, c.loop-rule-test.true, c.count-rule-end.ensures.count) in
    let are = rows_are m defs plan c.in_ok-net.net c.in_ok-net.ensures.network rule c.in_ok-rows.rows sorted within c.in_ok-rows.ensures c.put_in_order.ensures.rule in
    ap (map (λ list. list.items)) c.in_ok-push.ensures.items ∙ map_push (λ list. list.items) c.loop-rule.all.items made
    ∙ (λ i. c.loop-rule.invariant i ++ c.in_ok-items_of.ensures i ∷ []) ∙ sym (map_take_more (rule_rows m (records_of plan)) defs rule sorted are)

pub returns : goal.returns
returns g c =
    let defs = c.args.rules.now.defs in
    let end : length defs ≤ c.loop-rule.rule = omega (arith, c.loop-rule-test.false, c.count-rule-end.ensures.count) in
    c.loop-rule.invariant ∙ ap (map (rule_rows g.B.Book.meaning (records_of c.args.plan.now))) (take_all c.loop-rule.rule defs end)
