use Rattle.std.proofs.Common.{◌∙◌, ◌≤◌, ◌+◌, Some, cond, length, drop, sym, ap, arith}
use Rattle.std.specs.Prelude.{find}
use Rattle.plan_json.specs.Limits.{is_wide}
use Rattle.plan_json.proofs.Firsts.{find_at, find_past}
use Rattle.plan_json.proofs.limits.wide_class.Goals as goal

pub loop-n-preserved : goal.loop-n-preserved
loop-n-preserved c =
    let p = is_wide c.args.plan.now in
    c.loop-n.invariant ∙ find_at p c.args.schema.now c.loop-n.n c.in-Some.class.now (sym c.in-Some.ensures.class)
    ∙ ap (λ b. cond b (Some c.in-Some.class.now) (find p (drop (c.loop-n.n + 1) c.args.schema.now))) (sym c.is_wide.ensures ∙ c.if-is_wide.false)

pub returns-then-is_wide : goal.returns-then-is_wide
returns-then-is_wide c =
    let p = is_wide c.args.plan.now in
    sym (c.loop-n.invariant ∙ find_at p c.args.schema.now c.loop-n.n c.in-Some.class.now (sym c.in-Some.ensures.class)
    ∙ ap (λ b. cond b (Some c.in-Some.class.now) (find p (drop (c.loop-n.n + 1) c.args.schema.now))) (sym c.is_wide.ensures ∙ c.if-is_wide.true))

pub returns : goal.returns
returns c =
    let past : length c.args.schema.now ≤ c.loop-n.n = omega (arith, c.classes-n-end.ensures.count) in
    sym (c.loop-n.invariant ∙ find_past (is_wide c.args.plan.now) c.args.schema.now c.loop-n.n past)
