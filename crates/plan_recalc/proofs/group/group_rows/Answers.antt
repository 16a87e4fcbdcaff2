use Rattle.std.proofs.Common.{◌∙◌}
use Rattle.plan_recalc.proofs.Grouped.{short_key, groups_end}
use Rattle.plan_recalc.proofs.group.group_rows.Goals as goal

pub group_row-requires : goal.group_row-requires
group_row-requires g c =
    let short = short_key g.B.Book.meaning c.args.keys.now c.args.rows.now c.as_slice-2.result.now c.deref-key-items.result.now c.in_ok-different_keys.field-0.items c.loop-key.key-index c.key-item.result
    (c.as_slice-2.ensures ∙ c.in_ok-row_keys.ensures) c.in_ok-different_keys.ensures c.deref-key-items.ensures.value c.loop-key-test.true c.key-item.is c.requires.few_keys in
    rw (c.as_slice-in-loop-key-2.ensures) short

pub returns : goal.returns
returns g c =
    groups_end g.B.Book.meaning c.args.keys.now c.args.collect.now c.args.rows.now c.loop-key.groups.items c.as_slice-2.result.now c.deref-key-items.result.now c.in_ok-different_keys.field-0.items c.loop-key.key-index
    (c.as_slice-2.ensures ∙ c.in_ok-row_keys.ensures) c.in_ok-different_keys.ensures c.deref-key-items.ensures.value c.loop-key-test.false c.loop-key.invariant
