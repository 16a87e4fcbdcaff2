use Rattle.std.proofs.Common.{◌∙◌, sym, ap, subst}
use Rattle.plan_changes.specs.Change.{AreValuesInOrder, is_after_values}
use Rattle.plan_changes.specs.declared.change.ValueItem.{ValueItem}
use Rattle.plan_changes.proofs.Order.{in_order_push}
use Rattle.plan_changes.proofs.change.Change.give_value.Goals as goal

pub invariant_of-self-then-is_after_values : goal.invariant_of-self-then-is_after_values
invariant_of-self-then-is_after_values c =
    let behind = sym (c.is_after_values.ensures ∙ ap (λ xs. is_after_values xs c.args.item.name) c.as_slice.ensures) ∙ c.if-is_after_values.true in
    record {
      fields_in_order = c.self.invariant.fields_in_order;
      values_in_order = subst AreValuesInOrder (sym c.in_ok-push.ensures.ok) (in_order_push (λ (x : ValueItem). x.name) c.self.inside.values c.args.item c.self.invariant.values_in_order behind);
      weight_in_range = c.self.invariant.weight_in_range;
    }
