use Rattle.std.proofs.Common.{◌∙◌, sym, ap, subst}
use Rattle.plan_changes.specs.Change.{AreFieldsInOrder, is_after_fields}
use Rattle.plan_changes.specs.declared.change.FieldItem.{FieldItem}
use Rattle.plan_changes.proofs.Order.{in_order_push}
use Rattle.plan_changes.proofs.change.Change.give_field.Goals as goal

pub invariant_of-self-then-is_after_fields : goal.invariant_of-self-then-is_after_fields
invariant_of-self-then-is_after_fields c =
    let behind = sym (c.is_after_fields.ensures ∙ ap (λ xs. is_after_fields xs c.args.item.name) c.as_slice.ensures) ∙ c.if-is_after_fields.true in
    record {
      fields_in_order = subst AreFieldsInOrder (sym c.in_ok-push.ensures.ok) (in_order_push (λ (x : FieldItem). x.name) c.self.inside.fields c.args.item c.self.invariant.fields_in_order behind);
      values_in_order = c.self.invariant.values_in_order;
      weight_in_range = c.self.invariant.weight_in_range;
    }
