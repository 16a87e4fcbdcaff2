use Rattle.std.proofs.Common.{◌∙◌, sym, ap, subst, rules, SFits, w64}
use Rattle.std.proofs.lemmas.Int.{to_z-of_z}
use Rattle.plan_facts.specs.Plan.{IsFieldNumber}
use Rattle.plan_changes.specs.Performed.{is_in_range}
use Rattle.plan_changes.proofs.Ranges.{item_in_range, number_fits}
use Rattle.plan_changes.proofs.perform.set_item.Goals as goal

pub set_field-requires-clause-number : goal.set_field-requires-clause-number
set_field-requires-clause-number c =
    let fits : SFits w64 c.item_number.result = search rules in
    let range = sym (ap is_in_range c.in-Some.is) ∙ c.requires.range in
    rw (to_z-of_z) (subst IsFieldNumber (sym c.item_number.ensures) (number_fits _ (item_in_range c.args.names.now c.requires.few c.in-Some.item range)))
