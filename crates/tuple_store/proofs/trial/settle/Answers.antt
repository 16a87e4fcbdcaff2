use Rattle.std.proofs.Common.{refl, sym, ◌∙◌, ap, Some, is_some}
use Rattle.tuple_store.specs.declared.held.Mark.{Mark}
use Rattle.tuple_store.specs.declared.held.Mark.TheVariants.{Kept, Added, Killed}
use Rattle.tuple_store.specs.Rows.{is_now, shown}
use Rattle.tuple_store.proofs.RowLaws.{fewer_slots, is_some-remarked, none_there, rows_of-same, shown-marked, shown-remarked}
use Rattle.tuple_store.proofs.trial.settle.Goals as goal

pub returns-in-Some-Added-clause-now : goal.returns-in-Some-Added-clause-now
returns-in-Some-Added-clause-now g c =
    let u = c.mark.ensures in
    let marked = sym c.mark_of.ensures ∙ c.in-Some-Added.is ∙ ap (λ (m : Mark). Some m) c.in-Some-Added.field-0-is in
    rows_of-same is_now _ _ c.args.n u.others (ap (shown is_now) u.changed ∙ shown-remarked is_now _ Added Kept marked refl refl)

pub returns-in-Some-Killed-clause-now : goal.returns-in-Some-Killed-clause-now
returns-in-Some-Killed-clause-now g c =
    let u = c.remove.ensures in
    let marked = sym c.mark_of.ensures ∙ c.in-Some-Killed.is ∙ ap (λ (m : Mark). Some m) c.in-Some-Killed.field-0-is in
    rows_of-same is_now _ _ c.args.n u.others (ap (shown is_now) u.changed ∙ sym (shown-marked is_now _ Killed marked refl))

pub returns-in-Some-Killed-clause-fewer : goal.returns-in-Some-Killed-clause-fewer
returns-in-Some-Killed-clause-fewer g c = fewer_slots _ _ c.args.n (λ e. absurd (none_there c.remove.ensures.changed e)) c.remove.ensures.others

pub returns-in-Some-Added-clause-fewer : goal.returns-in-Some-Added-clause-fewer
returns-in-Some-Added-clause-fewer g c = fewer_slots _ _ c.args.n (λ e. sym (ap is_some c.mark.ensures.changed ∙ is_some-remarked _ Kept) ∙ e) c.mark.ensures.others
