use Rattle.std.proofs.Common.{ℕ, sym, ap, subst}
use Rattle.plan_changes.specs.Performed.{plan_after}
use Rattle.plan_changes.specs.Ready.{ReadyView}
use Rattle.plan_changes.specs.Undo.{TakesBack}
use Rattle.plan_changes.specs.declared.undo.Undo.TheVariants.{Newest}
use Rattle.plan_changes.proofs.Undone.{new_back}
use Rattle.plan_changes.proofs.ready.Ready.newest_back.Goals as goal

pub returns : goal.returns
returns c = λ names.
    let ready = c.args.self.now in
    let plan = c.args.plan.now in
    subst (λ (n : ℕ). TakesBack (Newest n) plan (plan_after ready names plan)) (sym (ap (λ (r : ReadyView). r.class) c.self.view_is))
    (new_back ready names plan c.requires.deed c.classes-classes.ensures.sound c.requires.fits)
