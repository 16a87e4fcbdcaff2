use Rattle.std.proofs.Common.{◌∙◌, subst}
use Rattle.plan_changes.specs.Undo.{TakesBack}
use Rattle.plan_changes.specs.declared.undo.Undo.{Undo}
use Rattle.plan_changes.proofs.undo.Undo.take_back.Goals as goal

pub take_back_newest-requires : goal.take_back_newest-requires
take_back_newest-requires c = (subst (λ (u : Undo). TakesBack u c.requires.0 c.args.plan.now) c.in-Newest.is c.requires.1).last

pub restore-requires-clause-there : goal.restore-requires-clause-there
restore-requires-clause-there c = (subst (λ (u : Undo). TakesBack u c.requires.0 c.args.plan.now) c.in-Record.is c.requires.1).there

pub restore-requires-clause-fits : goal.restore-requires-clause-fits
restore-requires-clause-fits c = (subst (λ (u : Undo). TakesBack u c.requires.0 c.args.plan.now) c.in-Record.is c.requires.1).fits

pub put_back-requires : goal.put_back-requires
put_back-requires c = (c.requires.0, subst (λ (u : Undo). TakesBack u c.requires.0 c.args.plan.now) c.in-Removed.is c.requires.1)

pub returns-in-Newest : goal.returns-in-Newest
returns-in-Newest c = λ before takes. c.take_back_newest.ensures.now ∙ (subst (λ (u : Undo). TakesBack u before c.args.plan.now) c.in-Newest.is takes).back

pub returns-in-Record : goal.returns-in-Record
returns-in-Record c = λ before takes. c.restore.ensures.now ∙ (subst (λ (u : Undo). TakesBack u before c.args.plan.now) c.in-Record.is takes).back

pub returns-in-Removed : goal.returns-in-Removed
returns-in-Removed c = λ before takes. c.put_back.ensures.before before (subst (λ (u : Undo). TakesBack u before c.args.plan.now) c.in-Removed.is takes)
