use Rattle.std.proofs.Common.{◌∙◌, inl, inr, sym, ap}
use Rattle.plan_changes.specs.Ready.{ReadyView}
use Rattle.plan_changes.proofs.ready.Ready.undo.Goals as goal

pub newest_back-requires-clause-deed : goal.newest_back-requires-clause-deed
newest_back-requires-clause-deed c = sym (ap (λ (r : ReadyView). r.deed) c.self.view_is) ∙ c.in-Add.is

pub record_back-requires-clause-deed : goal.record_back-requires-clause-deed
record_back-requires-clause-deed c = inl (sym (ap (λ (r : ReadyView). r.deed) c.self.view_is) ∙ c.in-Alter.is)

pub record_back-requires-in-Assign-clause-deed : goal.record_back-requires-in-Assign-clause-deed
record_back-requires-in-Assign-clause-deed c = inr (sym (ap (λ (r : ReadyView). r.deed) c.self.view_is) ∙ c.in-Assign.is)

pub removal_back-requires-clause-deed : goal.removal_back-requires-clause-deed
removal_back-requires-clause-deed c = sym (ap (λ (r : ReadyView). r.deed) c.self.view_is) ∙ c.in-Remove.is
