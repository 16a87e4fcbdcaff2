use Rattle.std.proofs.Common.{◌∙◌, Some, List, ap, sym}
use Rattle.plan_moves.specs.declared.edit.Set.{Set}
use Rattle.plan_moves.specs.Edits.{with_new}
use Rattle.move_selectors.proofs.SetLists.{with_new-first}
use Rattle.move_selectors.proofs.changes.change.Goals as goal

pub returns : goal.returns
returns c =
    sym c.in-Some.ensures
    ∙ ap (λ (edit : List Set). Some edit)
    (sym (c.in_ok-put_new.ensures.ok ∙ ap (λ (edit : List Set). with_new edit c.in-Some.set) c.requires.empty ∙ with_new-first c.in-Some.set))
