use Rattle.std.proofs.Common.{List, Option, ap, subst}
use Rattle.std.specs.Option.{option_and_then}
use Rattle.plan_moves.specs.declared.edit.Set.{Set}
use Rattle.plan_moves.specs.Made.{Fills}
use Rattle.move_selectors.specs.Candidates.{selected_of, candidate_of}
use Rattle.move_selectors.proofs.selectors.candidate.Goals as goal

pub returns-clause-edit : goal.returns-clause-edit
unfolding candidate_of
returns-clause-edit g c =
    subst (λ (due : Option (List Set)). Fills c.settle.result due c.settle.new.into)
    (ap (option_and_then (λ selector. selected_of selector c.args.plan.now _ c.args.words.now)) c.in-Some.ensures)
    (c.settle.ensures _ c.selected-put.ensures.edit)
