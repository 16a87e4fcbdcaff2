use Rattle.std.proofs.Common.{◌≡◌, ◌∙◌, ◌||◌, Bool, true, false, Some, refl, ap, if◌then◌else◌}
use Rattle.plan_moves.specs.Edits.{is_same}
use Rattle.acceptors.specs.Recent.{step_in}
use Rattle.acceptors.proofs.recent.note_one.Goals as goal

or_none : (b : Bool) → b ≡ (b || false)
or_none true = refl
or_none false = refl

pub returns-clause-noted : goal.returns-clause-noted
returns-clause-noted c = λ t.
    c.in-Ok.ensures.updates.0 (t.class, t.id)
    ∙ ap (λ (b : Bool). if b then Some c.args.step else step_in c.args.steps.now.entries t) (or_none (is_same c.args.touch.now t))
