use Rattle.std.proofs.Common.{◌≡◌, ◌∙◌, ◌++◌, ℕ, List, ap}
use Rattle.plan_gen.specs.Text.{problem_text}
use Rattle.plan_session.proofs.generate.tour.Goals as goal

pub returns-in-Ok-clause-ended : goal.returns-in-Ok-clause-ended
returns-in-Ok-clause-ended g c =
    let text = problem_text c.args.number c.args.size in
    let is : c.deref.result.now ≡ text =
    c.deref.ensures.value ∙ c.in-Ok.ensures.ok ∙ ap (λ (zs : List ℕ). zs ++ text) c.new-bytes.ensures.items in
    rw is at c.answer.ensures.ended
