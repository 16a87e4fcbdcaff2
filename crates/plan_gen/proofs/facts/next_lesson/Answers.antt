use Rattle.std.proofs.Common.{◌+◌, ◌*◌, ◌/◌, arith, ap, ◌∙◌}
use Rattle.plan_gen.specs.Draw.{given_by}
use Rattle.plan_gen.proofs.DrawLemmas.{state_after-more}
use Rattle.plan_gen.proofs.facts.next_lesson.Goals as goal

pub returns : goal.returns
returns c = λ number start.
    let first = 4 * c.args.place in
    let after_subject = state_after-more number first (first + 1) _ _ start c.below-subject.ensures.state (omega arith) in
    let after_teacher = state_after-more number (first + 1) (first + 1 + 1) _ _ after_subject c.below-teacher.ensures.state (omega arith) in
    let after_group = state_after-more number (first + 1 + 1) (first + 2 + 1) _ _ after_teacher c.below-group.ensures.state (omega arith) in
    let after_size = state_after-more number (first + 2 + 1) (first + 3 + 1) _ _ after_group c.below.ensures.state (omega arith) in
    let after = state_after-more number (first + 2 + 1) (4 * (c.args.place + 1)) _ _ after_group c.below.ensures.state (omega arith) in
    let subject = c.below-subject.ensures.value ∙ ap (λ x. given_by x 8) after_subject in
    let teacher = c.below-teacher.ensures.value ∙ ap (λ x. given_by x ((c.args.size + 9) / 10)) after_teacher in
    let group = c.below-group.ensures.value ∙ ap (λ x. given_by x ((c.args.size + 19) / 20)) after_group in
    let size = c.below.ensures.value ∙ ap (λ x. given_by x 16) after_size in
    (after, cc)
