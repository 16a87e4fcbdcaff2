use Rattle.std.proofs.Common.{◌∙◌, ◌≤◌, ap, length, Some, if◌then◌else◌, rules}
use Rattle.std.proofs.lemmas.List.{take_all}
use Rattle.plan_moves.specs.declared.edit.Touch.{Touch}
use Rattle.std.proofs.Common.{List}
use Rattle.acceptors.specs.Accept.{is_among}
use Rattle.acceptors.specs.Recent.{Notes, step_in}
use Rattle.acceptors.proofs.recent.LastSteps.note.Goals as goal

pub returns-clause-ok : goal.returns-clause-ok
returns-clause-ok c = λ t.
    let past : length c.args.touched.now ≤ c.loop-touch.touch-index = search rules in
    c.loop-touch.invariant.noted t
    ∙ (ap (λ (touched : List Touch). if is_among touched t then Some c.args.step else step_in c.reserve.new.self.entries t) (take_all c.loop-touch.touch-index c.args.touched.now past)
    ∙ (ap (λ step. if is_among c.args.touched.now t then Some c.args.step else step) (c.in_ok-reserve.ensures.entries.2 (t.class, t.id))
    ∙ ap (λ (notes : Notes). if is_among c.args.touched.now t then Some c.args.step else step_in notes t) c.self.view_is))
