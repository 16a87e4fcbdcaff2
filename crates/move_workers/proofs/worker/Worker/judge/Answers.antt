use Rattle.std.proofs.Common.{rules, ◌≡◌, ◌∙◌, true, false, List, Some, None, ap, sym}
use Rattle.plan_moves.specs.declared.edit.Touch.{Touch}
use Rattle.score_director.specs.View.{judged}
use Rattle.move_workers.specs.Judging.{WorkerView, found_by}
use Rattle.move_workers.proofs.Drawn.{candidate_drawn, found_none, found_some, none_due, some_due}
use Rattle.move_workers.proofs.worker.Worker.judge.Goals as goal

pub returns-then-not-branch-clause-found : goal.returns-then-not-branch-clause-found
returns-then-not-branch-clause-found g c =
    let worker = c.args.self.now in
    let undrawn : c.in_ok-draw.field-0 ≡ false = search rules in
    let seed = c.requires.seed ∙ sym (ap (λ (w : WorkerView). w.seed) c.self.view_is) in
    let plan = c.plan.ensures ∙ ap (λ (w : WorkerView). w.director.plan) c.self.view_is in
    let due = none_due _ _ _ undrawn c.in_ok-draw.ensures.edit in
    sym (ap (found_by g.B.Book.meaning worker.director) (candidate_drawn _ _ _ _ _ _ worker _ None seed plan due))

pub returns-in_default-clause-found : goal.returns-in_default-clause-found
returns-in_default-clause-found g c =
    let worker = c.args.self.now in
    let m = g.B.Book.meaning in
    let edit = c.draw.new.hand.edit in
    let drawn : c.in_ok-draw.field-0 ≡ true = search rules in
    let seed = c.requires.seed ∙ sym (ap (λ (w : WorkerView). w.seed) c.self.view_is) in
    let plan = c.plan.ensures ∙ ap (λ (w : WorkerView). w.director.plan) c.self.view_is in
    let due = some_due _ _ _ drawn c.in_ok-draw.ensures.edit in
    let score = sym (ap (λ (w : WorkerView). judged m w.director edit) c.self.view_is) ∙ sym c.in_ok-judged.ensures.score in
    let found = found_none m worker.director edit (score ∙ c.in_default.is) in
    sym (ap (found_by m worker.director) (candidate_drawn _ _ _ _ _ _ worker _ (Some edit) seed plan due) ∙ found)

pub returns-clause-found : goal.returns-clause-found
returns-clause-found g c =
    let worker = c.args.self.now in
    let m = g.B.Book.meaning in
    let edit = c.draw.new.hand.edit in
    let drawn : c.in_ok-draw.field-0 ≡ true = search rules in
    let seed = c.requires.seed ∙ sym (ap (λ (w : WorkerView). w.seed) c.self.view_is) in
    let plan = c.plan.ensures ∙ ap (λ (w : WorkerView). w.director.plan) c.self.view_is in
    let due = some_due _ _ _ drawn c.in_ok-draw.ensures.edit in
    let score = sym (ap (λ (w : WorkerView). judged m w.director edit) c.self.view_is) ∙ sym c.in_ok-judged.ensures.score in
    let found = found_some m worker.director edit c.in-Some.score (score ∙ c.in-Some.is) in
    ap (λ (touched : List Touch). Some (record { score = c.in-Some.score; touched = touched })) c.in_ok-touched.ensures.touched
    ∙ sym (ap (found_by m worker.director) (candidate_drawn _ _ _ _ _ _ worker _ (Some edit) seed plan due) ∙ found)
