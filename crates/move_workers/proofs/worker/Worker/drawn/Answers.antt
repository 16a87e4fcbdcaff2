use Rattle.std.proofs.Common.{rules, ◌≡◌, ◌∙◌, true, false, List, Some, None, ap, sym}
use Rattle.plan_facts.specs.Plan.{PlanView}
use Rattle.plan_moves.specs.declared.edit.Set.{Set}
use Rattle.plan_moves.specs.Edits.{is_doable}
use Rattle.move_workers.specs.Judging.{WorkerView}
use Rattle.move_workers.proofs.Drawn.{candidate_drawn, doable_none, doable_some, none_due, some_due}
use Rattle.move_workers.proofs.worker.Worker.drawn.Goals as goal
use Rattle.move_workers.proofs.worker.Worker.drawn.Goals.{then-not-drawn-via-then-not-drawn, then-not-drawn-via-else-not-drawn+then-not-doable}

pub returns-then-not-drawn-clause-candidate : goal.returns-then-not-drawn-clause-candidate
returns-then-not-drawn-clause-candidate g c =
    let worker = c.args.self.now in
    let edit = c.draw.new.hand.edit in
    let seed = c.requires.seed ∙ sym (ap (λ (w : WorkerView). w.seed) c.self.view_is) in
    let plan = c.plan-plan.ensures ∙ ap (λ (w : WorkerView). w.director.plan) c.self.view_is in
    elim c.then-not-drawn.branch [
      | then-not-drawn-via-then-not-drawn w ↦
          let undrawn : c.in_ok-drawn.drawn ≡ false = search rules in
          let due = none_due _ _ _ undrawn c.in_ok-drawn.ensures.edit in
          sym (candidate_drawn _ _ _ _ _ _ worker _ None seed plan due)
      | then-not-drawn-via-else-not-drawn+then-not-doable w ↦
          let drawn : c.in_ok-drawn.drawn ≡ true = search rules in
          let due = some_due _ _ _ drawn c.in_ok-drawn.ensures.edit in
          let undoable = sym (ap (λ (p : PlanView). is_doable p edit) plan) ∙ sym w.doable.ensures ∙ w.if-not-doable.true in
          sym (candidate_drawn _ _ _ _ _ _ worker _ (Some edit) seed plan due ∙ doable_none worker.director.plan edit undoable)
    ]

pub returns-clause-candidate : goal.returns-clause-candidate
returns-clause-candidate g c =
    let worker = c.args.self.now in
    let edit = c.draw.new.hand.edit in
    let seed = c.requires.seed ∙ sym (ap (λ (w : WorkerView). w.seed) c.self.view_is) in
    let plan = c.plan-plan.ensures ∙ ap (λ (w : WorkerView). w.director.plan) c.self.view_is in
    let drawn : c.in_ok-drawn.drawn ≡ true = search rules in
    let due = some_due _ _ _ drawn c.in_ok-drawn.ensures.edit in
    let doable = sym (ap (λ (p : PlanView). is_doable p edit) plan) ∙ sym c.doable.ensures ∙ c.if-not-doable.false in
    ap (λ (sets : List Set). Some sets) c.replace.ensures.value
    ∙ sym (candidate_drawn _ _ _ _ _ _ worker _ (Some edit) seed plan due ∙ doable_some worker.director.plan edit doable)
