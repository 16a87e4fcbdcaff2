use Rattle.std.proofs.Common.{◌∙◌, ℕ, sym, ap, subst}
use Rattle.plan_facts.specs.PlanBack.{PutsBack}
use Rattle.plan_changes.specs.Ready.{ReadyView}
use Rattle.plan_changes.proofs.Undone.{removed_back}
use Rattle.plan_changes.proofs.ready.Ready.removal_back.Goals as goal

pub returns : goal.returns
returns c = λ names.
    let ready = c.args.self.now in
    let plan = c.args.plan.now in
    let class = ap (λ (r : ReadyView). r.class) c.self.view_is in
    let id = ap (λ (r : ReadyView). r.id) c.self.view_is in
    removed_back ready names plan c.in_ok-removal.removal c.requires.deed c.removal.ensures.sound
    (subst (λ (n : ℕ). PutsBack c.in_ok-removal.removal plan ready.class n) id (subst (λ (n : ℕ). PutsBack c.in_ok-removal.removal plan n c.self.inside.id) class c.in_ok-removal.ensures.puts))
