use Rattle.std.proofs.Common.{◌≡◌, ◌∙◌, ℕ, Option, Some, sym, ap, subst}
use Rattle.std.specs.Option.{option_copied}
use Rattle.plan_facts.specs.declared.record.Raw.{Raw}
use Rattle.plan_facts.specs.Plan.{fact_of}
use Rattle.plan_changes.specs.Performed.{plan_after}
use Rattle.plan_changes.specs.Ready.{ReadyView}
use Rattle.plan_changes.specs.Undo.{TakesBack}
use Rattle.plan_changes.specs.declared.undo.Undo.TheVariants.{Record}
use Rattle.plan_changes.proofs.Undone.{kept_back}
use Rattle.plan_changes.proofs.ready.Ready.record_back.Goals as goal

pub returns : goal.returns
returns c = λ names.
    let ready = c.args.self.now in
    let plan = c.args.plan.now in
    let class : c.self.inside.class ≡ ready.class = ap (λ (r : ReadyView). r.class) c.self.view_is in
    let id : c.self.inside.id ≡ ready.id = ap (λ (r : ReadyView). r.id) c.self.view_is in
    let found : fact_of plan ready.class ready.id ≡ Some c.in-Some.raw.now = (λ i. fact_of plan (sym class i) (sym id i)) ∙ sym c.raw.ensures.fact ∙ ap option_copied c.in-Some.is in
    let back = kept_back ready names plan c.in-Some.raw.now c.requires.deed c.raw.ensures.sound c.requires.fits found in
    subst (λ (n : ℕ). TakesBack (Record n c.in_ok-record-in-Some.record) plan (plan_after ready names plan)) (sym class)
    (subst (λ (r : Raw). TakesBack (Record ready.class r) plan (plan_after ready names plan)) (sym c.in_ok-record-in-Some.ensures) back)
