use Rattle.std.proofs.Common.{◌≡◌, ◌∙◌, ◌<◌, ◌≤◌, None, length, get_or, sym, ap, subst}
use Rattle.std.specs.List.{AllZip}
use Rattle.std.proofs.lemmas.List.{get_or_default}
use Rattle.plan_facts.specs.Plan.{class_of, range_of}
use Rattle.plan_changes.specs.Performed.{with_choice, IsChoice}
use Rattle.plan_changes.specs.Ready.{ReadyView}
use Rattle.plan_changes.proofs.Kept.{assigned_more, assigned_all, choice_at}
use Rattle.plan_changes.proofs.ready.Ready.assign.Goals as goal

pub set_choice-requires-clause-value : goal.set_choice-requires-clause-value
set_choice-requires-clause-value c =
    let self = c.args.self.now in
    let place = c.loop-place.place in
    let values = c.as_slice-values.result.now in
    let value = get_or values place None in
    let same = c.as_slice-values.ensures ∙ ap (λ (r : ReadyView). r.values) c.self.view_is in
    let fits = subst (AllZip (IsChoice c.args.plan.now) (class_of c.args.plan.now self.class).ranges) (sym same) c.requires.fits.values in
    let at = get_or_default values place None value c.loop-place-test.true in
    let held = choice_at c.args.plan.now c.loop-place.plan self.class values place value c.loop-place.invariant.keeps fits c.loop-place-test.true at in
    subst (λ (r : ReadyView). IsChoice c.loop-place.plan (range_of c.loop-place.plan r.class place) value) (sym c.self.view_is) held

pub loop-place-preserved : goal.loop-place-preserved
loop-place-preserved c =
    let self = c.args.self.now in
    let place = c.loop-place.place in
    let values = c.as_slice-values.result.now in
    let value = get_or values place None in
    let same = c.as_slice-values.ensures ∙ ap (λ (r : ReadyView). r.values) c.self.view_is in
    let within = subst (λ xs. place < length xs) same c.loop-place-test.true in
    let at = subst (λ xs. value ≡ get_or xs place value) same (get_or_default values place None value c.loop-place-test.true) in
    let done = c.set_choice.ensures ∙ ap (λ (r : ReadyView). with_choice r.class r.id c.loop-place.plan (place, value)) c.self.view_is in
    assigned_more self.class self.id self.values c.args.plan.now place value c.loop-place.plan c.set_choice.new.plan c.loop-place.invariant within at done

pub returns : goal.returns
returns c =
    let self = c.args.self.now in
    let same = c.as_slice-values.ensures ∙ ap (λ (r : ReadyView). r.values) c.self.view_is in
    let past = subst (λ xs. length xs ≤ c.loop-place.place) same c.loop-place-test.false in
    assigned_all self.class self.id self.values c.args.plan.now c.loop-place.place c.loop-place.plan past c.loop-place.invariant
