use Rattle.std.proofs.Common.{◌≡◌, ◌∙◌, ◌<◌, ◌≤◌, length, get_or, ap, subst}
use Rattle.plan_changes.specs.Performed.{with_item}
use Rattle.plan_changes.specs.Ready.{ReadyView}
use Rattle.plan_changes.proofs.Kept.{altered_more, altered_all}
use Rattle.plan_changes.proofs.ready.Ready.alter.Goals as goal

pub loop-place-preserved : goal.loop-place-preserved
loop-place-preserved c =
    let self = c.args.self.now in
    let place = c.loop-place.place in
    let item = c.index-items-place.result in
    let same = c.as_slice-items.ensures ∙ ap (λ (r : ReadyView). r.fields) c.self.view_is in
    let within = subst (λ items. place < length items) same c.loop-place-test.true in
    let at = subst (λ items. item ≡ get_or items place item) same c.index-items-place.is in
    let done = c.set_item.ensures ∙ ap (λ (r : ReadyView). with_item c.args.names.now r.class r.id c.loop-place.plan (place, item)) c.self.view_is in
    altered_more c.args.names.now self.class self.id self.fields c.args.plan.now place item c.loop-place.plan c.set_item.new.plan c.loop-place.invariant within at done

pub returns : goal.returns
returns c =
    let self = c.args.self.now in
    let same = c.as_slice-items.ensures ∙ ap (λ (r : ReadyView). r.fields) c.self.view_is in
    let past = subst (λ items. length items ≤ c.loop-place.place) same c.loop-place-test.false in
    altered_all c.args.names.now self.class self.id self.fields c.args.plan.now c.loop-place.place c.loop-place.plan past c.loop-place.invariant
