use Rattle.std.proofs.Common.{◌∙◌, ap, refl, arith}
use Rattle.plan_facts.specs.Plan.{PlanView}
use Rattle.plan_rules.specs.Range.{sizes_of}
use Rattle.score_director.proofs.Worth.{sizes_of-applied}
use Rattle.plan_session.specs.WayBack.{IsWayBack}
use Rattle.plan_session.proofs.WayBack.{gone_back, is_home, may_go_back}
use Rattle.plan_session.proofs.best.lead_back.Goals as goal

pub edits-init : goal.edits-init
edits-init c = record { some = c.requires; goes_on = λ best way. way; sizes = refl }

pub apply-requires : goal.apply-requires
apply-requires c =
    let some = c.edits.invariant.some in
    may_go_back some.0 c.edits.plan c.edits.back.items c.pop.new.self.items c.in-Some.edit c.in-Some.ensures.items some.1

pub edits-preserved : goal.edits-preserved
edits-preserved c =
    let some = c.edits.invariant.some in
    let gone : (best : PlanView) → IsWayBack best c.edits.back.items c.edits.plan → IsWayBack best c.pop.new.self.items c.apply.new.plan =
    λ best. gone_back best c.edits.plan c.apply.new.plan c.edits.back.items c.pop.new.self.items c.in-Some.edit c.in-Some.ensures.items c.apply.ensures in
    record {
      some = (some.0, gone some.0 some.1);
      goes_on = λ best way. gone best (c.edits.invariant.goes_on best way);
      sizes = ap sizes_of c.apply.ensures ∙ sizes_of-applied c.edits.plan c.in-Some.edit ∙ c.edits.invariant.sizes;
    }

pub returns : goal.returns
returns c = record {
  best = λ best way. is_home best c.edits.plan c.edits.back.items (omega (arith, c.in_default.ensures.cases.0)) (c.edits.invariant.goes_on best way);
  sizes = c.edits.invariant.sizes;
}
