use Rattle.std.proofs.Common.{◌∙◌, ap}
use Rattle.plan_facts.specs.Plan.{ClassView, ids_in}
use Rattle.plan_facts.proofs.Places.{found_record}
use Rattle.plan_facts.proofs.table.Table.place.Goals as goal

pub returns : goal.returns
returns c =
    let is = c.deref.ensures.value ∙ c.self.invariant ∙ ap (λ (v : ClassView). ids_in v.facts) c.self.view_is in
    found_record c.args.self.now.facts c.deref.result.now c.args.id c.place_of.result is c.place_of.ensures
