use Rattle.std.proofs.Common.{◌+◌, List, subst, sym, take}
use Rattle.std.specs.List.{AllZip}
use Rattle.score_director.specs.declared.rule.RuleAhead.{RuleAhead}
use Rattle.score_director.specs.declared.rule.RuleNet.{RuleNet}
use Rattle.score_director.specs.Rule.{HasPlaces}
use Rattle.score_director.proofs.FreshLaws.{zip_grown}
use Rattle.score_director.proofs.fresh.places_of.Goals as goal

pub loop-net-preserved : goal.loop-net-preserved
loop-net-preserved c =
    let nets = c.args.nets.now in
    let here = subst (λ (net : RuleNet). HasPlaces net c.in_ok-places_in.field-0) c.net-item.is c.in_ok-places_in.ensures in
    subst (λ (found : List RuleAhead). AllZip HasPlaces (take (c.loop-net.net-index + 1) nets) found) (sym c.in_ok-push.ensures.items)
    (zip_grown HasPlaces nets c.loop-net.found.items c.loop-net.net-index c.net-item.result c.in_ok-places_in.field-0 c.loop-net-test.true c.loop-net.invariant here)
