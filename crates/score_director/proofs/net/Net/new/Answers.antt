use Rattle.std.proofs.Common.{◌≤◌, ℕ, List, length, subst, sym}
use Rattle.std.specs.List.{AllZip}
use Rattle.score_director.specs.declared.rule.RuleNet.{RuleNet}
use Rattle.score_director.specs.Rule.{HasPlaces}
use Rattle.score_director.proofs.FreshLaws.{fresh_net}
use Rattle.score_director.proofs.net.Net.new.Goals as goal

pub invariant_of-result : goal.invariant_of-result
invariant_of-result g c =
    let rules = c.args.rules.now in
    let found = c.in_ok-found.found.items in
    let places = subst (λ (nets : List RuleNet). AllZip HasPlaces nets found) c.deref.ensures.value c.in_ok-found.ensures in
    fresh_net rules.schema rules.numbers rules.defs rules.harder c.new.result c.in_ok-nets.nets.items c.in_ok-changes.changes.items found
    rules.accepted c.new.ensures (subst (λ (n : ℕ). length rules.schema ≤ n) (sym c.in_ok-changes.ensures) c.requires) c.in_ok-nets.ensures places
