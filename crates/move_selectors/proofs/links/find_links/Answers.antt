use Rattle.std.proofs.Common.{[], ℕ, List, ap, sym, subst, arith}
use Rattle.std.specs.Map.{lookup}
use Rattle.move_selectors.specs.Linked.{IsLinked, key_of, is_key, place_in, links_view}
use Rattle.move_selectors.specs.Pool.{at_places}
use Rattle.move_selectors.proofs.LinkLaws.{none_linked, all_linked}
use Rattle.move_selectors.proofs.Placed.{length-at_places}
use Rattle.move_selectors.proofs.links.find_links.Goals as goal

pub loop-at-init : goal.loop-at-init
loop-at-init c =
    let e = c.clear-3.ensures.empty in
    subst (λ (heads : List ℕ). IsLinked c.args.nullables.now (at_places c.args.facts.now c.args.places.now) 0 heads c.clear-2.new.self.items (place_in c.clear-3.new.self)) (sym c.clear.ensures.items)
    (subst (λ (next : List ℕ). IsLinked c.args.nullables.now (at_places c.args.facts.now c.args.places.now) 0 [] next (place_in c.clear-3.new.self)) (sym c.clear-2.ensures.items)
    (none_linked c.args.nullables.now (at_places c.args.facts.now c.args.places.now) (place_in c.clear-3.new.self) (λ values. ap (lookup (is_key (key_of values))) e)))

pub returns : goal.returns
returns c =
    all_linked c.args.nullables.now (at_places c.args.facts.now c.args.places.now) c.loop-at.at (links_view c.loop-at.links) (place_in c.loop-at.links.last) c.loop-at.invariant
    (let long = length-at_places c.args.facts.now c.args.places.now in omega arith)
