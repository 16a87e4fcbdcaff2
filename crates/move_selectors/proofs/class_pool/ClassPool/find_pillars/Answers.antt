use Rattle.std.proofs.Common.{◌∙◌, sym, subst}
use Rattle.plan_facts.specs.Plan.{class_of}
use Rattle.plan_moves.specs.Entities.{movable_in}
use Rattle.move_selectors.specs.Links.{AreLinksOf}
use Rattle.move_selectors.specs.Linked.{links_view}
use Rattle.move_selectors.specs.Pool.{IsClassPoolOf}
use Rattle.move_selectors.proofs.Parts.{part_within, part_few, part_short, class_links, ok_links}
use Rattle.move_selectors.proofs.class_pool.ClassPool.find_pillars.Goals as goal

pub find_links-found-requires-clause-few : goal.find_links-found-requires-clause-few
find_links-found-requires-clause-few c =
    let plan = c.args.plan.now in
    let part = subst (IsClassPoolOf plan) (sym c.self.view_is) c.requires in
    part_few plan c.self.inside.class c.facts-facts.ensures.sound c.facts-facts.result.now c.nullables-nullables.result.now c.deref.result.now c.facts-facts.ensures.facts c.nullables-nullables.ensures.nullables (c.deref.ensures.value ∙ part.places)

pub find_links-found-requires-clause-within : goal.find_links-found-requires-clause-within
find_links-found-requires-clause-within c =
    let plan = c.args.plan.now in
    let part = subst (IsClassPoolOf plan) (sym c.self.view_is) c.requires in
    part_within plan c.self.inside.class c.facts-facts.ensures.sound c.facts-facts.result.now c.nullables-nullables.result.now c.deref.result.now c.facts-facts.ensures.facts c.nullables-nullables.ensures.nullables (c.deref.ensures.value ∙ part.places)

pub find_links-found-requires-clause-short : goal.find_links-found-requires-clause-short
find_links-found-requires-clause-short c =
    let plan = c.args.plan.now in
    let part = subst (IsClassPoolOf plan) (sym c.self.view_is) c.requires in
    part_short plan c.self.inside.class c.facts-facts.ensures.sound c.facts-facts.result.now c.nullables-nullables.result.now c.deref.result.now c.facts-facts.ensures.facts c.nullables-nullables.ensures.nullables (c.deref.ensures.value ∙ part.places)

pub returns-clause-part : goal.returns-clause-part
returns-clause-part c =
    let plan = c.args.plan.now in
    let class = c.self.inside.class in
    let part = subst (IsClassPoolOf plan) (sym c.self.view_is) c.requires in
    record {
      places = part.places;
      links = ok_links c.find_links-found.result c.is_ok-self-inside.result (links_view c.find_links-found.new.links) (AreLinksOf (class_of plan class).nullables (movable_in plan class)) _ c.is_ok-self-inside.ensures.value
          (class_links plan class c.facts-facts.ensures.sound c.facts-facts.result.now c.nullables-nullables.result.now c.deref.result.now c.facts-facts.ensures.facts c.nullables-nullables.ensures.nullables (c.deref.ensures.value ∙ part.places) (links_view c.find_links-found.new.links))
          c.find_links-found.ensures;
    }
