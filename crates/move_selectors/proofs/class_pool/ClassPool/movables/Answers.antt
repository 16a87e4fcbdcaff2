use Rattle.std.proofs.Common.{◌∙◌, IsSome, sym, subst}
use Rattle.plan_facts.specs.Plan.{class_of}
use Rattle.plan_moves.specs.Entities.{movable_in}
use Rattle.move_selectors.specs.Links.{AreLinksOf}
use Rattle.move_selectors.specs.Linked.{links_view}
use Rattle.move_selectors.specs.Pool.{ClassPoolView, IsClassPoolOf}
use Rattle.move_selectors.proofs.Parts.{part_entities, part_within, part_few, part_values, part_links, found_links}
use Rattle.move_selectors.proofs.class_pool.ClassPool.movables.Goals as goal

pub returns-clause-of : goal.returns-clause-of
returns-clause-of c =
    let plan = c.args.plan.now in
    let class = c.self.inside.class in
    let part = subst (IsClassPoolOf plan) (sym c.self.view_is) c.requires in
    let places = c.deref.ensures.value ∙ part.places in
    record {
      nullables = c.nullables.ensures.nullables;
      entities = part_entities plan class c.facts.ensures.sound c.facts.result.now c.nullables.result.now c.deref.result.now c.facts.ensures.facts c.nullables.ensures.nullables places;
      there = record {
        within = part_within plan class c.facts.ensures.sound c.facts.result.now c.nullables.result.now c.deref.result.now c.facts.ensures.facts c.nullables.ensures.nullables places;
        few = part_few plan class c.facts.ensures.sound c.facts.result.now c.nullables.result.now c.deref.result.now c.facts.ensures.facts c.nullables.ensures.nullables places;
      };
      short = part_values plan class c.facts.ensures.sound c.facts.result.now c.nullables.result.now c.deref.result.now c.facts.ensures.facts c.nullables.ensures.nullables places;
    }

pub returns-clause-links : goal.returns-clause-links
returns-clause-links c = λ some.
    let plan = c.args.plan.now in
    let class = c.self.inside.class in
    let part = subst (IsClassPoolOf plan) (sym c.self.view_is) c.requires in
    let places = c.deref.ensures.value ∙ part.places in
    part_links plan class c.facts.ensures.sound c.facts.result.now c.nullables.result.now c.deref.result.now c.facts.ensures.facts c.nullables.ensures.nullables places
    (links_view c.self.inside.links)
    (found_links c.self.inside.found (links_view c.self.inside.links) (AreLinksOf (class_of plan class).nullables (movable_in plan class)) (subst (λ (p : ClassPoolView). IsSome p.links) (sym c.self.view_is) some) part.links)
