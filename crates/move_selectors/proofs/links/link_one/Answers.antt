use Rattle.std.proofs.Common.{◌≡◌, ◌∙◌, ◌+◌, ◌<◌, ◌++◌, ◌∷◌, [], ℕ, List, Option, Some, None, Bool, length, get_or, set, All, ap, sym, subst, arith}
use Rattle.std.specs.HashMap.{get}
use Rattle.plan_facts.specs.declared.record.Raw.{Raw}
use Rattle.move_selectors.specs.Pillars.{is_settled}
use Rattle.move_selectors.specs.Linked.{Key, AreShort, IsLinked, IsLast, IsLastAt, key_of, is_key, place_in}
use Rattle.move_selectors.specs.Pool.{at_places}
use Rattle.move_selectors.specs.Links.{values_at}
use Rattle.move_selectors.proofs.LinkLaws.{linked_unsettled, linked_new, linked_again, noted_values}
use Rattle.move_selectors.proofs.Placed.{length-at_places, entity_at}
use Rattle.move_selectors.proofs.links.link_one.Goals as goal

-- what is known of the entity at a place
record Here (facts : List Raw) (places : List ℕ) (nullables : List Bool) (at : ℕ) (values : List (Option ℕ)) : Type 0 where
  within : at < length (at_places facts places)
  holds : values_at (at_places facts places) at ≡ values
  short : length (values_at (at_places facts places) at) ≡ length nullables

here : (facts : List Raw) (places : List ℕ) (nullables : List Bool) (at : ℕ) (raw : Raw) (values : List (Option ℕ)) → at < length places → All (λ place. place < length facts) places → AreShort nullables (at_places facts places)
    → raw ≡ get_or facts (get_or places at 0) raw → values ≡ (get_or facts (get_or places at 0) raw).values → Here facts places nullables at values
here facts places nullables at raw values there inside short is holds =
    let long = length-at_places facts places in
    let within : at < length (at_places facts places) = omega arith in
    record {
      within = within;
      holds = ap (λ (r : Raw). r.values) (entity_at facts places at raw there inside is ∙ is) ∙ sym holds;
      short = short.values at _ within;
    }

-- the links of one more, where the place is pushed for all of them
pushed : (facts : List Raw) (places next new : List ℕ) → new ≡ next ++ length places ∷ [] → new ≡ next ++ length (at_places facts places) ∷ []
pushed facts places next new is = is ∙ ap (λ (n : ℕ). next ++ n ∷ []) (sym (length-at_places facts places))

pub returns-then-not-is_settled : goal.returns-then-not-is_settled
returns-then-not-is_settled c =
    let facts = c.args.facts.now in
    let places = c.args.places.now in
    let entity = here facts places c.args.nullables.now c.args.at c.index-facts-places.result c.as_slice-values.result.now c.requires.at.0 c.requires.within c.requires.short c.index-facts-places.is c.as_slice-values.ensures in
    let unsettled = ap (is_settled c.args.nullables.now) entity.holds ∙ sym c.is_settled.ensures ∙ c.if-not-is_settled.true in
    subst (λ (next : List ℕ). IsLinked c.args.nullables.now (at_places facts places) (c.args.at + 1) c.args.links.now.heads.items next (place_in c.args.links.now.last))
    (sym (pushed facts places c.args.links.now.next.items c.push.new.self.items c.in_ok-push.ensures.items))
    (linked_unsettled c.args.nullables.now (at_places facts places) c.args.at entity.within c.args.links.now.heads.items c.args.links.now.next.items (place_in c.args.links.now.last) c.requires.so_far unsettled)

pub index_mut-requires : goal.index_mut-requires
index_mut-requires c =
    let facts = c.args.facts.now in
    let places = c.args.places.now in
    let entity = here facts places c.args.nullables.now c.args.at c.index-facts-places.result c.as_slice-values.result.now c.requires.at.0 c.requires.within c.requires.short c.index-facts-places.is c.as_slice-values.ensures in
    let settled = ap (is_settled c.args.nullables.now) entity.holds ∙ sym c.is_settled.ensures ∙ c.if-not-is_settled.false in
    let was : place_in c.args.links.now.last (values_at (at_places facts places) c.args.at) ≡ Some c.in-Some.before =
    ap (λ (k : Key). get is_key c.args.links.now.last k) (ap key_of entity.holds ∙ sym c.key_of.ensures) ∙ sym c.in_ok-before.ensures.old ∙ c.in-Some.is in
    let last : IsLastAt (at_places facts places) c.args.at (values_at (at_places facts places) c.args.at) c.in-Some.before =
    subst (IsLast (at_places facts places) c.args.at (values_at (at_places facts places) c.args.at)) was (c.requires.so_far.lasts (values_at (at_places facts places) c.args.at) entity.short settled) in
    let less = last.within in
    let long = c.in_ok-push.ensures.len in
    let old = c.requires.so_far.long in
    omega arith

pub returns-in-Some : goal.returns-in-Some
returns-in-Some c =
    let facts = c.args.facts.now in
    let places = c.args.places.now in
    let entity = here facts places c.args.nullables.now c.args.at c.index-facts-places.result c.as_slice-values.result.now c.requires.at.0 c.requires.within c.requires.short c.index-facts-places.is c.as_slice-values.ensures in
    let settled = ap (is_settled c.args.nullables.now) entity.holds ∙ sym c.is_settled.ensures ∙ c.if-not-is_settled.false in
    let key = c.key_of.ensures ∙ ap key_of (sym entity.holds) in
    let was : place_in c.args.links.now.last (values_at (at_places facts places) c.args.at) ≡ Some c.in-Some.before =
    ap (λ (k : Key). get is_key c.args.links.now.last k) (sym key) ∙ sym c.in_ok-before.ensures.old ∙ c.in-Some.is in
    subst (λ (next : List ℕ). IsLinked c.args.nullables.now (at_places facts places) (c.args.at + 1) c.args.links.now.heads.items (set next c.in-Some.before c.args.at) (place_in c.insert.new.self))
    (sym (pushed facts places c.args.links.now.next.items c.push.new.self.items c.in_ok-push.ensures.items))
    (linked_again c.args.nullables.now (at_places facts places) c.args.at entity.within c.args.links.now.heads.items c.args.links.now.next.items (place_in c.args.links.now.last) (place_in c.insert.new.self) c.in-Some.before c.requires.so_far settled entity.short was
    (noted_values c.args.nullables.now (values_at (at_places facts places) c.args.at) c.args.at c.key_of.result (get is_key c.args.links.now.last) (get is_key c.insert.new.self) c.requires.short.few entity.short key c.in_ok-before.ensures.updates.0))

pub returns-in_ok-push-in-None : goal.returns-in_ok-push-in-None
returns-in_ok-push-in-None c =
    let facts = c.args.facts.now in
    let places = c.args.places.now in
    let entity = here facts places c.args.nullables.now c.args.at c.index-facts-places.result c.as_slice-values.result.now c.requires.at.0 c.requires.within c.requires.short c.index-facts-places.is c.as_slice-values.ensures in
    let settled = ap (is_settled c.args.nullables.now) entity.holds ∙ sym c.is_settled.ensures ∙ c.if-not-is_settled.false in
    let key = c.key_of.ensures ∙ ap key_of (sym entity.holds) in
    let was : place_in c.args.links.now.last (values_at (at_places facts places) c.args.at) ≡ None =
    ap (λ (k : Key). get is_key c.args.links.now.last k) (sym key) ∙ sym c.in_ok-before.ensures.old ∙ c.in-None.is in
    subst (λ (heads : List ℕ). IsLinked c.args.nullables.now (at_places facts places) (c.args.at + 1) heads c.push.new.self.items (place_in c.insert.new.self)) (sym c.in_ok-push-in-None.ensures.items)
    (subst (λ (next : List ℕ). IsLinked c.args.nullables.now (at_places facts places) (c.args.at + 1) (c.args.links.now.heads.items ++ c.args.at ∷ []) next (place_in c.insert.new.self))
    (sym (pushed facts places c.args.links.now.next.items c.push.new.self.items c.in_ok-push.ensures.items))
    (linked_new c.args.nullables.now (at_places facts places) c.args.at entity.within c.args.links.now.heads.items c.args.links.now.next.items (place_in c.args.links.now.last) (place_in c.insert.new.self) c.requires.so_far settled entity.short was
    (noted_values c.args.nullables.now (values_at (at_places facts places) c.args.at) c.args.at c.key_of.result (get is_key c.args.links.now.last) (get is_key c.insert.new.self) c.requires.short.few entity.short key c.in_ok-before.ensures.updates.0)))
