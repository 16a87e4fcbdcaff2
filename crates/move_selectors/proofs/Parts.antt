-- A class of entities, read from a plan.
use Rattle.std.proofs.Common.{◌≡◌, ◌∙◌, ◌<◌, ◌≤◌, ◌^◌, ℕ, Bool, true, false, Some, None, IsSome, IfSome, Result, Ok, Err, is_ok, OnOk, List, length, All, ap, sym, subst, arith, if◌then◌else◌}
use Rattle.std.proofs.lemmas.List.Elements.{All-weaker}
use Rattle.plan_facts.specs.declared.record.Raw.{Raw}
use Rattle.plan_facts.specs.Plan.{PlanView, class_of, IsPlan}
use Rattle.plan_moves.specs.Entities.{movable_in}
use Rattle.move_selectors.specs.Links.{LinksView, AreLinksOf}
use Rattle.move_selectors.specs.Linked.{AreShort}
use Rattle.move_selectors.specs.Pool.{at_places, movable_places}
use Rattle.move_selectors.proofs.Placed.{at_movable, places_within, places_fit}
use Rattle.move_selectors.proofs.Bounds.{few_facts, short_movables}

module _ (plan : PlanView) (class : ℕ) (sound : IsPlan plan) (facts : List Raw) (nullables : List Bool) (places : List ℕ)
    (facts_are : facts ≡ (class_of plan class).facts) (nullables_are : nullables ≡ (class_of plan class).nullables) (places_are : places ≡ movable_places (class_of plan class).facts) where
  pub part_entities : at_places facts places ≡ movable_in plan class
  part_entities = ap (λ (all : List Raw). at_places all places) facts_are ∙ ap (at_places (class_of plan class).facts) places_are ∙ at_movable (class_of plan class).facts

  pub part_within : All (λ place. place < length facts) places
  part_within =
      subst (λ (all : List Raw). All (λ place. place < length all) places) (sym facts_are)
      (subst (All (λ place. place < length (class_of plan class).facts)) (sym places_are) (places_within (class_of plan class).facts))

  pub part_few : length places < 2 ^ 32
  part_few =
      let fit = places_fit (class_of plan class).facts in
      let few = few_facts plan class sound in
      let same = ap length places_are in
      omega arith

  pub part_short : AreShort nullables (at_places facts places)
  part_short =
      subst (λ (n : List Bool). AreShort n (at_places facts places)) (sym nullables_are)
      (subst (AreShort (class_of plan class).nullables) (sym part_entities) (short_movables plan class sound))

  pub part_values : All (λ (raw : Raw). length raw.values ≤ 2) (at_places facts places)
  part_values =
      let few = part_short.few in
      All-weaker (λ (raw : Raw). length raw.values ≡ length nullables) (λ (raw : Raw). length raw.values ≤ 2) (λ raw long. omega arith) (at_places facts places) part_short.values

  -- the links of the class are those of what is read
  pub part_links : (links : LinksView) → AreLinksOf (class_of plan class).nullables (movable_in plan class) links → AreLinksOf nullables (at_places facts places) links
  part_links links are =
      subst (λ (n : List Bool). AreLinksOf n (at_places facts places) links) (sym nullables_are)
      (subst (λ (entities : List Raw). AreLinksOf (class_of plan class).nullables entities links) (sym part_entities) are)

  -- and the other way round
  pub class_links : (links : LinksView) → AreLinksOf nullables (at_places facts places) links → AreLinksOf (class_of plan class).nullables (movable_in plan class) links
  class_links links are =
      subst (λ (n : List Bool). AreLinksOf n (movable_in plan class) links) nullables_are
      (subst (λ (entities : List Raw). AreLinksOf nullables entities links) part_entities are)

-- links that were found
pub found_links : (found : Bool) (links : LinksView) (P : LinksView → Type 0) → IsSome (if found then Some links else None) → IfSome (if found then Some links else None) P → P links
found_links true links P some holds = holds
found_links false links P some holds = absurd (let e : false ≡ true = some in cc)

-- links that are found where a call succeeds
pub ok_links : {T E : Type 0} (result : Result T E) (ok : Bool) (links : LinksView) (P : LinksView → Type 0) (Q : Type 0) → ok ≡ is_ok result → (Q → P links) → OnOk result Q → IfSome (if ok then Some links else None) P
ok_links (Ok x) ok links P Q is step holds = subst (λ (b : Bool). IfSome (if b then Some links else None) P) (sym is) (step holds)
ok_links (Err e) ok links P Q is step holds = subst (λ (b : Bool). IfSome (if b then Some links else None) P) (sym is) tt
