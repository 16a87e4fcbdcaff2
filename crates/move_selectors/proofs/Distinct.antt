-- The pillars of a list of entities as it grows.
use Rattle.std.proofs.Common.{◌≡◌, ◌∙◌, ◌<◌, ◌≤◌, ◌+◌, ℕ, Bool, true, false, cond, not, ◌||◌, Option, List, [], ◌∷◌, ◌++◌, append-nil, length, map, filter, take, get_or, refl, ap, arith}
use Rattle.std.specs.List.{list_any}
use Rattle.std.proofs.lemmas.List.{map_more, length-map, length-take-le, get_or-map, get_or-take}
use Rattle.std.proofs.lemmas.List.Elements.{filter-append}
use Rattle.std.proofs.lemmas.List.Folds.{list_any_none, list_any_at}
use Rattle.std.proofs.lemmas.Map.Views.{any-filter_same}
use Rattle.plan_facts.specs.declared.record.Raw.{Raw}
use Rattle.move_selectors.specs.Pillars.{same_values, is_settled, distinct, pillars_of}
use Rattle.move_selectors.specs.Links.{no_record, values_at, is_settled_at}
use Rattle.move_selectors.proofs.SameValues.{same_is}

module _ {A : Type 0} (same : A → A → Bool) where
  -- one more member, where it is new
  pub distinct-push : (xs : List A) (x : A) → distinct same (xs ++ x ∷ []) ≡ cond (list_any (λ y. same y x) xs) (distinct same xs) (distinct same xs ++ x ∷ [])
  distinct-push [] x = refl
  distinct-push (a ∷ xs) x =
      ap (λ (rest : List A). a ∷ filter (λ other. not (same a other)) rest) (distinct-push xs x) ∙
      elim (list_any (λ y. same y x) xs) as (λ (there : Bool). a ∷ filter (λ other. not (same a other)) (cond there (distinct same xs) (distinct same xs ++ x ∷ [])) ≡ cond (same a x || there) (a ∷ filter (λ other. not (same a other)) (distinct same xs)) ((a ∷ filter (λ other. not (same a other)) (distinct same xs)) ++ x ∷ [])) [
        | true ↦ elim (same a x) as (λ (is : Bool). a ∷ filter (λ other. not (same a other)) (distinct same xs) ≡ cond (is || true) (a ∷ filter (λ other. not (same a other)) (distinct same xs)) ((a ∷ filter (λ other. not (same a other)) (distinct same xs)) ++ x ∷ [])) [ true ↦ refl | false ↦ refl ]
        | false ↦
            ap (λ (rest : List A). a ∷ rest) (filter-append (λ other. not (same a other)) (distinct same xs) (x ∷ [])) ∙
            elim (same a x) as (λ (is : Bool). a ∷ (filter (λ other. not (same a other)) (distinct same xs) ++ cond (not is) (x ∷ []) []) ≡ cond (is || false) (a ∷ filter (λ other. not (same a other)) (distinct same xs)) ((a ∷ filter (λ other. not (same a other)) (distinct same xs)) ++ x ∷ [])) [
              | true ↦ ap (λ (rest : List A). a ∷ rest) (append-nil (filter (λ other. not (same a other)) (distinct same xs)))
              | false ↦ refl
            ]
      ]

-- what the entities up to one hold
abbrev pub values_upto : List Raw → ℕ → List (List (Option ℕ))
values_upto entities upto = map (λ raw. raw.values) (take upto entities)

values-more : (entities : List Raw) (at : ℕ) → at < length entities → values_upto entities (at + 1) ≡ values_upto entities at ++ values_at entities at ∷ []
values-more entities at within = map_more (λ (raw : Raw). raw.values) entities at no_record within

settled-more : (nullables : List Bool) (entities : List Raw) (at : ℕ) → at < length entities → filter (is_settled nullables) (values_upto entities (at + 1)) ≡ filter (is_settled nullables) (values_upto entities at) ++ cond (is_settled_at nullables entities at) (values_at entities at ∷ []) []
settled-more nullables entities at within =
    ap (filter (is_settled nullables)) (values-more entities at within) ∙ filter-append (is_settled nullables) (values_upto entities at) (values_at entities at ∷ [])

-- an entity that isn't settled makes no pillar
pub pillars-open : (nullables : List Bool) (entities : List Raw) (at : ℕ) → at < length entities → is_settled_at nullables entities at ≡ false → pillars_of nullables (take (at + 1) entities) ≡ pillars_of nullables (take at entities)
unfolding pillars_of
pillars-open nullables entities at within unsettled =
    ap (distinct same_values) (settled-more nullables entities at within
    ∙ ap (λ (b : Bool). filter (is_settled nullables) (values_upto entities at) ++ cond b (values_at entities at ∷ []) []) unsettled
    ∙ append-nil (filter (is_settled nullables) (values_upto entities at)))

-- a settled one makes a new pillar, or belongs to one that is there
pub pillars-settled : (nullables : List Bool) (entities : List Raw) (at : ℕ) (there : Bool) → at < length entities → is_settled_at nullables entities at ≡ true
    → list_any (λ other. same_values other (values_at entities at)) (values_upto entities at) ≡ there
    → pillars_of nullables (take (at + 1) entities) ≡ cond there (pillars_of nullables (take at entities)) (pillars_of nullables (take at entities) ++ values_at entities at ∷ [])
unfolding pillars_of
pillars-settled nullables entities at there within settled is =
    let values = values_at entities at in
    let held = filter (is_settled nullables) (values_upto entities at) in
    let any : list_any (λ other. same_values other values) held ≡ there =
    any-filter_same (λ other. same_values other values) (is_settled nullables) true (λ other same. ap (is_settled nullables) (same_is other values same) ∙ settled) (values_upto entities at) ∙ is in
    ap (distinct same_values) (settled-more nullables entities at within ∙ ap (λ (b : Bool). held ++ cond b (values ∷ []) []) settled)
    ∙ distinct-push same_values held values
    ∙ ap (λ (b : Bool). cond b (distinct same_values held) (distinct same_values held ++ values ∷ [])) any

-- what stands at a place of what the entities up to one hold
values_upto-at : (entities : List Raw) (upto k : ℕ) (d : List (Option ℕ)) → k < upto → upto ≤ length entities → get_or (values_upto entities upto) k d ≡ values_at entities k
values_upto-at entities upto k d before within =
    let long = length-take-le upto entities within in
    get_or-map (λ (raw : Raw). raw.values) (take upto entities) k no_record d (omega arith) ∙ ap (λ (raw : Raw). raw.values) (get_or-take upto entities k no_record before)

length-upto : (entities : List Raw) (upto : ℕ) → upto ≤ length entities → length (values_upto entities upto) ≡ upto
length-upto entities upto within = length-map (take upto entities) (λ (raw : Raw). raw.values) ∙ length-take-le upto entities within

-- none of the entities up to one holds some values
pub none_upto : (entities : List Raw) (upto : ℕ) (values : List (Option ℕ)) → upto ≤ length entities → ((at : ℕ) → at < upto → same_values (values_at entities at) values ≡ false) → list_any (λ other. same_values other values) (values_upto entities upto) ≡ false
none_upto entities upto values within none =
    list_any_none (λ other. same_values other values) (values_upto entities upto)
    (λ k d before.
    let less : k < upto = (let long = length-upto entities upto within in omega arith) in
    ap (λ (v : List (Option ℕ)). same_values v values) (values_upto-at entities upto k d less within) ∙ none k less)

-- one of them does
pub some_upto : (entities : List Raw) (upto at : ℕ) (values : List (Option ℕ)) → upto ≤ length entities → at < upto → same_values (values_at entities at) values ≡ true → list_any (λ other. same_values other values) (values_upto entities upto) ≡ true
some_upto entities upto at values within before same =
    list_any_at (λ other. same_values other values) (values_upto entities upto) at [] (let long = length-upto entities upto within in omega arith)
    (ap (λ (v : List (Option ℕ)). same_values v values) (values_upto-at entities upto at [] before within) ∙ same)
