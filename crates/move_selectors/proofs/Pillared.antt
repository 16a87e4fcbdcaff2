-- Pillars, by their links.
use Rattle.std.proofs.Common.{◌≡◌, ◌∙◌, ◌<◌, ◌≤◌, ◌+◌, ◌-◌, ℕ, zero, suc, Bool, true, false, cond, Option, Some, None, option_map, List, [], ◌∷◌, ◌++◌, append-nil, length, map, filter, fold, take, get_or, slice_get, refl, ap, sym, subst, arith, All}
use Rattle.std.specs.Option.{option_and_then}
use Rattle.std.specs.List.{flat_map}
use Rattle.std.proofs.lemmas.List.{length-map, take_more, take_all}
use Rattle.std.proofs.lemmas.Grind.{flat_map-append}
use Rattle.std.proofs.lemmas.Option.{slice_get-map, slice_get-get_or, slice_get_within, get_or_from_slice_get}
use Rattle.plan_facts.specs.declared.record.Raw.{Raw}
use Rattle.plan_draws.specs.Picks.{picked, picked_place}
use Rattle.plan_moves.specs.declared.edit.Set.{Set}
use Rattle.plan_moves.specs.Edits.{with_new, edit_of}
use Rattle.plan_moves.proofs.Filled.{edit_of-append}
use Rattle.move_selectors.specs.Links.{no_record}

-- what is picked of a list, part by part
pub picked-map : {A B : Type 0} (f : A → B) (word : ℕ) (xs : List A) → picked word (map f xs) ≡ option_map f (picked word xs)
unfolding picked
picked-map f word xs =
    ap (λ (n : ℕ). option_and_then (slice_get (map f xs)) (picked_place word n)) (length-map xs f) ∙ at (picked_place word (length xs)) where
      at : (place : Option ℕ) → option_and_then (slice_get (map f xs)) place ≡ option_map f (option_and_then (slice_get xs) place)
      at None = refl
      at (Some place) = slice_get-map f xs place

module _ (sets : Raw → List Set) (entities : List Raw) where
  -- the edit of what is made of the entities up to one
  abbrev pub edit_upto : ℕ → List Set
  edit_upto upto = edit_of (flat_map sets (take upto entities))

  -- nothing is made of some entities
  abbrev pub AreQuiet : ℕ → ℕ → Type 0
  AreQuiet from upto = (at : ℕ) → from ≤ at → at < upto → sets (get_or entities at no_record) ≡ []

  flat-more : (at : ℕ) → at < length entities → flat_map sets (take (at + 1) entities) ≡ flat_map sets (take at entities) ++ sets (get_or entities at no_record)
  flat-more at within =
      ap (flat_map sets) (take_more entities at no_record within)
      ∙ flat_map-append sets (take at entities) (get_or entities at no_record ∷ [])
      ∙ ap (λ (last : List Set). flat_map sets (take at entities) ++ last) (append-nil (sets (get_or entities at no_record)))

  flat-quiet : (more from : ℕ) → from + more ≤ length entities → AreQuiet from (from + more) → flat_map sets (take (from + more) entities) ≡ flat_map sets (take from entities)
  flat-quiet zero from within quiet = let same : from + 0 ≡ from = omega arith in ap (λ (n : ℕ). flat_map sets (take n entities)) same
  flat-quiet (suc more) from within quiet =
      let last : from + suc more ≡ (from + more) + 1 = omega arith in
      ap (λ (n : ℕ). flat_map sets (take n entities)) last
      ∙ flat-more (from + more) (omega arith)
      ∙ ap (λ (made : List Set). flat_map sets (take (from + more) entities) ++ made) (quiet (from + more) (omega arith) (omega arith))
      ∙ append-nil (flat_map sets (take (from + more) entities))
      ∙ flat-quiet more from (omega arith) (λ at above below. quiet at above (omega arith))

  -- up to a later place, where nothing is made in between
  pub edit-quiet : (from upto : ℕ) → from ≤ upto → upto ≤ length entities → AreQuiet from upto → edit_upto upto ≡ edit_upto from
  edit-quiet from upto later within quiet =
      let more : from + (upto - from) ≡ upto = omega arith in
      ap (λ (n : ℕ). edit_upto n) (sym more) ∙ ap edit_of (flat-quiet (upto - from) from (omega arith) (λ at above below. quiet at above (omega arith)))

  -- before the first of which something is made
  pub edit-first : (upto : ℕ) → upto ≤ length entities → AreQuiet 0 upto → [] ≡ edit_upto upto
  unfolding edit_of
  edit-first upto within quiet = sym (edit-quiet 0 upto (omega arith) within quiet)

  -- past one of which something is made, up to the next one
  pub edit-next : (at upto : ℕ) → at < upto → upto ≤ length entities → AreQuiet (at + 1) upto → fold with_new (edit_upto at) (sets (get_or entities at no_record)) ≡ edit_upto upto
  edit-next at upto later within quiet =
      sym (edit-quiet (at + 1) upto (omega arith) within quiet
      ∙ ap edit_of (flat-more at (omega arith))
      ∙ edit_of-append (flat_map sets (take at entities)) (sets (get_or entities at no_record)))

  -- up to the end
  pub edit-whole : (upto : ℕ) → length entities ≤ upto → edit_upto upto ≡ edit_of (flat_map sets entities)
  edit-whole upto past = ap (λ (all : List Raw). edit_of (flat_map sets all)) (take_all upto entities past)

-- what is made of those that pass a test
pub map-filter : {A B : Type 0} (p : A → Bool) (f : A → B) (xs : List A) → map f (filter p xs) ≡ flat_map (λ x. cond (p x) (f x ∷ []) []) xs
map-filter p f [] = refl
map-filter p f (x ∷ xs) = elim (p x) as (λ (b : Bool). map f (cond b (x ∷ filter p xs) (filter p xs)) ≡ cond b (f x ∷ []) [] ++ flat_map (λ y. cond (p y) (f y ∷ []) []) xs) [
  | true ↦ ap (λ rest. f x ∷ rest) (map-filter p f xs)
  | false ↦ map-filter p f xs
]

-- what holds of each member holds of the one that is picked
pub picked-holds : {A : Type 0} (P : A → Type 0) (items : List A) (word : ℕ) (x : A) → All P items → picked word items ≡ Some x → P x
unfolding picked
picked-holds P items word x all is = at (picked_place word (length items)) is where
  at : (place : Option ℕ) → option_and_then (slice_get items) place ≡ Some x → P x
  at None e = absurd (cc)
  at (Some place) e = subst P (get_or_from_slice_get items place x x e) (all place x (slice_get_within items place x e))

-- nothing is picked of as many as there are
pub picked-none : {A : Type 0} (word n : ℕ) (xs : List A) → length xs ≡ n → None ≡ picked_place word n → picked word xs ≡ None
unfolding picked
picked-none word n xs long none = ap (λ (k : ℕ). option_and_then (slice_get xs) (picked_place word k)) long ∙ ap (option_and_then (slice_get xs)) (sym none)

-- the one at the place that is picked of as many as there are
pub picked-at : {A : Type 0} (word n at : ℕ) (xs : List A) (d : A) → length xs ≡ n → Some at ≡ picked_place word n → at < length xs → picked word xs ≡ Some (get_or xs at d)
unfolding picked
picked-at word n at xs d long some within =
    ap (λ (k : ℕ). option_and_then (slice_get xs) (picked_place word k)) long
    ∙ ap (option_and_then (slice_get xs)) (sym some)
    ∙ slice_get-get_or xs at d within
