-- What the maker that a word picks makes.
use Rattle.std.proofs.Common.{◌≡◌, ◌∙◌, ◌<◌, ℕ, Bool, true, false, Option, Some, None, Result, Ok, Err, List, length, map, get_or, slice_get, slice_index, option_map, ap, sym}
use Rattle.std.specs.Option.{option_and_then}
use Rattle.std.proofs.lemmas.List.{length-map}
use Rattle.std.proofs.lemmas.Option.{slice_get-map, slice_get-get_or}
use Rattle.plan_facts.specs.Plan.{PlanView}
use Rattle.plan_moves.specs.declared.edit.Set.{Set}
use Rattle.plan_draws.specs.Picks.{picked, picked_place}
use Rattle.plan_moves.specs.Made.{Fills}
use Rattle.move_selectors.specs.Puts.{Puts}
use Rattle.move_selectors.specs.Candidates.{own_of}

-- an edit that is filled is put
pub fills-puts : {E : Type 0} (result : Result Bool E) (due : Option (List Set)) (edit : List Set) → Fills result due edit → Puts result due edit
fills-puts (Ok true) due edit fills = fills
fills-puts (Ok false) due edit fills = fills.0
fills-puts (Err fault) due edit fills = tt

module _ {M : Type 0} (made : M → PlanView → List ℕ → Option (List Set)) (makers : List M) (plan : PlanView) (words : List ℕ) where
  -- where there is no maker, nothing is made
  pub own-none : None ≡ picked_place (slice_index words 1) (length makers) → None ≡ own_of plan (map made makers) words
  unfolding picked
  own-none none =
      sym (ap (λ n. option_and_then (λ m. m plan words) (option_and_then (slice_get (map made makers)) (picked_place (slice_index words 1) n))) (length-map makers made)
      ∙ ap (λ (place : Option ℕ). option_and_then (λ m. m plan words) (option_and_then (slice_get (map made makers)) place)) (sym none))

  -- the maker at the place that is picked makes it
  pub own-some : (place : ℕ) (maker : M) → Some place ≡ picked_place (slice_index words 1) (length makers) → place < length makers → maker ≡ get_or makers place maker → made maker plan words ≡ own_of plan (map made makers) words
  unfolding picked
  own-some place maker at within here =
      sym (ap (λ n. option_and_then (λ m. m plan words) (option_and_then (slice_get (map made makers)) (picked_place (slice_index words 1) n))) (length-map makers made)
      ∙ ap (λ (place : Option ℕ). option_and_then (λ m. m plan words) (option_and_then (slice_get (map made makers)) place)) (sym at)
      ∙ ap (option_and_then (λ (m : PlanView → List ℕ → Option (List Set)). m plan words)) (slice_get-map made makers place ∙ ap (option_map made) (slice_get-get_or makers place maker within ∙ ap (λ (m : M). Some m) (sym here))))
