-- What kept rows mean, one after the other.
use Rattle.std.proofs.Common.{◌≡◌, ◌∙◌, ℕ, List, [], ◌∷◌, None, filter, map, refl, ap}
use Rattle.std.specs.List.{filter_map}
use Rattle.std.specs.FinMap as finmap
use Rattle.std.specs.FinMap.{entries}
use Rattle.plan_rules.specs.declared.row.Part.{Part}
use Rattle.tuple_store.specs.Numbers.{is_above, numbers_above}
use Rattle.stream_heads.specs.declared.member.Member.{Member}
use Rattle.stream_heads.specs.Meant.{Rows, meant, row_at}
use Rattle.stream_heads.specs.Standing.{Under}
use Rattle.stream_heads.proofs.Values.{EachGot, all_got}
use Rattle.stream_end.specs.Found.{rows_from}
use Rattle.stream_end.specs.Weights.{cells_of}

-- each place stands above none
all_above : (places : List ℕ) → filter (is_above None) places ≡ places
all_above [] = refl
all_above (place ∷ places) = ap (λ (ps : List ℕ). place ∷ ps) (all_above places)

got_along : {X : Type 0} (things : Under X) (es : List (ℕ × X)) → EachGot things es → filter_map (finmap.get things) (map (λ (e : ℕ × X). e.0) es) ≡ map (λ (e : ℕ × X). e.1) es
got_along things [] got = refl
got_along {X} things (e ∷ es) got = rw got.0 (ap (λ (xs : List X). e.1 ∷ xs) (got_along things es got.1))

-- what stands at all places is all there is
pub all_there : {X : Type 0} (things : Under X) → filter_map (finmap.get things) (numbers_above None things) ≡ finmap.values things
all_there things = ap (filter_map (finmap.get things)) (all_above (finmap.keys things)) ∙ got_along things (entries things) (all_got things)

cells_meant : (heads : Rows) (members : List Member) → map (λ (member : Member). row_at heads member.cells) members ≡ meant heads (cells_of members)
cells_meant heads [] = refl
cells_meant heads (member ∷ members) = ap (λ (rows : List (List Part)). row_at heads member.cells ∷ rows) (cells_meant heads members)

-- the rows at all places mean what is kept
pub all_listed : (heads : Rows) (kept : Under Member) → rows_from heads kept (numbers_above None kept) ≡ meant heads (cells_of (finmap.values kept))
all_listed heads kept = ap (map (λ (member : Member). row_at heads member.cells)) (all_there kept) ∙ cells_meant heads (finmap.values kept)
