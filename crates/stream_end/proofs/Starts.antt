-- Ends without rows.
use Rattle.std.proofs.Common.{◌≡◌, ◌∙◌, ℕ, List, [], ◌∷◌, length, map, refl, sym, ap, arith}
use Rattle.std.specs.Ordering.{nat_cmp}
use Rattle.std.specs.FinMap as finmap
use Rattle.std.specs.FinMap.{entries, len-entries, len-empty}

none_long : {X : Type 0} (xs : List X) → length xs ≡ 0 → xs ≡ []
none_long [] h = refl
none_long (x ∷ xs) h = absurd (omega arith)

-- an empty map has no values
pub values_empty : {X : Type 0} → finmap.values (finmap.empty {X = X} {R = nat_cmp}) ≡ []
values_empty {X} = ap (map (λ (e : ℕ × X). e.1)) (none_long (entries (finmap.empty {X = X} {R = nat_cmp})) (sym (len-entries (finmap.empty {X = X} {R = nat_cmp})) ∙ len-empty nat_cmp X))
