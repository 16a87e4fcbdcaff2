-- The closures that a grouping asks.
use Rattle.std.proofs.Common.{zero, suc, ◌≡◌, ◌<◌, ℕ, List, [], ◌∷◌, ◌++◌, get_or, length, map, refl, arith}
use Rattle.std.specs.Prelude.{All}
use Rattle.std.proofs.lemmas.List.Elements.{All-head, All-tail}
use Rattle.plan_rules.specs.declared.places.Numbers.{Numbers}
use Rattle.plan_rules.specs.declared.rule.Named.{Named}
use Rattle.plan_rules.specs.Named.{collect_closures, key_named}
use Rattle.plan_rules.specs.Sound.{IsHandedIn}
use Rattle.stream_group.specs.declared.grouping.Grouping.{Grouping}
use Rattle.stream_group.specs.Grouped.{closures_of}

key_in : (P : Named → Type 0) (keys : List ℕ) (rest : List Named) → All P (map key_named keys ++ rest) → (k : ℕ) → k < length keys → P (key_named (get_or keys k 0))
key_in P [] rest all k within = absurd (omega (arith, within))
key_in P (x ∷ xs) rest all zero within = All-head P (key_named x) (map key_named xs ++ rest) all
key_in P (x ∷ xs) rest all (suc k) within = key_in P xs rest (All-tail P (key_named x) (map key_named xs ++ rest) all) k (omega (arith, within))

rest_in : (P : Named → Type 0) (keys : List ℕ) (rest : List Named) → All P (map key_named keys ++ rest) → All P rest
rest_in P [] rest all = all
rest_in P (x ∷ xs) rest all = rest_in P xs rest (All-tail P (key_named x) (map key_named xs ++ rest) all)

-- each key was handed in
pub key_there : (numbers : Numbers) (by : Grouping) → All (IsHandedIn numbers) (closures_of by) → (k : ℕ) → k < length by.keys → IsHandedIn numbers (key_named (get_or by.keys k 0))
key_there numbers by all = key_in (IsHandedIn numbers) by.keys (collect_closures by.collect) all

-- what the collector asks was handed in
pub collect_there : (numbers : Numbers) (by : Grouping) → All (IsHandedIn numbers) (closures_of by) → All (IsHandedIn numbers) (collect_closures by.collect)
collect_there numbers by all = rest_in (IsHandedIn numbers) by.keys (collect_closures by.collect) all

-- two items of a list that has no more
pub two_items : (xs : List ℕ) → length xs ≡ 2 → xs ≡ get_or xs 0 0 ∷ get_or xs 1 0 ∷ []
two_items [] is = absurd (omega (arith, is))
two_items (x ∷ []) is = absurd (omega (arith, is))
two_items (x ∷ y ∷ []) is = refl
two_items (x ∷ y ∷ z ∷ rest) is = absurd (omega (arith, is))
