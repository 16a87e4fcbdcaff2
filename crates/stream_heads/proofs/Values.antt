-- The entries of a finite map from numbers, each found at its number.
use Rattle.std.proofs.Common.{◌≡◌, ℕ, List, [], ◌∷◌, Bool, true, false, ◌&&◌, T, Some, refl, sym, ◌∙◌, arith, rules}
use Rattle.std.proofs.lemmas.Grind.{common_steps}
use Rattle.std.specs.Ordering.{nat_cmp, eq_by_cmp, is_lt}
use Rattle.std.specs.FinMap as finmap
use Rattle.std.specs.FinMap.{entries, entries_sorted, get-entries}
use Rattle.std.specs.FinMap.Entries.{find, is_sorted, below_all}
use Rattle.tuple_store.proofs.MapLaws.{own_number}
use Rattle.stream_heads.specs.Standing.{Under}

-- each entry is found at its number
abbrev pub EachGot : {X : Type 0} → Under X → List (ℕ × X) → Type 0
EachGot things [] = Unit {0}
EachGot things (e ∷ es) = (finmap.get things e.0 ≡ Some e.1) × EachGot things es

abbrev EachFound : {X : Type 0} → List (ℕ × X) → List (ℕ × X) → Type 0
EachFound es [] = Unit {0}
EachFound es (f ∷ fs) = (find nat_cmp f.0 es ≡ Some f.1) × EachFound es fs

less_other : (a b : ℕ) → is_lt (nat_cmp a b) ≡ true → eq_by_cmp nat_cmp b a ≡ false
less_other a b h = grind (arith, common_steps, rules)

true_false : true ≡ false → ⊥
true_false e = cc

from_T : (b : Bool) → T b → b ≡ true
from_T true h = refl
from_T false h = absurd h

first_true : (a b : Bool) → (a && b) ≡ true → a ≡ true
first_true true b p = refl
first_true false b p = p

second_true : (a b : Bool) → (a && b) ≡ true → b ≡ true
second_true true b p = p
second_true false b p = absurd (true_false (sym p))

lift_found : {X : Type 0} (e : ℕ × X) (es fs : List (ℕ × X)) → below_all nat_cmp e.0 fs ≡ true → EachFound es fs → EachFound (e ∷ es) fs
lift_found e es [] b h = tt
lift_found e es (f ∷ fs) b h = (rw (less_other e.0 f.0 (first_true _ _ b)) (h.0), lift_found e es fs (second_true _ _ b) (h.1))

found : {X : Type 0} (es : List (ℕ × X)) → is_sorted nat_cmp es ≡ true → EachFound es es
found [] s = tt
found (e ∷ es) s = (rw (own_number e.0) refl, lift_found e es es (first_true _ _ s) (found es (second_true _ _ s)))

got_from : {X : Type 0} (things : Under X) (es : List (ℕ × X)) → EachFound (entries things) es → EachGot things es
got_from things [] h = tt
got_from things (e ∷ es) h = (get-entries things e.0 ∙ h.0, got_from things es (h.1))

pub all_got : {X : Type 0} (things : Under X) → EachGot things (entries things)
all_got things = got_from things (entries things) (found (entries things) (from_T _ (entries_sorted things)))
