-- The boundaries that a journal names rise, and none is above the step limit.
use Rattle.std.proofs.Common.{◌≡◌, ◌∙◌, ℕ, suc, zero, ◌+◌, ◌<◌, ◌≤◌, Bool, true, false, cond, ◌&&◌, All, List, [], ◌∷◌, length, take, get_or, Option, Some, None, Result, Ok, Err, refl, sym, ap, subst, arith}
use Rattle.std.specs.Prelude.{codes, nat_le, position}
use Rattle.std.specs.List.{after_first}
use Rattle.std.specs.List.Sorted.{IsNonDecreasing}
use Rattle.std.specs.Option.{option_map, option_and_then}
use Rattle.std.specs.Str.Parse.{digits_value}
use Rattle.std.proofs.lemmas.Bool.{and_parts, leb-true}
use Rattle.run_journal.specs.Numbers.{is_number, is_space, number_in, number_before_space}
use Rattle.run_journal.specs.Bounds.{after_prefix, boundary_in, bounds_from, by_line, line_boundary, with_bound}

-- each number is at least the one before it, the first at least low, and none is above high
abbrev RisesFrom : ℕ → ℕ → List ℕ → Type 0
RisesFrom low high [] = Unit {0}
RisesFrom low high (n ∷ ns) = (low ≤ n) × (n ≤ high) × RisesFrom n high ns

-- what a test lets through
tested : (b : Bool) (value n : ℕ) → cond b (Some value) None ≡ Some n → (b ≡ true) × (value ≡ n)
tested true value n is = (refl, cc)
tested false value n is = absurd cc

-- where there is something after a step, there was something before it
stepped : {X Y : Type 0} (f : X → Option Y) (o : Option X) (y : Y) → option_and_then f o ≡ Some y → (x : X) × (f x ≡ Some y)
stepped f None y is = absurd cc
stepped f (Some x) y is = (x, is)

mapped : {X Y : Type 0} (f : X → Y) (o : Option X) (y : Y) → option_map f o ≡ Some y → (x : X) × (f x ≡ y)
mapped f None y is = absurd cc
mapped f (Some x) y is = (x, cc)

-- a number that is read is within its bounds
number_within : (low high n : ℕ) (word : List ℕ) → number_in low high word ≡ Some n → (low ≤ n) × (n ≤ high)
number_within low high n word is =
    let value = digits_value 10 word in
    let got = tested (is_number word && (nat_le low value && nat_le value high)) value n is in
    let range = (and_parts (is_number word) (nat_le low value && nat_le value high) got.0).1 in
    let low_is : low ≤ value = leb-true low value (and_parts (nat_le low value) (nat_le value high) range).0 in
    let high_is : value ≤ high = leb-true value high (and_parts (nat_le low value) (nat_le value high) range).1 in
    (subst (λ m. low ≤ m) got.1 low_is, subst (λ m. m ≤ high) got.1 high_is)

-- the boundary that a line names is from the last one to the step limit
boundary_within : (number low high n : ℕ) (line : List ℕ) → line_boundary number low high line ≡ Some (Some n) → (low ≤ n) × (n ≤ high)
boundary_within number low high n line is =
    let text = mapped (boundary_in number low high) (after_prefix (codes "change ") line) (Some n) is in
    let rest = after_first is_space text.0 in
    let behind = stepped (λ (k : ℕ). number_before_space low high rest) (number_before_space number number text.0) n text.1 in
    let word = stepped (λ (k : ℕ). number_in low high (take k rest)) (position is_space rest) n behind.1 in
    number_within low high n (take word.0 rest) word.1

-- a boundary in front of others
in_front : (bound low high : ℕ) (rest : Result (List ℕ) ℕ) (bounds : List ℕ) → (low ≤ bound) × (bound ≤ high)
    → ((others : List ℕ) → rest ≡ Ok others → RisesFrom bound high others)
    → with_bound bound rest ≡ Ok bounds → RisesFrom low high bounds
in_front bound low high (Err line) bounds within rises is = absurd cc
in_front bound low high (Ok others) bounds within rises is =
    let same : bound ∷ others ≡ bounds = cc in
    subst (RisesFrom low high) same (within.0, within.1, rises others refl)

-- a line that is passed over, or names a boundary
rises_by : (steps before count low : ℕ) (line : List ℕ) (lines : List (List ℕ)) (bounds : List ℕ)
    → (bounds_from steps (before + 1) count low lines ≡ Ok bounds → RisesFrom low steps bounds)
    → ((bound : ℕ) (others : List ℕ) → bounds_from steps (before + 1) (count + 1) bound lines ≡ Ok others → RisesFrom bound steps others)
    → (said : Option (Option ℕ)) → line_boundary (count + 1) low steps line ≡ said
    → by_line (before + 1) said (bounds_from steps (before + 1) count low lines)
    (λ bound. bounds_from steps (before + 1) (count + 1) bound lines) ≡ Ok bounds
    → RisesFrom low steps bounds
rises_by steps before count low line lines bounds passed taken None said is = passed is
rises_by steps before count low line lines bounds passed taken (Some None) said is = absurd cc
rises_by steps before count low line lines bounds passed taken (Some (Some bound)) said is =
    in_front bound low steps (bounds_from steps (before + 1) (count + 1) bound lines) bounds
    (boundary_within (count + 1) low steps bound line said) (taken bound) is

-- the boundaries that lines name rise
rises_from : (steps before count low : ℕ) (lines : List (List ℕ)) (bounds : List ℕ) → bounds_from steps before count low lines ≡ Ok bounds → RisesFrom low steps bounds
rises_from steps before count low [] bounds is = let same : [] ≡ bounds = cc in subst (RisesFrom low steps) same tt
rises_from steps before count low (line ∷ lines) bounds is =
    rises_by steps before count low line lines bounds
    (rises_from steps (before + 1) count low lines bounds)
    (λ bound others. rises_from steps (before + 1) (count + 1) bound lines others)
    (line_boundary (count + 1) low steps line) refl is

-- each of them is within the bounds
each_within : (low high : ℕ) (ns : List ℕ) → RisesFrom low high ns → (k d : ℕ) → k < length ns → (low ≤ get_or ns k d) × (get_or ns k d ≤ high)
each_within low high [] rises k d within = absurd (omega (arith, within))
each_within low high (n ∷ ns) rises zero d within = (rises.0, rises.1)
each_within low high (n ∷ ns) rises (suc k) d within =
    let later = each_within n high ns rises.2 k d (omega (arith, within)) in
    (omega (arith, rises.0, later.0), later.1)

-- later ones aren't below earlier ones
in_order : (low high : ℕ) (ns : List ℕ) → RisesFrom low high ns → (i j d : ℕ) → i ≤ j → j < length ns → get_or ns i d ≤ get_or ns j d
in_order low high [] rises i j d up within = absurd (omega (arith, within))
in_order low high (n ∷ ns) rises zero zero d up within = omega arith
in_order low high (n ∷ ns) rises zero (suc j) d up within = (each_within n high ns rises.2 j d (omega (arith, within))).0
in_order low high (n ∷ ns) rises (suc i) zero d up within = absurd (omega (arith, up))
in_order low high (n ∷ ns) rises (suc i) (suc j) d up within = in_order n high ns rises.2 i j d (omega (arith, up)) (omega (arith, within))

-- the boundaries of all lines are in order
pub bounds_rise : (steps : ℕ) (lines : List (List ℕ)) (bounds : List ℕ) → bounds_from steps 0 0 0 lines ≡ Ok bounds → IsNonDecreasing bounds
bounds_rise steps lines bounds is = λ i j d up within. in_order 0 steps bounds (rises_from steps 0 0 0 lines bounds is) i j d up within

-- none of them is above the step limit
pub bounds_within : (steps : ℕ) (lines : List (List ℕ)) (bounds : List ℕ) → bounds_from steps 0 0 0 lines ≡ Ok bounds → All (λ bound. bound ≤ steps) bounds
bounds_within steps lines bounds is = λ k d within. (each_within 0 steps bounds (rises_from steps 0 0 0 lines bounds is) k d within).1
