-- What a tally stands for.
use Rattle.std.specs.Prelude.{◌≡◌, ◌+◌, ◌++◌, ◌∷◌, [], ℤ, Bool, true, List, if◌then◌else◌}
use Rattle.std.specs.Set.{distinct_count}
use Rattle.std.specs.Ordering.{int_eq}
use Rattle.stream_group.specs.declared.tally.Tally.{Tally}
use Rattle.stream_group.specs.Collected.{AreFewKeys, counts_different, made_if_any}
use Rattle.stream_group.specs.Noted.{Knows}

-- a tally knows the numbers so far where different ones count
abbrev pub Sees : Tally → List ℤ → Type 0
Sees tally numbers = counts_different tally.collect ≡ true → Knows tally.noted numbers

-- a tally has what its collector makes of these numbers, and knows them where different ones count
pub record Tallies (tally : Tally) (numbers : List ℤ) : Type 0 where
  pub made : AreFewKeys numbers → tally.made ≡ made_if_any tally.collect numbers
  pub sees : Sees tally numbers

-- a tally knows one number more, which counts if it is new
pub record SeesMore (tally : Tally) (numbers : List ℤ) (number : ℤ) (is_new : Bool) : Type 0 where
  pub sees : Sees tally (numbers ++ number ∷ [])
  pub count : counts_different tally.collect ≡ true
      → distinct_count int_eq (numbers ++ number ∷ []) ≡ (if is_new then 1 else 0) + distinct_count int_eq numbers

-- a tally took these numbers besides
abbrev pub TalliesMore : Tally → Tally → List ℤ → Type 0
TalliesMore old new more = (numbers : List ℤ) → Tallies old numbers → Tallies new (numbers ++ more)
