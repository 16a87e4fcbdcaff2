-- What a collector makes of numbers.
use Rattle.std.specs.Prelude.{◌≡◌, ◌≤◌, ◌++◌, ℤ, pos, ◌+ℤ◌, All, Bool, true, false, List, [], ◌∷◌, Option, Some, None, fold, length, if◌then◌else◌}
use Rattle.std.specs.Int.{int_min, int_max, saturate_signed, w64}
use Rattle.std.specs.Ordering.{int_eq}
use Rattle.std.specs.Set.{distinct_count}
use Rattle.plan_rules.specs.declared.row.Part.{Part}
use Rattle.plan_rules.specs.declared.rule.Collect.{Collect}
use Rattle.plan_rules.specs.declared.rule.Collect.TheVariants as collect
use Rattle.plan_rules.specs.Groups.{greatest_of, least_of}
use Rattle.plan_rules.specs.Limits.{row_limit}
use Rattle.plan_rules.specs.Meaning.{IsKeyNumber, Meaning}

-- the number that a collector asks of a row: that of its key, or 0 where it names none
abbrev pub number_asked : Meaning → Collect → List Part → ℤ
number_asked m collect.Count row = pos 0
number_asked m (collect.CountDistinct key) row = m.key_of key row
number_asked m (collect.Sum key) row = m.key_of key row
number_asked m (collect.Min key) row = m.key_of key row
number_asked m (collect.Max key) row = m.key_of key row

-- what a collector makes of the numbers of some rows
abbrev pub made_of : Collect → List ℤ → ℤ
made_of collect.Count numbers = pos (length numbers)
made_of (collect.CountDistinct key) numbers = pos (distinct_count int_eq numbers)
made_of (collect.Sum key) numbers = fold (λ a b. a +ℤ b) (pos 0) numbers
made_of (collect.Min key) numbers = least_of numbers
made_of (collect.Max key) numbers = greatest_of numbers

-- what a collector makes of the numbers of some rows; nothing where there is no row
abbrev pub made_if_any : Collect → List ℤ → Option ℤ
made_if_any collect [] = None
made_if_any collect (number ∷ rest) = Some (made_of collect (number ∷ rest))

-- the collector counts different numbers
abbrev pub counts_different : Collect → Bool
counts_different collect.Count = false
counts_different (collect.CountDistinct key) = true
counts_different (collect.Sum key) = false
counts_different (collect.Min key) = false
counts_different (collect.Max key) = false

-- a sum within the numbers that there are
abbrev pub added : ℤ → ℤ → ℤ
added a b = saturate_signed w64 (a +ℤ b)

-- what a collector makes of one number more, where it made a number of those before
abbrev pub more_made : Collect → ℤ → ℤ → Bool → ℤ
more_made collect.Count made number is_new = added made (pos 1)
more_made (collect.CountDistinct key) made number is_new = if is_new then added made (pos 1) else made
more_made (collect.Sum key) made number is_new = added made number
more_made (collect.Min key) made number is_new = int_min made number
more_made (collect.Max key) made number is_new = int_max made number

-- how many different numbers there are with one more
abbrev pub different_more : Option ℤ → Bool → ℤ
different_more None is_new = pos 1
different_more (Some made) is_new = if is_new then added made (pos 1) else made

-- what a collector makes of one number
abbrev pub first_made : Collect → ℤ → ℤ
first_made collect.Count number = pos 1
first_made (collect.CountDistinct key) number = pos 1
first_made (collect.Sum key) number = number
first_made (collect.Min key) number = number
first_made (collect.Max key) number = number

-- what a collector makes of one number more
abbrev pub with_more : Collect → Option ℤ → ℤ → Bool → ℤ
with_more collect None number is_new = first_made collect number
with_more collect (Some made) number is_new = more_made collect made number is_new

-- keys' numbers of at most as many rows as there may be, so that their sum fits
pub record AreFewKeys (numbers : List ℤ) : Type 0 where
  pub keys : All IsKeyNumber numbers
  pub few : length numbers ≤ row_limit

-- where these numbers are few keys', this was made of them
abbrev pub Makes : Collect → Option ℤ → List ℤ → Type 0
Makes collect made numbers = AreFewKeys numbers → made ≡ made_if_any collect numbers

-- where the one was made of some numbers, the other was made of those and of these besides
abbrev pub MakesMore : Collect → Option ℤ → Option ℤ → List ℤ → Type 0
MakesMore collect old new more = (numbers : List ℤ) → Makes collect old numbers → Makes collect new (numbers ++ more)
