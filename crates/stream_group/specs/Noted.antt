-- Numbers that were noted.
use Rattle.std.specs.Prelude.{◌≡◌, ◌<◌, ◌++◌, ◌∷◌, ◌==◌, ◌&&◌, [], ℕ, ℤ, pos, negsuc, int_le, int_lt, Bool, false, not, ◌||◌, List, length, if◌then◌else◌}
use Rattle.std.specs.Int.{bit_at}
use Rattle.std.specs.Set.{is_member}
use Rattle.std.specs.HashSet.{IsEmpty, contains}
use Rattle.std.specs.Ordering.{int_eq}
use Rattle.stream_group.specs.declared.noted.Noted.{Noted}
use Rattle.stream_group.specs.declared.noted.TheConstants.{FEW}

-- the number is from 0 to 63
abbrev pub is_small : ℤ → Bool
is_small number = int_le (pos 0) number && int_lt number (pos 64)

-- the number is a bit of the word
abbrev pub is_bit : ℕ → ℤ → Bool
is_bit word (pos n) = bit_at word n == 1
is_bit word (negsuc n) = false

-- the number is one of the few, or one of the rest
abbrev pub is_other : Noted → ℤ → Bool
is_other noted number = is_member int_eq noted.few.items number || contains int_eq noted.more number

-- the number was noted: from 0 to 63 it is a bit, and any other one of the others
abbrev pub knows : Noted → ℤ → Bool
knows noted number = if is_small number then is_bit noted.small number else is_other noted number

-- nothing is in the set before the list is full
abbrev pub FillsList : Noted → Type 0
FillsList noted = length noted.few.items < FEW → IsEmpty noted.more

-- these numbers were noted and no others
pub record Knows (noted : Noted) (numbers : List ℤ) : Type 0 where
  pub same : (number : ℤ) → knows noted number ≡ is_member int_eq numbers number
  pub first : FillsList noted

-- one number more was noted, which is new if it is none of those before
pub record KnowsMore (noted : Noted) (numbers : List ℤ) (number : ℤ) (is_new : Bool) : Type 0 where
  pub knows : Knows noted (numbers ++ number ∷ [])
  pub new : is_new ≡ not (is_member int_eq numbers number)

-- one number more is one of the others, which is new if it was none of them
pub record Adds (old later : Noted) (number : ℤ) (is_new : Bool) : Type 0 where
  pub same : FillsList old → (other : ℤ) → is_other later other ≡ (is_other old other || int_eq other number)
  pub first : FillsList old → FillsList later
  pub new : FillsList old → is_new ≡ not (is_other old number)
