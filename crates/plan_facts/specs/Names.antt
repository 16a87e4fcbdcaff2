-- Texts numbered in the order of first sight: a text's number is its place, from 0.
use Rattle.std.specs.Prelude.{ℕ, ◌≤◌, List, [], ◌∷◌, ◌++◌, Option, length, if◌then◌else◌}
use Rattle.std.specs.Str.{bytes_eq}
use Rattle.std.specs.List.{list_any, position, position_or_len, IsDistinct}

-- the place of the text among the names; none where it isn't there
abbrev pub place_of : List (List ℕ) → List ℕ → Option ℕ
place_of names text = position (bytes_eq text) names

-- the number of the text, which is the next one where it isn't there
abbrev pub number_of : List (List ℕ) → List ℕ → ℕ
number_of names text = position_or_len (bytes_eq text) names

-- the names with the text among them, at the end where it is new
abbrev pub with_name : List (List ℕ) → List ℕ → List (List ℕ)
with_name names text = if list_any (bytes_eq text) names then names else names ++ text ∷ []

-- at most 10^9 texts, each once
pub record IsNumbered (names : List (List ℕ)) : Type 0 where
  pub few : length names ≤ 1000000000
  pub each_once : IsDistinct bytes_eq names
