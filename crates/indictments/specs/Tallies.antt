-- What is counted of matches for each fact.
use Rattle.std.specs.Prelude.{◌≡◌, ◌==◌, ◌&&◌, not, ◌+◌, ◌<◌, ◌^◌, ◌++◌, ℕ, Bool, false, List, length, take, unwrap_or, if◌then◌else◌}
use Rattle.std.specs.List.{list_any}
use Rattle.std.specs.Map.{lookup}
use Rattle.plan_scores.specs.declared.score.Score.{Score}
use Rattle.plan_scores.specs.Sum.{add_scores, zero_score, FitsScore}
use Rattle.plan_rules.specs.declared.row.Match.{Match}
use Rattle.plan_rules.specs.Limits.{score_limit}
use Rattle.plan_rules.specs.Totals.{impact_sum}
use Rattle.plan_recalc.specs.Size.{AreWithin}
use Rattle.indictments.specs.declared.tally.Tally.{Tally}
use Rattle.indictments.specs.Indicts.{is_fact, matches_with}

-- the tally of no match
abbrev pub no_tally : Tally
no_tally = record { count = 0; impact = zero_score }

-- the tally of some matches: how many they are, and the sum of their impacts
abbrev pub tally_of : List Match → Tally
tally_of matches = record { count = length matches; impact = impact_sum matches }

-- a tally with one match more, of this impact
abbrev pub counted_one : Tally → Score → Tally
counted_one tally impact = record { count = tally.count + 1; impact = add_scores tally.impact impact }

-- a tally with one match more, where it counts
abbrev pub counted_if : Bool → Score → Tally → Tally
counted_if counts impact tally = if counts then counted_one tally impact else tally

-- there is room in a tally for one match more, of this impact
abbrev pub TakesOne : Tally → Score → Type 0
TakesOne tally impact = (tally.count + 1 < 2 ^ 64) × FitsScore (add_scores tally.impact impact)

-- tallies by class and id
abbrev pub Entries : Type 0
Entries = List ((ℕ × ℕ) × Tally)

-- the tally of a fact of a class
abbrev pub tally_in : Entries → ℕ → ℕ → Tally
tally_in entries class id = unwrap_or (lookup (λ key. (class == key.0) && (id == key.1)) entries) no_tally

-- each fact has the tally of those of some matches of which it is a part
abbrev pub AreTallies : Entries → List Match → Type 0
AreTallies entries matches = (class id : ℕ) → tally_in entries class id ≡ tally_of (matches_with class id matches)

-- one match more was counted for a fact, and the rest stays
abbrev pub AddsAt : Entries → ℕ → ℕ → Score → Entries → Type 0
AddsAt old class id impact new =
    (c i : ℕ) → tally_in new c i ≡ counted_if ((class == c) && (id == i)) impact (tally_in old c i)

-- whether a fact stands in a match's row up to a place, that place left out
abbrev pub is_above : ℕ → ℕ → Match → ℕ → Bool
is_above class id one n = list_any (is_fact class id) (take n one.row)

-- whether a fact stands in a match's row at a place for the first time
abbrev pub is_first : ℕ → ℕ → Match → ℕ → Bool
is_first class id one n = not (is_above class id one n) && is_above class id one (n + 1)

-- a match was counted for the fact that stands in its row at a place for the first time, if any
abbrev pub AddsPart : Entries → Match → ℕ → Entries → Type 0
AddsPart old one n new =
    (class id : ℕ) → tally_in new class id ≡ counted_if (is_first class id one n) one.impact (tally_in old class id)

-- there is room for a match in the tally of each fact that doesn't stand in its row before a place
abbrev pub HasRoomAt : Entries → Match → ℕ → Type 0
HasRoomAt entries one n =
    (class id : ℕ) → is_above class id one n ≡ false → TakesOne (tally_in entries class id) one.impact

-- matches that are few and small enough that any of them can be counted, and their impacts added up
pub record AreFew (matches : List Match) : Type 0 where
  pub count : length matches < 2 ^ 64
  pub impacts : AreWithin score_limit matches

-- tallies of some matches, with room for these too
abbrev pub HasRoomFor : Entries → List Match → Type 0
HasRoomFor entries matches = (before : List Match) × AreTallies entries before × AreFew (before ++ matches)

-- what were the tallies of some matches are those of these too
abbrev pub CountsMore : Entries → Entries → List Match → Type 0
CountsMore old new matches = (before : List Match) → AreTallies old before → AreTallies new (before ++ matches)
