-- What was found of rows that go and come.
use Rattle.std.specs.Prelude.{◌≡◌, ◌+◌, ◌-◌, ◌++◌, ℕ, ℤ, All, List, Option, map}
use Rattle.std.specs.List.{filter_map}
use Rattle.std.specs.FinMap as finmap
use Rattle.plan_rules.specs.Meaning.{Meaning}
use Rattle.plan_rules.specs.declared.row.Part.{Part}
use Rattle.stream_heads.specs.declared.cells.Cell.{Cell}
use Rattle.stream_heads.specs.declared.member.Member.{Member}
use Rattle.stream_heads.specs.Bags.{IsPartOf}
use Rattle.stream_heads.specs.Meant.{Rows, row_at}
use Rattle.stream_heads.specs.Sides.{IsNumbered, all_numbered}
use Rattle.stream_heads.specs.Standing.{Under}
use Rattle.stream_end.specs.declared.ahead.EndAhead.{EndAhead}
use Rattle.stream_end.specs.Weights.{IsWeight, clipped, come_weighed, kept_sum, weights_at}

-- where each row stood with this weight, what rows weigh that are there was taken off
abbrev pub TakesOffBy : (List Cell → List ℤ) → List Member → List (List Cell) → ℕ → ℕ → Type 0
TakesOffBy weights members gone before after =
    All (IsNumbered weights) members → IsPartOf (all_numbered weights gone) members
    → after ≡ before - kept_sum (all_numbered weights gone)

-- the same, whatever the weights
abbrev pub TakesOff : List Member → List (List Cell) → ℕ → ℕ → Type 0
TakesOff members gone before after = (weights : List Cell → List ℤ) → TakesOffBy weights members gone before after

-- the same, where the weights are those that a weigher gives, or 1 where there is none
abbrev pub TakesOffWeighed : Option ℕ → List Member → List (List Cell) → ℕ → ℕ → Type 0
TakesOffWeighed weigher members gone before after =
    (m : Meaning) (heads : Rows) → TakesOffBy (weights_at m heads weigher) members gone before after

-- rows that come were weighed, noted with their weights, and these added
pub record Weighs (weights : List Cell → List ℤ) (come : List (List Cell)) (before after : EndAhead) : Type 0 where
  pub come_is : after.come.items ≡ before.come.items ++ all_numbered weights come
  pub fit : All IsWeight (all_numbered weights come)
  pub total : after.total ≡ clipped (before.total + kept_sum (all_numbered weights come))

-- rows that come were added: weighed where there is a weigher, else only counted
pub record Adds (m : Meaning) (heads : Rows) (weigher : Option ℕ) (come : List (List Cell))
    (before after : EndAhead) : Type 0 where
  pub come_is : after.come.items ≡ before.come.items ++ come_weighed m heads weigher come
  pub fit : All IsWeight (all_numbered (weights_at m heads weigher) come)
  pub total : after.total ≡ clipped (before.total + kept_sum (all_numbered (weights_at m heads weigher) come))

-- what the rows mean that are kept at places
abbrev pub rows_from : Rows → Under Member → List ℕ → List (List Part)
rows_from heads kept places = map (λ (member : Member). row_at heads member.cells) (filter_map (finmap.get kept) places)
