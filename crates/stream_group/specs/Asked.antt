-- What was found of rows that come.
use Rattle.std.specs.Prelude.{◌≡◌, ◌++◌, ℕ, ℤ, All, List, map}
use Rattle.plan_rules.specs.Meaning.{IsKeyNumber}
use Rattle.stream_heads.specs.declared.cells.Cell.{Cell}
use Rattle.stream_heads.specs.Sides.{all_numbered}
use Rattle.stream_group.specs.declared.ahead.GroupAhead.{GroupAhead}
use Rattle.stream_group.specs.Keyed.{coming, number_in}

-- rows that come were asked their numbers, and noted with them; the collected ones are keys' numbers
pub record Asks (numbers : List Cell → List ℤ) (width : ℕ)
    (come : List (List Cell)) (before after : GroupAhead) : Type 0 where
  pub come_is : after.come.items ≡ before.come.items ++ all_numbered numbers come
  pub changes_is : after.changes.items ≡ before.changes.items ++ map coming (all_numbered numbers come)
  pub range : All IsKeyNumber (map (number_in width) (all_numbered numbers come))
