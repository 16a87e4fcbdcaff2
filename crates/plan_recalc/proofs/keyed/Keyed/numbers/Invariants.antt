use Rattle.std.proofs.Common.{◌≡◌, ◌≤◌, map, take, length}
use Rattle.std.specs.Prelude.{All}
use Rattle.plan_rules.specs.Groups.{rows_with}
use Rattle.plan_rules.specs.Meaning.{IsKeyNumber}
use Rattle.plan_recalc.proofs.keyed.Keyed.numbers.Given as goal

-- the numbers of the rows so far
abbrev pub invariant-loop-place : goal.invariant-loop-place
invariant-loop-place g l = record {
  numbers : l.numbers ≡ map (g.B.Book.meaning.key_of l.number) (rows_with g.B.Book.meaning l.self.keys.now (take l.place l.self.rows.now) l.key);
  range : All IsKeyNumber l.numbers;
  few : length l.numbers ≤ l.place;
}
