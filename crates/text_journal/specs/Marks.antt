-- The change lines among printed lines, and the boundaries that they name.
use Rattle.std.specs.Prelude.{ℕ, List, Option, Some, None, map}
use Rattle.std.specs.List.{filter_map}
use Rattle.plan_reports.specs.declared.line.Line.{Line}
use Rattle.plan_reports.specs.declared.line.Line.TheVariants as line

-- the number and the boundary of a line that says what became of a feed's line; none for another line
abbrev pub change_mark : Line → Option (ℕ × ℕ)
change_mark (line.Applied feed boundary class id) = Some (feed, boundary)
change_mark (line.AppliedRule feed boundary rule) = Some (feed, boundary)
change_mark (line.Refused feed boundary fault) = Some (feed, boundary)
change_mark other = None

-- those of some lines, in order
abbrev pub change_marks : List Line → List (ℕ × ℕ)
change_marks lines = filter_map change_mark lines

-- the boundaries that they name
abbrev pub boundaries_told : List Line → List ℕ
boundaries_told lines = map (λ mark. mark.1) (change_marks lines)
