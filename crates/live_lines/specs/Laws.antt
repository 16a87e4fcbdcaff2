-- Laws of lines that are taken.
use Rattle.std.specs.Prelude.{◌≡◌, ◌++◌, ℕ, List, [], ◌∷◌, fold}
use Rattle.plan_changes.specs.declared.fault.ChangeFault.{ChangeFault}
use Rattle.plan_reports.specs.declared.line.Line.TheVariants.{Refused}
use Rattle.plan_search.specs.Posed.{State}
use Rattle.plan_search.specs.RunLines.{handled_lines}
use Rattle.live_lines.specs.Taking.{Grounds, Taken, feed_on}

-- a line that is told as refused makes nothing of what is searched
abbrev pub RefusedStays : Type 0
RefusedStays = (by : Grounds) (state : State) (line : Taken) (number boundary : ℕ) (fault : ChangeFault)
    → (feed_on by).tells state line ≡ Refused number boundary fault ∷ []
    → (feed_on by).handle state line ≡ state

-- what is told of lines is what is told of the first of them, and of the others in what those leave
abbrev pub ToldInParts : Type 0
ToldInParts = (by : Grounds) (state : State) (first others : List Taken)
    → let after = fold (feed_on by).handle state first in
    handled_lines (feed_on by) state (first ++ others)
    ≡ handled_lines (feed_on by) state first ++ handled_lines (feed_on by) after others
