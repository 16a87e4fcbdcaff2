-- Runs without a feed: they have one leg, which grows step by step, and so does what is printed.
use Rattle.std.specs.Prelude.{◌≡◌, ◌≤◌, ℕ, zero, suc, List, [], ◌∷◌, ◌++◌}
use Rattle.plan_reports.specs.declared.line.Line.{Line}
use Rattle.plan_reports.specs.declared.line.Line.TheVariants as line
use Rattle.plan_search.specs.Game.{Game}
use Rattle.plan_search.specs.Leg.{Leg, best_of, leg_from, next_step, stepped}
use Rattle.plan_search.specs.Posed.{Posed, State, game_of}
use Rattle.plan_search.specs.RunLines.{best_lines_of, leg_lines, legs_of, no_feed, quiet_cuts, solve_text, step_line, text_of}

-- the search of a posed problem without a feed
abbrev pub game : Posed → Game State ⊥
game posed = game_of no_feed.handle posed

-- its leg after so many steps
abbrev pub leg_after : Posed → ℕ → Leg State ⊥
leg_after posed zero = leg_from (game posed) 0 [] posed.origin
leg_after posed (suc n) = stepped (game posed) posed.settings (suc n) (leg_after posed n)

-- the lines that are printed up to then
abbrev pub lines_after : Posed → ℕ → List Line
lines_after posed n = line.Run posed.name ∷ leg_lines no_feed posed (leg_after posed n)

-- the lines of the best plan after so many steps
abbrev pub best_lines_after : Posed → ℕ → List Line
best_lines_after posed n = best_lines_of posed (best_of (game posed) (leg_after posed n))

-- the line of the step after so many
abbrev pub next_line : Posed → ℕ → Line
next_line posed n = step_line posed (next_step (game posed) posed.settings (suc n) (leg_after posed n))

-- a run without a feed has one leg
abbrev pub HasOneLeg : Type 0
HasOneLeg = (posed : Posed) (n : ℕ) → legs_of no_feed posed (quiet_cuts n) ≡ leg_after posed n ∷ []

-- one step more prints one line more
abbrev pub GrowsByALine : Type 0
GrowsByALine = (posed : Posed) (n : ℕ) → lines_after posed (suc n) ≡ lines_after posed n ++ next_line posed n ∷ []

-- what is printed after some steps is a front of what is printed after more
pub record IsFront (posed : Posed) (front : List Line) (n : ℕ) : Type 0 where
  pub rest : List Line
  pub is : front ++ rest ≡ lines_after posed n

abbrev pub LaterLinesGoOn : Type 0
LaterLinesGoOn = (posed : Posed) (n m : ℕ) → n ≤ m → IsFront posed (lines_after posed n) m

-- what `solve` prints are the lines of all steps, and then those of the best plan
abbrev pub SolvePrints : Type 0
SolvePrints = (posed : Posed) → let n = posed.settings.steps in
    solve_text posed ≡ text_of posed (lines_after posed n ++ best_lines_after posed n)
