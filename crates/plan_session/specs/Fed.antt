-- Runs whose boundaries take lines of a feed: their legs, and what is printed of them, boundary by boundary.
use Rattle.std.specs.Prelude.{ℕ, zero, suc, List, [], ◌∷◌}
use Rattle.plan_reports.specs.declared.line.Line.{Line}
use Rattle.plan_reports.specs.declared.line.Line.TheVariants as line
use Rattle.plan_search.specs.Leg.{Leg, leg_from, stepped}
use Rattle.plan_search.specs.Posed.{Posed, State, game_of}
use Rattle.plan_search.specs.Quiet.{leg_after}
use Rattle.plan_search.specs.Run.{step_newest}
use Rattle.plan_search.specs.RunLines.{Feed, legs_lines, legs_of, run_lines, text_of}
use Rattle.plan_session.specs.Course.{BareLeg}

module _ {Change : Type 0} where
  -- what the boundaries up to one take, the newest first, by what each takes
  abbrev pub cuts_to : (ℕ → List Change) → ℕ → List (List Change)
  cuts_to takes zero = takes 0 ∷ []
  cuts_to takes (suc n) = takes (suc n) ∷ cuts_to takes n

  -- the legs of a run up to the cut of a boundary, the newest first
  abbrev pub legs_to : Feed Change → Posed → (ℕ → List Change) → ℕ → List (Leg State Change)
  legs_to feed posed takes n = legs_of feed posed (cuts_to takes n)

  -- the same with the step behind that boundary
  abbrev pub legs_past : Feed Change → Posed → (ℕ → List Change) → ℕ → List (Leg State Change)
  legs_past feed posed takes n =
      step_newest (game_of feed.handle posed) posed.settings (suc n) (legs_to feed posed takes n)

  -- a leg without the lines that it took
  abbrev pub bare : Leg State Change → BareLeg
  bare leg = record { boundary = leg.boundary; origin = leg.origin; lines = []; start = leg.start; steps = leg.steps }

  -- the newest of some legs; where there is none, one that begins with the problem as read
  abbrev pub newest : Posed → List (Leg State Change) → BareLeg
  newest posed [] = leg_after posed 0
  newest posed (leg ∷ older) = bare leg

  -- the lines of a run with these legs, up to its best plan
  abbrev pub lines_so_far : Feed Change → Posed → List (Leg State Change) → List Line
  lines_so_far feed posed legs = line.Run posed.name ∷ legs_lines feed posed legs

  -- what a run with a feed prints, by what each boundary takes
  unfoldable pub fed_text : Feed Change → Posed → (ℕ → List Change) → List ℕ
  fed_text feed posed takes = text_of posed (run_lines feed posed (legs_to feed posed takes posed.settings.steps))

  -- the one leg of a run whose boundaries take nothing, after so many steps
  abbrev pub unfed_leg : Feed Change → Posed → ℕ → Leg State Change
  unfed_leg feed posed zero = leg_from (game_of feed.handle posed) 0 [] posed.origin
  unfed_leg feed posed (suc n) = stepped (game_of feed.handle posed) posed.settings (suc n) (unfed_leg feed posed n)
