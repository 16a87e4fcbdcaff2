-- What the lines of a feed make of what is searched, and the lines that say so.
use Rattle.std.specs.Prelude.{◌≡◌, ◌++◌, ℕ, List, [], ◌∷◌, Option, is_some, fold, map, take, if◌then◌else◌}
use Rattle.std.specs.Option.{option_map_or}
use Rattle.plan_facts.specs.declared.record.ClassDef.{ClassDef}
use Rattle.plan_rules.specs.declared.rule.RuleDef.{RuleDef}
use Rattle.plan_changes.specs.Change.{ChangeView}
use Rattle.plan_changes.specs.Deeds.{is_weight}
use Rattle.plan_changes.specs.Performed.{names_after, plan_after, weights_after}
use Rattle.plan_changes.specs.Ready.{ReadyView}
use Rattle.plan_changes.specs.declared.fault.ChangeFault.{ChangeFault}
use Rattle.plan_changes.specs.declared.fault.ChangeFault.TheVariants as fault
use Rattle.plan_changes.specs.declared.line.Body.{Body}
use Rattle.plan_changes.specs.declared.line.Body.TheVariants.{Bad, Do, Stop}
use Rattle.plan_changes.specs.declared.line.LineFault.{LineFault}
use Rattle.plan_changes.specs.declared.line.LineFault.TheVariants.{LongLine, Syntax}
use Rattle.plan_changes.specs.declared.line.Post.{Post}
use Rattle.plan_reports.specs.declared.line.Line.{Line}
use Rattle.plan_reports.specs.declared.line.Line.TheVariants as line
use Rattle.plan_search.specs.Posed.{State}
use Rattle.plan_search.specs.RunLines.{Feed, handled_lines}
use Rattle.score_director.specs.Refused.{ready_fault, ready_for}
use Rattle.score_director.specs.View.{DirectorView, at_rest}

-- what changes are judged by: the classes of facts, the rules, and the caps of their match weights
pub record Grounds : Type 0 where
  pub classes : List ClassDef
  pub rules : List RuleDef
  pub caps : List ℕ

-- a line of a feed, and the boundary at which it is taken
pub record Taken : Type 0 where
  pub post : Post
  pub boundary : ℕ

-- the grounds of these parts
abbrev pub grounds : List ClassDef → List RuleDef → List ℕ → Grounds
grounds classes rules caps = record { classes = classes; rules = rules; caps = caps }

-- what is searched, as a director and names have it
abbrev pub searched : DirectorView → List (List ℕ) → State
searched seen names = record { plan = seen.plan; names = names; weights = seen.weights }

-- a director at rest on what is searched
abbrev pub director_on : List RuleDef → State → DirectorView
director_on rules state = at_rest rules state.weights state.plan

-- what a change is refused for, the first that applies
abbrev pub change_refusal : Grounds → State → ChangeView → Option ChangeFault
change_refusal grounds state change =
    ready_fault grounds.classes grounds.caps (director_on grounds.rules state) state.names change

-- what a change comes to that isn't refused
abbrev pub ready_in : Grounds → State → ChangeView → ReadyView
ready_in grounds state change = ready_for grounds.classes (director_on grounds.rules state) change

-- what is searched once a change was made
abbrev pub changed_by : ReadyView → State → State
changed_by ready state = record {
  plan = plan_after ready state.names state.plan;
  names = names_after ready state.names;
  weights = weights_after ready state.weights;
}

-- what a change makes of what is searched: nothing where it is refused
unfoldable pub with_change : Grounds → State → ChangeView → State
with_change grounds state change =
    if is_some (change_refusal grounds state change) then state else changed_by (ready_in grounds state change) state

-- what a line makes of what is searched: nothing where it is no change
abbrev pub with_line : Grounds → State → Body → State
with_line grounds state (Do change) = with_change grounds state change
with_line grounds state (Bad fault) = state
with_line grounds state (Stop cause) = state

-- the fault of a line that is no change
abbrev pub fault_of : LineFault → ChangeFault
fault_of (Syntax spot) = fault.Syntax spot
fault_of LongLine = fault.LongLine

-- the line that says that a change was made
abbrev pub applied_line : ℕ → ℕ → ReadyView → Line
applied_line number boundary ready =
    if is_weight ready.deed then line.AppliedRule number boundary ready.rule
    else line.Applied number boundary ready.class ready.id

-- the line that says what became of a change
unfoldable pub change_line : Grounds → State → ℕ → ℕ → ChangeView → Line
change_line grounds state number boundary change =
    option_map_or (λ fault. line.Refused number boundary fault) (change_refusal grounds state change)
    (applied_line number boundary (ready_in grounds state change))

-- the lines that say what became of a line; none of one that says only that its feed ended
abbrev pub told_of : Grounds → State → ℕ → ℕ → Body → List Line
told_of grounds state number boundary (Do change) = change_line grounds state number boundary change ∷ []
told_of grounds state number boundary (Bad fault) = line.Refused number boundary (fault_of fault) ∷ []
told_of grounds state number boundary (Stop cause) = []

-- a feed whose lines are taken at boundaries, each judged by these grounds
abbrev pub feed_on : Grounds → Feed Taken
feed_on grounds = record {
  handle = λ state taken. with_line grounds state taken.post.body;
  tells = λ state taken. told_of grounds state taken.post.line taken.boundary taken.post.body;
}

-- a post that is taken at a boundary
abbrev pub taken : ℕ → Post → Taken
taken boundary post = record { post = post; boundary = boundary }

-- posts that are taken at a boundary
abbrev pub taken_at : ℕ → List Post → List Taken
taken_at boundary posts = map (taken boundary) posts

-- some lines were taken: this is what they made of what was searched, and what was told of them
pub record Took (feed : Feed Taken) (lines : List Taken) (before after : State) (old new : List Line) : Type 0 where
  pub state : after ≡ fold feed.handle before lines
  pub told : new ≡ old ++ handled_lines feed before lines

-- the first so many of some lines were taken, and nothing else was done
abbrev pub TookFront : Feed Taken → List Taken → State → State → List Line → List Line → Type 0
TookFront feed lines before after old new = (count : ℕ) × Took feed (take count lines) before after old new
