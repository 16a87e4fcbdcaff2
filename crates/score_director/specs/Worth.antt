-- That a director knows what its plan is worth, and what it was worth before an attempt in course.
use Rattle.std.specs.Prelude.{◌≡◌, ◌≤◌, ◌<◌, ℕ, All, false, List, Option, IsTrue, is_some, length, option_map}
use Rattle.std.specs.Option.{ForSome}
use Rattle.plan_facts.specs.Plan.{IsPlan, PlanView, records_of}
use Rattle.plan_scores.specs.declared.plan_score.PlanScore.{PlanScore}
use Rattle.plan_moves.specs.declared.edit.Touch.{Touch}
use Rattle.plan_moves.specs.Edits.{applied, is_legal}
use Rattle.plan_rules.specs.declared.rule.RuleDef.{RuleDef}
use Rattle.plan_rules.specs.Meaning.{Meaning}
use Rattle.plan_rules.specs.Rows.{Facts}
use Rattle.plan_rules.specs.Totals.{whole_score}
use Rattle.head_changes.specs.Takers.{FactsTurn}
use Rattle.score_director.specs.Net.{AreNetsOf, NetView}
use Rattle.score_director.specs.NetState.{is_open}
use Rattle.score_director.specs.Standing.{HasRoomBeside, NetStands, StoodBefore}
use Rattle.score_director.specs.declared.director.Attempt.{Attempt}
use Rattle.score_director.specs.View.{DirectorView}

-- a network is that of the rules, in which there is room for each record that is put beside a row; it isn't torn, and
-- stands for the records of a plan
pub record IsNetFor (m : Meaning) (rules : List RuleDef) (plan : PlanView) (net : NetView) : Type 0 where
  pub sound : IsPlan plan
  pub own : AreNetsOf rules net.rules
  pub room : All HasRoomBeside rules
  pub classes : length plan.classes ≤ net.classes
  pub whole : net.is_torn ≡ false
  pub stands : NetStands m rules net (records_of plan)

-- a network stood for facts that have turned at these keys into those of a plan
pub record HasTurned (m : Meaning) (rules : List RuleDef) (net : NetView) (keys : List Touch) (plan : PlanView)
    : Type 0 where
  pub sound : IsPlan plan
  pub own : AreNetsOf rules net.rules
  pub classes : length plan.classes ≤ net.classes
  pub known : All (λ (key : Touch). key.class < net.classes) keys
  pub facts : Facts
  pub stands : NetStands m rules net facts
  pub turn : FactsTurn keys facts (records_of plan)

-- the attempt can be taken back: the network then stands for the plan before it, and what that was worth is known
pub record KnowsBefore (m : Meaning) (rules : List RuleDef) (weights : List ℕ) (plan : PlanView) (net : NetView)
    (attempt : Attempt) : Type 0 where
  pub legal : IsTrue (is_legal plan attempt.back)
  pub before : attempt.before ≡ whole_score m rules weights (applied plan attempt.back)
  pub stood : StoodBefore m rules net (records_of (applied plan attempt.back))

-- each rule has a weight, the network stands for the plan and the score is its score, and while an attempt is in course
-- the network's trial is open and what was before it is known
pub record IsDirector (m : Meaning) (rules : List RuleDef) (weights : List ℕ) (plan : PlanView) (net : NetView)
    (score : PlanScore) (attempt : Option Attempt) : Type 0 where
  pub each : length weights ≡ length rules
  pub network : IsNetFor m rules plan net
  pub worth : score ≡ whole_score m rules weights plan
  pub opened : is_open net ≡ is_some attempt
  pub before : ForSome attempt (KnowsBefore m rules weights plan net)

-- what contracts see of a director with these parts
abbrev pub seen_with : List RuleDef → List ℕ → PlanView → Option Attempt → DirectorView
seen_with rules weights plan attempt =
    record { rules = rules; weights = weights; plan = plan; base = option_map (λ a. applied plan a.back) attempt }
