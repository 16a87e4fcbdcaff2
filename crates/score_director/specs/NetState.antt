-- What always holds of a network, and what its calls lead to.
use Rattle.std.specs.Prelude.{◌≡◌, ℕ, Bool, false, true, All, List}
use Rattle.std.specs.List.{AllZip}
use Rattle.plan_facts.specs.Plan.{PlanView, records_of}
use Rattle.plan_moves.specs.declared.edit.Touch.{Touch}
use Rattle.plan_rules.specs.declared.row.Part.{Part}
use Rattle.plan_rules.specs.declared.rule.RuleDef.{RuleDef}
use Rattle.plan_rules.specs.Meaning.{Meaning}
use Rattle.plan_rules.specs.Range.{AreWithin}
use Rattle.plan_rules.specs.Rows.{Facts}
use Rattle.tuple_store.specs.View.{StoreView}
use Rattle.stream_heads.specs.Meant.{Rows}
use Rattle.stream_heads.specs.Standing.{KeepsBase}
use Rattle.head_changes.specs.declared.changes.ClassChange.{ClassChange}
use Rattle.head_changes.specs.Takers.{FactsTurn}
use Rattle.score_director.specs.declared.rule.RuleAhead.{RuleAhead}
use Rattle.score_director.specs.declared.rule.RuleNet.{RuleNet}
use Rattle.score_director.specs.Net.{IsInRange, NetView, StandsForFacts, weights_of}
use Rattle.score_director.specs.Rule.{HasBegun, HasCommitted, HasPlaces, HasRolledBack, IsRuleIdle, IsRuleOpen, IsRuleWhole, KeepsRuleBase, KnowsClasses}

-- there is a place for what is found of each rule, and for the changes of its classes; all trials are open alike, and
-- without one nothing is torn
pub record IsNet (heads : StoreView (List Part)) (nets : List RuleNet) (changes : List ClassChange)
    (found : List RuleAhead) (torn : Bool) : Type 0 where
  pub places : AllZip HasPlaces nets found
  pub known : All (KnowsClasses changes changes) nets
  pub opened : heads.is_open ≡ true → All IsRuleOpen nets
  pub idle : heads.is_open ≡ false → All IsRuleIdle nets
  pub whole : torn ≡ false → All IsRuleWhole nets
  pub calm : heads.is_open ≡ false → torn ≡ false

-- the facts of a plan are in range
pub record IsPlanInRange (sizes : List ℕ) (defs : List RuleDef) (plan : PlanView) : Type 0 where
  pub within : AreWithin sizes (records_of plan)
  pub rules : All (IsInRange sizes) defs

-- where heads and nodes stand for facts that turned at these keys into those of the plan, this is what the matches of each
-- rule weigh together then
abbrev pub Foresees : Meaning → List RuleDef → Rows → List RuleNet → List Touch → PlanView → List ℕ → Type 0
Foresees m defs heads nets keys plan totals =
    (facts : Facts) (sizes : List ℕ) → StandsForFacts m defs heads nets facts
    → FactsTurn keys facts (records_of plan) → IsPlanInRange sizes defs plan
    → totals ≡ weights_of m (records_of plan) defs

-- where the network stood for facts that turned at these keys into those of the plan, it stands for these
abbrev pub Turns : Meaning → List RuleDef → NetView → NetView → List Touch → PlanView → Type 0
Turns m defs old new keys plan =
    (facts : Facts) (sizes : List ℕ) → StandsForFacts m defs old.heads.now old.rules facts
    → FactsTurn keys facts (records_of plan) → IsPlanInRange sizes defs plan
    → StandsForFacts m defs new.heads.now new.rules (records_of plan)

-- a trial of the network is open
abbrev pub is_open : NetView → Bool
is_open net = net.heads.is_open

-- a look leaves the network as it was; what a rollback brings back matters in a trial alone
pub record IsSameNet (old new : NetView) : Type 0 where
  pub classes : new.classes ≡ old.classes
  pub now : new.heads.now ≡ old.heads.now
  pub base : KeepsBase old.heads new.heads
  pub rules : new.rules ≡ old.rules
  pub torn : new.is_torn ≡ old.is_torn

-- a change leaves the rules that the network is of, what a rollback brings back, and an open trial
pub record KeepsNet (old new : NetView) : Type 0 where
  pub classes : new.classes ≡ old.classes
  pub heads : KeepsBase old.heads new.heads
  pub rules : AllZip KeepsRuleBase old.rules new.rules

-- the network's trial began, was taken back, or was kept
pub record NetBegan (old new : NetView) : Type 0 where
  pub classes : new.classes ≡ old.classes
  pub heads : new.heads ≡ record { now = old.heads.now; base = old.heads.now; is_open = true }
  pub rules : AllZip HasBegun old.rules new.rules
  pub torn : new.is_torn ≡ false

pub record NetRolledBack (old new : NetView) : Type 0 where
  pub classes : new.classes ≡ old.classes
  pub heads : new.heads ≡ record { now = old.heads.base; base = old.heads.base; is_open = false }
  pub rules : AllZip HasRolledBack old.rules new.rules
  pub torn : new.is_torn ≡ false

pub record NetCommitted (old new : NetView) : Type 0 where
  pub classes : new.classes ≡ old.classes
  pub heads : new.heads ≡ record { now = old.heads.now; base = old.heads.now; is_open = false }
  pub rules : AllZip HasCommitted old.rules new.rules
  pub torn : new.is_torn ≡ false
