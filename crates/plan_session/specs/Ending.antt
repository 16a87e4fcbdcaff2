-- How a run ends: it wrote a text whole and says its status, or memory or the sink failed, and a front of a text
-- stands written.
use Rattle.std.specs.Prelude.{◌≡◌, ◌⊎◌, ℕ, List}
use Rattle.plan_ports.specs.Outside.{SinkFails, SinkState, Wrote, WroteFront, WroteNothing}
use Rattle.plan_session.specs.declared.status.Status.{Status}
use Rattle.plan_session.specs.declared.status.Status.TheVariants as status

-- a front of a text that is due was written
pub record WroteDue (is_due : Status → List ℕ → Type 0) (old new : SinkState) : Type 0 where
  pub under : Status
  pub text : List ℕ
  pub due : is_due under text
  pub wrote : WroteFront text old new

-- what stands written where a run was cut short: nothing, or a front of a text that is due
abbrev pub Stands : (Status → List ℕ → Type 0) → SinkState → SinkState → Type 0
Stands is_due old new = WroteNothing old new ⊎ WroteDue is_due old new

-- the text that is due under the status was written whole
pub record EndsWhole (is_due : Status → List ℕ → Type 0) (old new : SinkState)
    (result : Status) : Type 0 where
  pub text : List ℕ
  pub due : is_due result text
  pub wrote : Wrote text old new

-- 1: want of memory
pub record EndsMemory (is_due : Status → List ℕ → Type 0) (old new : SinkState)
    (result : Status) : Type 0 where
  pub is : result ≡ status.Memory
  pub stands : Stands is_due old new

-- 6: the sink counted a fault
pub record EndsWrite (is_due : Status → List ℕ → Type 0) (old new : SinkState)
    (result : Status) : Type 0 where
  pub is : result ≡ status.Write
  pub fails : SinkFails old new
  pub stands : Stands is_due old new

-- a run that is due texts under statuses ended with this status, and left the sink so
abbrev pub Ended : (Status → List ℕ → Type 0) → SinkState → SinkState → Status → Type 0
Ended is_due old new result =
    EndsWhole is_due old new result
    ⊎ EndsMemory is_due old new result
    ⊎ EndsWrite is_due old new result

-- one text alone, under one status
abbrev pub Says : Status → List ℕ → Status → List ℕ → Type 0
Says said line status text = (status ≡ said) × (text ≡ line)
