-- The rows at a rule's end, with their match weights.
use Rattle.std.specs.Prelude.{◌≡◌, ◌≤◌, ℕ, Bool, false, All, List, [], Option, length}
use Rattle.plan_rules.specs.Bags.{AreDifferent, AreSame}
use Rattle.plan_rules.specs.Limits.{row_limit}
use Rattle.plan_rules.specs.Meaning.{Meaning}
use Rattle.stream_heads.specs.declared.cells.Cell.{Cell}
use Rattle.stream_heads.specs.declared.delta.CellsDelta.{CellsDelta}
use Rattle.stream_heads.specs.declared.member.Member.{Member}
use Rattle.stream_heads.specs.Exact.{IsExact}
use Rattle.stream_heads.specs.Meant.{Rows}
use Rattle.stream_heads.specs.Sides.{all_numbered}
use Rattle.stream_end.specs.declared.ahead.EndAhead.{EndAhead}
use Rattle.stream_end.specs.Weights.{IsWeight, come_weighed, weight_sum, weights_at}

-- the rows at a rule's end: the weigher, the rows with their weights and what these add up to, the same as a rollback
-- brings it back, whether a trial is open, and whether a change was cut off
pub record EndView : Type 0 where
  pub weigher : Option ℕ
  pub now : List Member
  pub total : ℕ
  pub base : List Member
  pub base_total : ℕ
  pub is_open : Bool
  pub is_torn : Bool

-- an end without rows
abbrev pub empty_end : Option ℕ → EndView
empty_end weigher =
    record { weigher = weigher; now = []; total = 0; base = []; base_total = 0; is_open = false; is_torn = false }

-- just these rows are kept, of which there are no more than may be, with their weights and what these add up to
pub record IsWeighed (m : Meaning) (heads : Rows) (weigher : Option ℕ) (rows : List (List Cell))
    (kept : List Member) (total : ℕ) : Type 0 where
  pub members : AreSame kept (all_numbered (weights_at m heads weigher) rows)
  pub fit : All IsWeight kept
  pub few : length rows ≤ row_limit
  pub sum : total ≡ weight_sum m heads weigher rows

-- rows at an end lead on to others, of which there are no more than may be
pub record EndLeads (rows : List (List Cell)) (left : CellsDelta) (later : List (List Cell)) : Type 0 where
  pub different : AreDifferent rows
  pub exact : IsExact rows left.gone.items left.come.items later
  pub few : length later ≤ row_limit

-- where an end stands for rows, this is what those add up to that a change leads to
abbrev pub Foresees : Meaning → Rows → EndView → CellsDelta → ℕ → Type 0
Foresees m heads node left total =
    (rows later : List (List Cell)) → IsWeighed m heads node.weigher rows node.now node.total
    → EndLeads rows left later → total ≡ weight_sum m heads node.weigher later

-- what a look ahead finds where rows lead on to others: those that come with their weights, where there is a weigher,
-- and what the others add up to
pub record IsFound (m : Meaning) (heads : Rows) (weigher : Option ℕ) (left : CellsDelta)
    (later : List (List Cell)) (found : EndAhead) : Type 0 where
  pub come : found.come.items ≡ come_weighed m heads weigher left.come.items
  pub fit : All IsWeight found.come.items
  pub total : found.total ≡ weight_sum m heads weigher later

-- where an end stood for rows, and a look ahead found what a change of these rows makes, it stands for those that the
-- change leads to
abbrev pub LeadsEnd : EndView → List (List Cell) → List (List Cell) → EndAhead → EndView → Type 0
LeadsEnd old gone come found new =
    (m : Meaning) (heads : Rows) (rows : List (List Cell)) (left : CellsDelta) (later : List (List Cell))
    → gone ≡ left.gone.items → come ≡ left.come.items → IsWeighed m heads old.weigher rows old.now old.total
    → EndLeads rows left later → IsFound m heads old.weigher left later found
    → IsWeighed m heads old.weigher later new.now new.total
