-- That nodes stand for the same rows while heads change.
use Rattle.std.specs.Prelude.{◌≡◌, ◌↔◌, true, List}
use Rattle.plan_rules.specs.Meaning.{Meaning}
use Rattle.stream_heads.specs.declared.cells.Cell.{Cell}
use Rattle.stream_heads.specs.Meant.{Extends, Rows, all_live}
use Rattle.score_director.specs.declared.node.NetNode.{NetNode}
use Rattle.score_director.specs.Meaning.{AreLive}
use Rattle.score_director.specs.Nodes.{NodeHolds}
use Rattle.head_changes.specs.Takers.{Takers}

-- a node stands for rows by some heads just where it does by heads that have more records
abbrev pub NodesStay : Type 0
NodesStay = (m : Meaning) (heads more : Rows) (takers : Takers) (rows : List (List Cell)) (n : NetNode)
    → Extends heads more → AreLive heads takers → all_live heads rows ≡ true
    → NodeHolds m heads takers rows n ↔ NodeHolds m more takers rows n
