use Rattle.std.proofs.Common.{◌≡◌, length, take}
use Rattle.plan_facts.specs.Plan.{records_of}
use Rattle.plan_rules.specs.Rows.{Facts}
use Rattle.stream_heads.specs.Standing.{KeepsBase}
use Rattle.head_changes.specs.Changes.{all_come}
use Rattle.head_changes.specs.Takers.{FactsTurn, HeadsHold, Takers, heads_without}
use Rattle.head_changes.proofs.Keyed.{KeysDone}
use Rattle.head_changes.proofs.gathering.gather_each.Given as goal

-- what the keys so far turned into is gathered
abbrev pub invariant-loop-key : goal.invariant-loop-key
invariant-loop-key l = record {
  done : (takers : Takers) (facts : Facts) → HeadsHold l.initial.heads.now takers facts → FactsTurn l.keys facts (records_of l.plan)
      → KeysDone l.initial.heads.now l.heads.now l.changes takers facts l.plan (take l.key-index l.keys);
  back : heads_without (all_come l.changes) l.heads.now ≡ l.initial.heads.now;
  classes : length l.changes ≡ length l.initial.changes;
  base : KeepsBase l.initial.heads l.heads;
}
