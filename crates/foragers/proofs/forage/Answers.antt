use Rattle.std.proofs.Common.{rules, false, arith}
use Rattle.std.proofs.lemmas.Grind.{common_steps}
use Rattle.plan_scores.specs.Sum.{zero_score}
use Rattle.foragers.specs.declared.Seen.{Seen}
use Rattle.foragers.proofs.Winners.{winner_among-next}
use Rattle.foragers.proofs.forage.Goals as goal
use Rattle.foragers.proofs.forage.Goals.{then-entry+else-limit-accepted, else-entry}

-- what a read past the end would give
abbrev no_entry : Seen
no_entry = record { number = 0; score = record { unplaced = 0; score = zero_score }; accepted = false }

pub entries-preserved : goal.entries-preserved
entries-preserved c = record {
  within = search rules;
  count = elim c.if-entry.branch [ then-entry+else-limit-accepted w ↦ grind (arith, common_steps) | else-entry w ↦ grind (arith, common_steps) ];
  room = elim c.if-entry.branch [ then-entry+else-limit-accepted w ↦ omega arith | else-entry w ↦ omega arith ];
  seen = elim c.if-entry.branch [ then-entry+else-limit-accepted w ↦ grind (arith, common_steps) | else-entry w ↦ grind (arith, common_steps) ];
  done = elim c.if-entry.branch [ then-entry+else-limit-accepted w ↦ grind (arith, common_steps) | else-entry w ↦ grind (arith, common_steps) ];
  winner = winner_among-next c.args.judged.now c.entries.seen no_entry c.entries.winner c.better-winner.result c.entries-test.true c.entries.invariant.winner c.better-winner.ensures;
}
