use Rattle.std.proofs.Common.{arith}
use Rattle.run_rows.proofs.tests.alone.timetable.Goals as goal

pub returns : goal.returns
returns g c = record {
  keeps = rw c.new-2.ensures.rules (c.in_ok-rules.ensures.keeps c.requires.tests_keep (rw c.new-keys.ensures (λ k d within. absurd (omega arith))) c.requires.weighers_keep);
}
