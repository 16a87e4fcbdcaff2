use Rattle.std.proofs.Common.{sym}
use Rattle.run_journal.proofs.Digits.{no_number}
use Rattle.run_journal.proofs.number.number_in.Goals as goal

pub returns-in-Err : goal.returns-in-Err
returns-in-Err c = sym (no_number c.args.low c.args.high c.args.word.now c.in-Err.ensures.cases.0)
