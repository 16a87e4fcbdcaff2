use Rattle.text_journal.proofs.ReadBack.{reads_back}
use Rattle.text_journal.proofs.laws.a_run_is_its_own_journal.Goals as goal

pub returns : goal.returns
returns c = record { reads_back = reads_back }
