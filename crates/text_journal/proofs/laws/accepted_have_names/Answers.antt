use Rattle.text_journal.proofs.Accepted.{accepted_have_names}
use Rattle.text_journal.proofs.laws.accepted_have_names.Goals as goal

pub returns : goal.returns
returns c = record { names = accepted_have_names }
