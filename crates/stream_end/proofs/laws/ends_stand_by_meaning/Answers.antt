use Rattle.stream_end.proofs.Meaning.{weighed_still}
use Rattle.stream_end.proofs.laws.ends_stand_by_meaning.Goals as goal

pub returns : goal.returns
returns c = weighed_still
