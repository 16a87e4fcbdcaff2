use Rattle.text_journal.proofs.Accepted.{accepted_have_names}
use Rattle.plan_session.proofs.fed_files.has_names.Goals as goal

pub returns : goal.returns
returns g c =
    let domain = c.args.domain.now in
    accepted_have_names domain.schema domain.rules.numbers domain.rules.defs domain.rules.harder c.classes-count.ensures.faultless
    (rw domain.over at domain.rules.accepted)
