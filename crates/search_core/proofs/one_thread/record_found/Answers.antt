use Rattle.std.proofs.Common.{◌∙◌, arith}
use Rattle.search_core.specs.Desk.{desk}
use Rattle.search_core.proofs.one_thread.record_found.Goals as goal

pub note_found-requires : goal.note_found-requires
note_found-requires c =
    let at = c.requires in
    at.stands.keeps.verdicts c.args.number ∙ at.inside.unjudged c.args.number (omega arith)

pub returns : goal.returns
returns c = λ at. record {
  terms = c.note_found.ensures.terms ∙ at.stands.terms;
  keeps = c.in_ok-note_found.ensures.ok (desk at.terms at.events) at.stands.keeps;
}
