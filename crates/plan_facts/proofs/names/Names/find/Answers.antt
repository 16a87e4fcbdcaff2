use Rattle.std.proofs.Common.{◌∙◌, sym}
use Rattle.plan_facts.proofs.NamesLaws.{place_of-keys, place_of-text}
use Rattle.plan_facts.proofs.names.Names.find.Goals as goal

pub returns-in_err-place-clause-place : goal.returns-in_err-place-clause-place
returns-in_err-place-clause-place c =
    c.from_residual.ensures ∙ place_of-keys c.self.inside.texts.keys c.args.self.now c.args.text.now _ c.self.view_is c.in_err-place.ensures.index

pub returns-clause-place : goal.returns-clause-place
returns-clause-place c = place_of-keys c.self.inside.texts.keys c.args.self.now c.args.text.now _ c.self.view_is c.in_ok-place.ensures.index

pub returns-clause-text : goal.returns-clause-text
returns-clause-text c =
    place_of-text c.args.self.now c.args.text.now c.in_ok-place.place
    (sym (place_of-keys c.self.inside.texts.keys c.args.self.now c.args.text.now _ c.self.view_is c.in_ok-place.ensures.index))
