use Rattle.std.proofs.Common.{◌≡◌, ◌∙◌, ap, sym, pos, rules, SFits, w64}
use Rattle.std.proofs.lemmas.Int.{to_z-of_z}
use Rattle.serde_json.specs.View.{view}
use Rattle.plan_facts.specs.Names.{number_of}
use Rattle.problem_records.specs.Facts.{by_kind, number_in, text_in, field_number}
use Rattle.problem_records.proofs.raws.field_number.Goals as goal

pub returns-in-Name : goal.returns-in-Name
returns-in-Name c =
    let fits : SFits w64 c.name_number.result = search rules in
    let names = c.args.names.now in
    let entry = view c.args.entry.now in
    let field = c.args.field.now in
    let number = pos (number_of names (text_in field.name entry)) in
    let held : c.name_number.result ≡ number =
    c.name_number.ensures ∙ ap (λ text. pos (number_of names text)) (c.text_in.ensures ∙ ap (λ name. text_in name entry) c.as_slice-in-Name.ensures) in
    let is : c.name_number.result ≡ field_number names entry field =
    held ∙ sym (ap (λ kind. by_kind kind (number_in field.name entry) number) c.in-Name.is) in
    rw (to_z-of_z) is
