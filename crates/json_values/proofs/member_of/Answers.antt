use Rattle.std.proofs.Common.{option_map, ap, sym, ◌∙◌}
use Rattle.serde_json.specs.View.{view}
use Rattle.serde_json.proofs.Views.{view_of_ref, view-lookup}
use Rattle.json_values.proofs.Reading.{no_member}
use Rattle.json_values.proofs.member_of.Goals as goal

pub returns-in-Ok : goal.returns-in-Ok
returns-in-Ok c =
    view_of_ref c.get.result ∙ ap (option_map view) c.get.ensures.value ∙ rw c.in-Ok.ensures.cases.0 (view-lookup c.args.name.now c.args.members.now.entries)

pub returns-in-Err : goal.returns-in-Err
returns-in-Err c = sym (no_member c.args.name.now c.args.members.now.entries c.in-Err.ensures.cases.0)
