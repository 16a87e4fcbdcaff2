use Rattle.std.proofs.Common.{◌≡◌, ◌∙◌, map, rules, sym}
use Rattle.std.specs.List.{list_any}
use Rattle.std.specs.Str.{bytes_eq}
use Rattle.json_values.proofs.Reading.{list_any-map}
use Rattle.problem_faults.specs.Words.{setting_name}
use Rattle.problem_settings.proofs.settings.has_unknown_member.Goals as goal

pub returns : goal.returns
returns c = c.has_other.ensures (map setting_name c.args.known.now) (record {
  answers = λ name known said.
      let is : known ≡ list_any (λ setting. bytes_eq name (setting_name setting)) c.args.known.now = search rules in
      is ∙ sym (list_any-map setting_name (bytes_eq name) c.args.known.now);
})
