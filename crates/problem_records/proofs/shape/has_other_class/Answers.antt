use Rattle.std.proofs.Common.{◌≡◌, ◌∙◌, rules, sym}
use Rattle.std.specs.List.{list_any}
use Rattle.std.specs.Str.{bytes_eq}
use Rattle.json_values.proofs.Reading.{list_any-map}
use Rattle.plan_facts.specs.declared.record.ClassDef.{ClassDef}
use Rattle.problem_records.specs.Shapes.{class_names}
use Rattle.problem_records.proofs.shape.has_other_class.Goals as goal

pub returns : goal.returns
returns c = c.has_other.ensures (class_names c.args.schema.now) (record {
  answers = λ name known said.
      let is : known ≡ list_any (λ class. bytes_eq name class.name) c.args.schema.now = search rules in
      is ∙ sym (list_any-map (λ (class : ClassDef). class.name) (bytes_eq name) c.args.schema.now);
})
