use Rattle.std.proofs.Common.{◌∙◌, ◌||◌, sym, ap}
use Rattle.std.specs.List.{list_any}
use Rattle.std.specs.Str.{bytes_eq}
use Rattle.problem_records.proofs.Members.{any_member}
use Rattle.problem_records.proofs.record.is_member.Goals as goal

pub returns-then-is_field : goal.returns-then-is_field
returns-then-is_field c =
    let vars = list_any (λ var. bytes_eq c.args.name.now var.name) c.args.class.now.vars in
    c.if-is_field.true
    ∙ sym (any_member c.args.class.now c.args.name.now ∙ ap (λ b. b || vars) (sym c.is_field.ensures ∙ c.if-is_field.true))

pub returns-else-is_field : goal.returns-else-is_field
returns-else-is_field c =
    let vars = list_any (λ var. bytes_eq c.args.name.now var.name) c.args.class.now.vars in
    c.is_variable.ensures
    ∙ sym (any_member c.args.class.now c.args.name.now ∙ ap (λ b. b || vars) (sym c.is_field.ensures ∙ c.if-is_field.false))
