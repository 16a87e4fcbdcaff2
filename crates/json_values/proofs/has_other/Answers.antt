use Rattle.std.proofs.Common.{sym, ◌∙◌}
use Rattle.json_values.proofs.Reading.{has_other-keys, has_other-none}
use Rattle.json_values.proofs.has_other.Goals as goal

pub returns-in-Some : goal.returns-in-Some
returns-in-Some g c names knows =
    c.has_other_key.ensures names knows ∙ sym (has_other-keys names _ c.in-Some.members.now.entries c.in-Some.ensures)

pub returns-in-None : goal.returns-in-None
returns-in-None g c names knows = sym (has_other-none names _ c.in-None.ensures)
