-- What stands in the facts of a problem.
use Rattle.std.specs.Prelude.{ℕ, Bool, ◌==◌, not, List, [], Option, length, unwrap_or, option_and_then, codes}
use Rattle.serde_json.specs.Data.{Data}
use Rattle.serde_json.specs.Find.{get}
use Rattle.json_values.specs.Values.{number_within, items_of}
use Rattle.plan_facts.specs.Limits.{field_limit}
use Rattle.plan_facts.specs.declared.record.ClassDef.{ClassDef}

-- the class has variables, so that its records are entities
abbrev pub has_entities : ClassDef → Bool
has_entities class = not (length class.vars == 0)

-- the records that the facts list for a class; none where they don't name it
abbrev pub records_of : Data → ClassDef → List Data
records_of facts class = unwrap_or (option_and_then items_of (get class.name facts)) []

-- the id that a member of a record holds; none where it holds no whole number from 1 to 10^9
abbrev pub id_in : List ℕ → Data → Option ℕ
id_in name entry = option_and_then (number_within 1 field_limit) (get name entry)

-- the id of a record; 0 where it has none
abbrev pub id_of : Data → ℕ
id_of entry = unwrap_or (id_in (codes "id") entry) 0
