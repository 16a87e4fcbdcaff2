-- The restaurant's classes, by number.
use Rattle.std.specs.Prelude.{ℕ, codes, false, List, [], ◌∷◌}
use Rattle.plan_facts.specs.declared.record.ClassDef.{ClassDef}
use Rattle.domain_words.specs.Tables.{class, name_field, number_field, variable}

-- the numbers of the classes
abbrev pub table : ℕ
table = 0

abbrev pub party : ℕ
party = 1

-- a table: how many seats it has
abbrev pub table_class : ClassDef
table_class = class (codes "table") (number_field (codes "seats") ∷ []) []

-- a party: its host, how many guests come, and the table that is planned for them, which may not stay null
abbrev pub party_class : ClassDef
party_class =
    class (codes "party") (name_field (codes "host") ∷ number_field (codes "guests") ∷ [])
    (variable (codes "table") table false ∷ [])

-- the classes in order
abbrev pub restaurant_classes : List ClassDef
restaurant_classes = table_class ∷ party_class ∷ []
