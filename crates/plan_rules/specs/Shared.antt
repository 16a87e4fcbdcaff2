-- The parts that a row shares.
use Rattle.std.specs.Prelude.{List, [], ◌∷◌}
use Rattle.std.specs.Arc.{arc_value}
use Rattle.plan_rules.specs.declared.row.Part.{Part}
use Rattle.plan_rules.specs.declared.shared.Shared.{Shared}
use Rattle.plan_rules.specs.declared.shared.Shared.TheVariants as shared

-- the shared parts, in order
abbrev pub parts_in : Shared → List Part
parts_in shared.Zero = []
parts_in (shared.One a) = arc_value a ∷ []
parts_in (shared.Two a b) = arc_value a ∷ arc_value b ∷ []
parts_in (shared.Three a b c) = arc_value a ∷ arc_value b ∷ arc_value c ∷ []
parts_in (shared.Four a b c d) = arc_value a ∷ arc_value b ∷ arc_value c ∷ arc_value d ∷ []
