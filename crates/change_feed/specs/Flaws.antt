-- What is wrong with a line that is JSON.
use Rattle.std.specs.Prelude.{Bool, ◌||◌, not, List, [], ◌∷◌, Option, find, codes, is_some, option_map}
use Rattle.serde_json.specs.Data.{Data}
use Rattle.json_values.specs.Values.{is_text, number_within, has_other, must_be, may_be}
use Rattle.plan_facts.specs.Limits.{field_limit, weight_limit}
use Rattle.plan_changes.specs.declared.change.Deed.{Deed}
use Rattle.plan_changes.specs.declared.line.Spot.{Spot}
use Rattle.plan_changes.specs.declared.line.Spot.TheVariants.{Class, Id, Fields, Values, Rule, Weight, Member}
use Rattle.change_feed.specs.Deeds.{is_weight, needs_id, needs_fields, needs_values, may_have_values, known_names}
use Rattle.change_feed.specs.Items.{is_object_of, is_item, is_choice}

-- an id: a whole number from 1 to 10^9
abbrev pub is_id : Data → Bool
is_id value = is_some (number_within 1 field_limit value)

-- a weight: a whole number from 0 to 1,000,000
abbrev pub is_rule_weight : Data → Bool
is_rule_weight value = is_some (number_within 0 weight_limit value)

-- the class is named, unless a rule is meant
abbrev pub has_class : Deed → Data → Bool
has_class deed line = is_weight deed || must_be is_text (codes "class") line

-- the id is given where it is needed
abbrev pub has_id : Deed → Data → Bool
has_id deed line = not (needs_id deed) || must_be is_id (codes "id") line

-- the fields are given where they are needed, each a whole number or a text
abbrev pub has_fields : Deed → Data → Bool
has_fields deed line = not (needs_fields deed) || must_be (is_object_of is_item) (codes "fields") line

-- the variables are given where they are needed
abbrev pub has_due_values : Deed → Data → Bool
has_due_values deed line = not (needs_values deed) || must_be (is_object_of is_choice) (codes "values") line

-- what is given to variables, where it may be, is null or an id each
abbrev pub has_good_values : Deed → Data → Bool
has_good_values deed line = not (may_have_values deed) || may_be (is_object_of is_choice) (codes "values") line

-- the rule is named where one is meant
abbrev pub has_rule : Deed → Data → Bool
has_rule deed line = not (is_weight deed) || must_be is_text (codes "rule") line

-- its weight is given where one is meant
abbrev pub has_weight : Deed → Data → Bool
has_weight deed line = not (is_weight deed) || must_be is_rule_weight (codes "weight") line

-- what must hold of a line of the deed, in order, each beside what is wrong where it doesn't
abbrev pub demands : Deed → Data → List (Bool × Spot)
demands deed line =
    (has_class deed line, Class)
    ∷ (has_id deed line, Id)
    ∷ (has_fields deed line, Fields)
    ∷ (has_due_values deed line, Values)
    ∷ (has_good_values deed line, Values)
    ∷ (has_rule deed line, Rule)
    ∷ (has_weight deed line, Weight)
    ∷ (not (has_other (known_names deed) line), Member)
    ∷ []

-- the first demand on the line of a deed that isn't met
abbrev pub deed_flaw : Deed → Data → Option Spot
deed_flaw deed line = option_map (λ demand. demand.1) (find (λ demand. not demand.0) (demands deed line))
