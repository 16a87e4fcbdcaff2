-- The change that a line without a flaw is.
use Rattle.std.specs.Prelude.{ℕ, List, [], codes, unwrap_or, option_and_then}
use Rattle.serde_json.specs.Data.{Data}
use Rattle.serde_json.specs.Find.{get, as_str}
use Rattle.json_values.specs.Values.{number_within}
use Rattle.plan_facts.specs.Limits.{field_limit, weight_limit}
use Rattle.plan_changes.specs.Change.{ChangeView, view_of}
use Rattle.plan_changes.specs.declared.change.Deed.{Deed}
use Rattle.change_feed.specs.Items.{fields_of, values_of}

-- the text that a member holds; the empty one where there is none
abbrev pub text_in : List ℕ → Data → List ℕ
text_in name line = unwrap_or (option_and_then as_str (get name line)) []

-- the number from low to high that a member holds; 0 where there is none
abbrev pub number_in : ℕ → ℕ → List ℕ → Data → ℕ
number_in low high name line = unwrap_or (option_and_then (number_within low high) (get name line)) 0

-- the change that the line is: a member that it doesn't have is the empty text, 0, or the empty list
abbrev pub change_of : Deed → Data → ChangeView
change_of deed line =
    view_of deed
    (text_in (codes "class") line)
    (number_in 1 field_limit (codes "id") line)
    (fields_of line)
    (values_of line)
    (text_in (codes "rule") line)
    (number_in 0 weight_limit (codes "weight") line)
