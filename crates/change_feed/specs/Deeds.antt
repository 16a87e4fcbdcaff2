-- What a line's change does, and the members that it has for it.
use Rattle.std.specs.Prelude.{ℕ, Bool, true, false, List, [], ◌∷◌, Option, find, codes, option_and_then}
use Rattle.std.specs.Str.{bytes_eq}
use Rattle.serde_json.specs.Data.{Data}
use Rattle.serde_json.specs.Find.{get, as_str}
use Rattle.plan_changes.specs.declared.change.Deed.{Deed}
use Rattle.plan_changes.specs.declared.change.Deed.TheVariants.{Add, Remove, Alter, Assign, Weight}

-- the word of each deed
abbrev pub deed_word : Deed → List ℕ
deed_word Add = codes "add"
deed_word Remove = codes "remove"
deed_word Alter = codes "alter"
deed_word Assign = codes "assign"
deed_word Weight = codes "weight"

-- the deed that has the word
abbrev pub deed_named : List ℕ → Option Deed
deed_named word = find (λ deed. bytes_eq word (deed_word deed)) (Add ∷ Remove ∷ Alter ∷ Assign ∷ Weight ∷ [])

-- the deed that a line's member `do` names; none where it is missing, no text or another one
abbrev pub deed_of : Data → Option Deed
deed_of line = option_and_then deed_named (option_and_then as_str (get (codes "do") line))

-- the deed gives a rule another weight; the others mean facts of a class
abbrev pub is_weight : Deed → Bool
is_weight Add = false
is_weight Remove = false
is_weight Alter = false
is_weight Assign = false
is_weight Weight = true

-- the deed means a fact that is there
abbrev pub needs_id : Deed → Bool
needs_id Add = false
needs_id Remove = true
needs_id Alter = true
needs_id Assign = true
needs_id Weight = false

-- the deed gives fields
abbrev pub needs_fields : Deed → Bool
needs_fields Add = true
needs_fields Remove = false
needs_fields Alter = true
needs_fields Assign = false
needs_fields Weight = false

-- the deed gives variables
abbrev pub needs_values : Deed → Bool
needs_values Add = false
needs_values Remove = false
needs_values Alter = false
needs_values Assign = true
needs_values Weight = false

-- the deed may give variables
abbrev pub may_have_values : Deed → Bool
may_have_values Add = true
may_have_values Remove = false
may_have_values Alter = false
may_have_values Assign = true
may_have_values Weight = false

-- the names of the members that a change may have, by its deed
abbrev pub known_names : Deed → List (List ℕ)
known_names Add = codes "do" ∷ codes "class" ∷ codes "fields" ∷ codes "values" ∷ []
known_names Remove = codes "do" ∷ codes "class" ∷ codes "id" ∷ []
known_names Alter = codes "do" ∷ codes "class" ∷ codes "id" ∷ codes "fields" ∷ []
known_names Assign = codes "do" ∷ codes "class" ∷ codes "id" ∷ codes "values" ∷ []
known_names Weight = codes "do" ∷ codes "rule" ∷ codes "weight" ∷ []
