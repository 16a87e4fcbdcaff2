-- What a call that fills an edit leaves in it.
use Rattle.std.specs.Prelude.{◌≡◌, Bool, true, false, List, [], Option, Some, None, Result, Ok, Err}
use Rattle.plan_moves.specs.declared.edit.Set.{Set}

-- true with the edit that is due; false where none is due, with an empty one; at a fault an empty one too
abbrev pub Fills : {E : Type 0} → Result Bool E → Option (List Set) → List Set → Type 0
Fills (Ok true) due edit = due ≡ Some edit
Fills (Ok false) due edit = (due ≡ None) × (edit ≡ [])
Fills (Err fault) due edit = edit ≡ []
