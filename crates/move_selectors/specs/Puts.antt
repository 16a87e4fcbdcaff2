-- What a call answers that may put an edit into an empty one.
use Rattle.std.specs.Prelude.{◌≡◌, Bool, true, false, List, Option, Some, None, Result, Ok, Err}
use Rattle.plan_moves.specs.declared.edit.Set.{Set}

-- true with the edit that is due, or false where none is due; at a fault anything may be left
abbrev pub Puts : {E : Type 0} → Result Bool E → Option (List Set) → List Set → Type 0
Puts (Ok true) due edit = due ≡ Some edit
Puts (Ok false) due edit = due ≡ None
Puts (Err fault) due edit = Unit {0}
