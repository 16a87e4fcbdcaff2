-- What always holds of the node at a rule's end.
use Rattle.std.specs.Prelude.{◌≡◌, Bool, false}

-- it is torn in a trial alone
abbrev pub IsWhole : Bool → Bool → Type 0
IsWhole is_open torn = is_open ≡ false → torn ≡ false
