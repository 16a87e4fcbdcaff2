-- What the program holds of JSON values, and what it asks of their names.
use Rattle.std.specs.Prelude.{◌≡◌, List, ℕ, Bool, Option, option_map}
use Rattle.std.specs.Str.{bytes_eq}
use Rattle.std.specs.List.{list_any}
use Rattle.std.specs.Fn.{FnReturnsAt}
use Rattle.std.proofs.Common.{Bor}
use denote.Param.Members.{Shared}
use Rattle.serde_json.specs.Data.{Data}
use Rattle.serde_json.specs.View.{view}
use Rattle.serde_json.specs.declared.value.Value.{Value}

-- what the value at a place is read as; none where no value stands there
abbrev pub view_at : Option (Bor Value) → Option Data
view_at place = option_map (λ value. view value.now) place

-- the closure answers whether a name is among these
pub record Knows {F : Type 0} (calls : Shared F (Bor (List ℕ) × Unit {0}) Bool) (f : F) (names : List (List ℕ)) : Type 0
  where
    pub answers : (name : List ℕ) (is : Bool) → FnReturnsAt calls f name is → is ≡ list_any (bytes_eq name) names
