-- What a call refuses with.
use Rattle.std.specs.Prelude.{◌≡◌, ◌⊎◌, Option, Some}

-- a refusal is want of memory, or the fault that was found
abbrev pub IsRefusal : {F : Type 0} → F → Option F → F → Type 0
IsRefusal memory found fault = (fault ≡ memory) ⊎ (found ≡ Some fault)
