-- What stands under the names of files.
use Rattle.std.specs.Prelude.{◌≡◌, ◌<◌, ◌-◌, ◌^◌, ℕ, Bool, true, false, List, bytes_eq, codes}
use Rattle.plan_ports.specs.Edge.{OpenFiles}
use Rattle.plan_ports.specs.declared.system.Stream.{Stream}
use Rattle.plan_ports.specs.declared.system.Stream.TheVariants.{File, Input}

-- the name of standard input
abbrev pub is_input_name : List ℕ → Bool
is_input_name name = bytes_eq name (codes "@")

-- it is standard input, and no file
abbrev pub is_input : {F I : Type 0} → Stream F I → Bool
is_input (File file) = false
is_input (Input input) = true

-- the name of standard input, where the count of lent files can rise
abbrev pub IsOpenInput : List ℕ → OpenFiles → Type 0
IsOpenInput name shelf = (is_input_name name ≡ true) × (shelf.lent < 2 ^ 64 - 1)
