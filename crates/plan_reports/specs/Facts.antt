-- How lines name facts.
use Rattle.std.specs.Prelude.{ℕ, List, [], ◌++◌, codes, decimal, slice_get}
use Rattle.std.specs.Option.{option_map_or}
use Rattle.plan_facts.specs.declared.record.ClassDef.{ClassDef}

-- the name of a class
abbrev pub class_name : List ClassDef → ℕ → List ℕ
class_name classes class = option_map_or (λ c. c.name) (slice_get classes class) []

-- a fact: its class and id, as in lesson#1
abbrev pub fact_text : List ClassDef → ℕ → ℕ → List ℕ
fact_text classes class id = class_name classes class ++ codes "#" ++ decimal id
