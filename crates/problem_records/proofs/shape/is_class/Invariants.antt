use Rattle.std.proofs.Common.{◌≡◌, drop}
use Rattle.std.specs.Str.{bytes_eq}
use Rattle.std.specs.List.{list_any}
use Rattle.problem_records.proofs.shape.is_class.Given as goal

-- the name isn't that of a class before this one
abbrev pub invariant-loop-n : goal.invariant-loop-n
invariant-loop-n l = list_any (λ class. bytes_eq l.name class.name) l.schema ≡ list_any (λ class. bytes_eq l.name class.name) (drop l.n l.schema)
