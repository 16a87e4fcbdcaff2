use Rattle.std.proofs.Common.{◌≡◌, take, map}
use Rattle.problem_records.specs.Shapes.{path_of}
use Rattle.problem_records.proofs.path.path_of.Given as goal

-- the path of the parts so far
abbrev pub invariant-loop-part : goal.invariant-loop-part
invariant-loop-part l = l.path.items ≡ path_of (map (λ p. p.now) (take l.part-index l.parts))
