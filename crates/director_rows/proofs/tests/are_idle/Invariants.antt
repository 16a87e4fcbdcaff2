use Rattle.std.proofs.Common.{◌≡◌}
use Rattle.director_rows.proofs.tests.are_idle.Given as goal

-- judging changes nothing
abbrev pub invariant-loop-set : goal.invariant-loop-set
invariant-loop-set g l = l.director ≡ l.initial.director
