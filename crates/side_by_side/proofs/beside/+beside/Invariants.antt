use Rattle.std.proofs.Common.{◌+◌, ◌*◌, length}
use Rattle.side_by_side.proofs.beside.+beside.Given as goal

abbrev pub decreases-each_from : goal.decreases-each_from
decreases-each_from g l = 3 * length l.s.now

abbrev pub decreases-first_and_rest : goal.decreases-first_and_rest
decreases-first_and_rest g l = 3 * length l.rest.now + 2

abbrev pub decreases-first_and_rest-others : goal.decreases-first_and_rest-others
decreases-first_and_rest-others g l = 3 * length l.rest.now + 1
