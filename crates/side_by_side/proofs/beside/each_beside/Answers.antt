use Rattle.side_by_side.proofs.Laws.{changes_all}
use Rattle.side_by_side.proofs.beside.each_beside.Goals as goal

pub returns-clause-each : goal.returns-clause-each
returns-clause-each g c = changes_all g.F.Fn c.args.f.now c.args.s.now c.each_from.new.s c.each_from.ensures.each
