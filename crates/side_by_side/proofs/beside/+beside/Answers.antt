use Rattle.std.proofs.Common.{rules, subst}
use Rattle.std.specs.Fork.{ChangesAt}
use Rattle.side_by_side.proofs.Laws.{accepts_first, accepts_rest, changes_both, changes_none}
use Rattle.side_by_side.proofs.beside.+beside.Goals as goal

pub each_from-first_and_rest-requires-clause-first : goal.each_from-first_and_rest-requires-clause-first
each_from-first_and_rest-requires-clause-first g t c κs within =
    accepts_first g.F.Fn c.args.f.now c.args.place _ _ _ c.in-Some.ensures.cases.0 c.requires.each

pub each_from-first_and_rest-requires-clause-rest : goal.each_from-first_and_rest-requires-clause-rest
each_from-first_and_rest-requires-clause-rest g t c κs within =
    accepts_rest g.F.Fn c.args.f.now c.args.place _ _ _ c.in-Some.ensures.cases.0 c.requires.each

pub each_from-returns-in-Some-clause-each : goal.each_from-returns-in-Some-clause-each
each_from-returns-in-Some-clause-each g t c =
    changes_both g.F.Fn c.args.f.now c.args.place _ _ _ _ _ c.in-Some.ensures.cases.0
    c.first_and_rest.ensures.first c.first_and_rest.ensures.rest

pub each_from-returns-in-None-clause-each : goal.each_from-returns-in-None-clause-each
each_from-returns-in-None-clause-each g t c =
    changes_none g.F.Fn c.args.f.now c.args.place c.args.s.now (search rules)

pub first_and_rest-returns-clause-first : goal.first_and_rest-returns-clause-first
first_and_rest-returns-clause-first g t c =
    subst (ChangesAt g.F.Fn c.args.f.now c.args.place c.args.first.now) (search rules) c.join_mut.ensures.0.met.1
