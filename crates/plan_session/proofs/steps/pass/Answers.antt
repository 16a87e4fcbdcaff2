use Rattle.plan_session.proofs.Stepped.{cut_is_due, passes, ready_next, still_quiet, terms_stay}
use Rattle.plan_session.proofs.steps.pass.Goals as goal

pub cut-requires : goal.cut-requires
cut-requires c = cut_is_due c.args.core.now c.args.step c.requires.ended c.requires.within

pub returns-clause-ready : goal.returns-clause-ready
returns-clause-ready c = ready_next c.args.core.now c.args.step c.requires.ended c.cut.new.core c.in_ok-cut.ensures c.requires.step

pub returns-clause-quiet : goal.returns-clause-quiet
returns-clause-quiet c = still_quiet c.args.core.now c.args.step c.requires.ended c.cut.new.core c.in_ok-cut.ensures

pub returns-clause-terms : goal.returns-clause-terms
returns-clause-terms c = terms_stay c.args.core.now c.args.step c.requires.ended c.cut.new.core c.in_ok-cut.ensures

pub returns-clause-goes_on : goal.returns-clause-goes_on
returns-clause-goes_on c = passes c.args.core.now c.cut.new.core c.args.step c.requires.step c.in_ok-cut.ensures
