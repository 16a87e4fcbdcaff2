use Rattle.search_core.proofs.GoesOn.{goes-on, stays}
use Rattle.search_core.proofs.machine.Core.on.Goals as goal

pub returns-clause-ok : goal.returns-clause-ok
returns-clause-ok c =
    goes-on c.args.self.now c.answer.new.self c.args.event c.answer.result c.answer.ensures.answers c.answer.ensures.terms

pub returns-clause-err : goal.returns-clause-err
returns-clause-err c =
    stays c.args.self.now c.answer.new.self c.args.event c.answer.result c.answer.ensures.answers c.answer.ensures.terms
