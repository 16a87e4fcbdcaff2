use Rattle.std.proofs.lemmas.Result.{on_ok_weaker}
use Rattle.score_director.specs.Rule.{AsksKnown, KnowsClasses}
use Rattle.score_director.proofs.AllLaws.{puts_first}
use Rattle.score_director.proofs.ChainLaws.{all_first, all_rest}
use Rattle.score_director.proofs.all.+foresee_all.Goals as goal

pub foresee-requires-clause-there : goal.foresee-requires-clause-there
foresee-requires-clause-there g t c κs within =
    (all_first (AsksKnown c.args.rules.now.numbers) c.args.nets.now c.in-Some.rest.now c.in-Some.net.now c.in-Some.ensures.cases.0 c.requires.there).nodes

pub foresee_all-requires-clause-there : goal.foresee_all-requires-clause-there
foresee_all-requires-clause-there g t c κs within =
    all_rest (AsksKnown c.args.rules.now.numbers) c.args.nets.now c.in-Some.rest.now c.in-Some.net.now c.in-Some.ensures.cases.0 c.requires.there

pub foresee_all-requires-clause-classes : goal.foresee_all-requires-clause-classes
foresee_all-requires-clause-classes g t c κs within =
    all_rest (KnowsClasses c.args.lefts.now c.args.rights.now) c.args.nets.now c.in-Some.rest.now c.in-Some.net.now c.in-Some.ensures.cases.0 c.requires.classes

pub returns-clause-foresees : goal.returns-clause-foresees
returns-clause-foresees g t c =
    let known = all_first (KnowsClasses c.args.lefts.now c.args.rights.now) c.args.nets.now c.in-Some.rest.now c.in-Some.net.now c.in-Some.ensures.cases.0 c.requires.classes in
    on_ok_weaker c.foresee_all.result
    (puts_first g.B.Book.meaning c.args.heads.now.now c.args.lefts.now c.args.rights.now c.args.nets.now c.in-Some.rest.now c.in-Some.net.now c.index-lefts-net.result c.taking-left.result.now c.in_ok-total.total
    c.args.totals.now.items c.push.new.self.items c.foresee_all.new.totals.items
    c.in-Some.ensures.cases.0 known.head c.index-lefts-net.is c.taking-left.ensures c.in_ok-total.ensures.foresees c.in_ok-push.ensures.items)
    c.foresee_all.ensures.foresees
