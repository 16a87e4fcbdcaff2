use Rattle.std.proofs.lemmas.Result.{on_ok_weaker}
use Rattle.score_director.specs.Rule.{AsksKnown, KnowsClasses}
use Rattle.score_director.proofs.AllLaws.{finds_from}
use Rattle.score_director.proofs.ChainLaws.{all_first, all_rest}
use Rattle.score_director.proofs.all.+look_at_all.Goals as goal

pub ahead-requires-clause-there : goal.ahead-requires-clause-there
ahead-requires-clause-there g t c κs within =
    (all_first (AsksKnown c.args.rules.now.numbers) c.args.nets.now c.in-Some.rest.now c.in-Some.net.now c.in-Some.ensures.cases.0 c.requires.there).nodes

pub look_at_all-requires-clause-there : goal.look_at_all-requires-clause-there
look_at_all-requires-clause-there g t c κs within =
    all_rest (AsksKnown c.args.rules.now.numbers) c.args.nets.now c.in-Some.rest.now c.in-Some.net.now c.in-Some.ensures.cases.0 c.requires.there

pub look_at_all-requires-clause-classes : goal.look_at_all-requires-clause-classes
look_at_all-requires-clause-classes g t c κs within =
    all_rest (KnowsClasses c.args.lefts.now c.args.rights.now) c.args.nets.now c.in-Some.rest.now c.in-Some.net.now c.in-Some.ensures.cases.0 c.requires.classes

pub returns-clause-finds : goal.returns-clause-finds
returns-clause-finds g t c =
    let known = all_first (KnowsClasses c.args.lefts.now c.args.rights.now) c.args.nets.now c.in-Some.rest.now c.in-Some.net.now c.in-Some.ensures.cases.0 c.requires.classes in
    on_ok_weaker c.look_at_all.result
    (λ others. finds_from g.B.Book.meaning c.args.heads.now.now c.args.lefts.now c.args.rights.now c.args.nets.now c.in-Some.rest.now c.in-Some.net.now c.index-lefts-net.result c.taking-left.result.now c.ahead.new.found c.look_at_all.new.found
    c.in-Some.ensures.cases.0 known.head c.index-lefts-net.is c.taking-left.ensures c.in_ok-ahead.ensures.finds others)
    c.look_at_all.ensures.finds
