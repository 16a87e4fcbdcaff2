use Rattle.score_director.proofs.Led.{in_range, rooms, turned_for}
use Rattle.score_director.proofs.network.turned.Goals as goal

pub score_now-requires-clause-network : goal.score_now-requires-clause-network
score_now-requires-clause-network g c κs within =
    let rules = c.args.rules.now in
    let plan = c.args.plan.now in
    let range = in_range rules.schema rules.numbers rules.defs rules.harder rules.accepted rules.caps c.args.weights.now plan c.requires.judges.1 in
    let room = rooms rules.schema rules.numbers rules.defs rules.harder rules.accepted in
    turned_for g.B.Book.meaning rules.defs plan c.args.keys.now c.args.net.now c.turn.new.self c.requires.from range room c.turn.ensures.keeps c.turn.ensures.own c.in_ok-turn.ensures.whole c.in_ok-turn.ensures.turns

pub returns-clause-network : goal.returns-clause-network
returns-clause-network g c =
    let rules = c.args.rules.now in
    let plan = c.args.plan.now in
    let range = in_range rules.schema rules.numbers rules.defs rules.harder rules.accepted rules.caps c.args.weights.now plan c.requires.judges.1 in
    let room = rooms rules.schema rules.numbers rules.defs rules.harder rules.accepted in
    turned_for g.B.Book.meaning rules.defs plan c.args.keys.now c.args.net.now c.turn.new.self c.requires.from range room c.turn.ensures.keeps c.turn.ensures.own c.in_ok-turn.ensures.whole c.in_ok-turn.ensures.turns
