use Rattle.std.proofs.Common.{◌≤◌, ◌∙◌, length, arith}
use Rattle.score_director.proofs.Led.{fresh_turns, in_range, kept_for, rooms, turned_for}
use Rattle.score_director.proofs.network.network_of.Goals as goal

pub turn-requires-clause-own : goal.turn-requires-clause-own
turn-requires-clause-own g c κs within =
    let rules = c.args.rules.now in
    let plan = c.args.plan.now in
    let le : length plan.classes ≤ c.max.result = omega (arith, c.max.ensures, c.classes-2.ensures.classes) in
    (fresh_turns g.B.Book.meaning rules.defs plan c.in_ok-net.net c.begin.new.self c.max.result c.deref.result.now c.classes-2.ensures.sound le c.in_ok-net.ensures c.begin.ensures (c.deref.ensures.value ∙ c.in_ok-keys.ensures)).own

pub turn-requires-clause-keys : goal.turn-requires-clause-keys
turn-requires-clause-keys g c κs within =
    let rules = c.args.rules.now in
    let plan = c.args.plan.now in
    let le : length plan.classes ≤ c.max.result = omega (arith, c.max.ensures, c.classes-2.ensures.classes) in
    (fresh_turns g.B.Book.meaning rules.defs plan c.in_ok-net.net c.begin.new.self c.max.result c.deref.result.now c.classes-2.ensures.sound le c.in_ok-net.ensures c.begin.ensures (c.deref.ensures.value ∙ c.in_ok-keys.ensures)).known

pub returns-clause-network : goal.returns-clause-network
returns-clause-network g c =
    let m = g.B.Book.meaning in
    let rules = c.args.rules.now in
    let plan = c.args.plan.now in
    let le : length plan.classes ≤ c.max.result = omega (arith, c.max.ensures, c.classes-2.ensures.classes) in
    let has = fresh_turns m rules.defs plan c.in_ok-net.net c.begin.new.self c.max.result c.deref.result.now c.classes-2.ensures.sound le c.in_ok-net.ensures c.begin.ensures (c.deref.ensures.value ∙ c.in_ok-keys.ensures) in
    let range = in_range rules.schema rules.numbers rules.defs rules.harder rules.accepted rules.caps c.args.weights.now plan c.requires.judges.1 in
    let room = rooms rules.schema rules.numbers rules.defs rules.harder rules.accepted in
    kept_for m rules.defs plan c.turn.new.self c.commit.new.self c.commit.ensures
    (turned_for m rules.defs plan c.deref.result.now c.begin.new.self c.turn.new.self has range room c.turn.ensures.keeps c.turn.ensures.own c.in_ok-turn.ensures.whole c.in_ok-turn.ensures.turns)
