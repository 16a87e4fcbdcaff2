use Rattle.std.proofs.Common.{◌<◌, ◌^◌, arith}
use Rattle.tuple_store.proofs.WordLaws.{from_bit, none_from_bit, first_from_bit, least_from_bit}
use Rattle.tuple_store.proofs.word.first_from.Goals as goal

pub returns-then-high-eq0-clause-none : goal.returns-then-high-eq0-clause-none
returns-then-high-eq0-clause-none c = none_from_bit c.args.word c.args.from c.requires c.if-high-eq0.true

pub returns-clause-some : goal.returns-clause-some
returns-clause-some c =
    let fits : c.args.word < 2 ^ 64 = omega arith in
    let some : 0 < from_bit c.args.word c.args.from = omega arith in
    first_from_bit c.args.word c.args.from c.requires fits some

pub returns-clause-least : goal.returns-clause-least
returns-clause-least c =
    let fits : c.args.word < 2 ^ 64 = omega arith in
    let some : 0 < from_bit c.args.word c.args.from = omega arith in
    least_from_bit c.args.word c.args.from c.requires fits some
