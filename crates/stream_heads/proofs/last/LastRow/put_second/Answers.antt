use Rattle.std.proofs.Common.{◌≡◌, arith, sym}
use Rattle.stream_heads.specs.Last.{IsOfPair}
use Rattle.stream_heads.proofs.LastLaws.{second_put}
use Rattle.stream_heads.proofs.last.LastRow.put_second.Goals as goal

pub returns-clause-done : goal.returns-clause-done
returns-clause-done c = λ _.
    let heads = c.args.heads.now.now in
    let read : IsOfPair heads c.in-Some.last c.args.self.now.row = rw c.in-Some.is at c.requires in
    let same : c.in-Some.last.first ≡ c.args.pair.first = omega (arith, c.if-last-pair.false) in
    second_put heads c.in-Some.last c.args.pair _ _ _ read same (sym c.in-Some-head.ensures.lent) c.in-Some-head.ensures.one c.in_ok-put_second.ensures.ok

pub returns-clause-read : goal.returns-clause-read
returns-clause-read c =
    let heads = c.args.heads.now.now in
    let read : IsOfPair heads c.in-Some.last c.args.self.now.row = rw c.in-Some.is at c.requires in
    let same : c.in-Some.last.first ≡ c.args.pair.first = omega (arith, c.if-last-pair.false) in
    second_put heads c.in-Some.last c.args.pair _ _ _ read same (sym c.in-Some-head.ensures.lent) c.in-Some-head.ensures.one c.in_ok-put_second.ensures.ok
