use Rattle.std.proofs.Common.{◌≡◌, arith, sym}
use Rattle.stream_heads.specs.Last.{IsOfPair}
use Rattle.stream_heads.proofs.LastLaws.{first_put}
use Rattle.stream_heads.proofs.last.LastRow.put_first.Goals as goal

pub returns-clause-done : goal.returns-clause-done
returns-clause-done c = λ _.
    let heads = c.args.heads.now.now in
    let read : IsOfPair heads c.in-Some.last c.args.self.now.row = rw c.in-Some.is at c.requires in
    let same : c.in-Some.last.second ≡ c.args.pair.second = omega (arith, c.if-last-pair.false) in
    first_put heads c.in-Some.last c.args.pair _ _ _ read same (sym c.in-Some-head.ensures.lent) c.in-Some-head.ensures.one c.in_ok-put_first.ensures.ok

pub returns-clause-read : goal.returns-clause-read
returns-clause-read c =
    let heads = c.args.heads.now.now in
    let read : IsOfPair heads c.in-Some.last c.args.self.now.row = rw c.in-Some.is at c.requires in
    let same : c.in-Some.last.second ≡ c.args.pair.second = omega (arith, c.if-last-pair.false) in
    first_put heads c.in-Some.last c.args.pair _ _ _ read same (sym c.in-Some-head.ensures.lent) c.in-Some-head.ensures.one c.in_ok-put_first.ensures.ok
