use Rattle.std.proofs.Common.{refl}
use Rattle.plan_session.proofs.DueLaws.{held_more}
use Rattle.plan_session.proofs.outside.fetch.Goals as goal

pub returns-clause-too_long : goal.returns-clause-too_long
returns-clause-too_long g c =
    let shelf = g.S.Shelf.state c.args.shelf.now in
    λ long. held_more shelf c.args.name.now c.args.limit shelf.tells refl
    (λ told. let more = c.read_all-read.ensures.too_long long (c.in-Ok.ensures.opens.tells told) in
    (_, c.in-Ok.ensures.opens.holds told, more))
