use Rattle.foragers.specs.Forage.{limits_of}
use Rattle.foragers.proofs.Looks.{sees_no_more, sees_one}
use Rattle.foragers.proofs.forager.Forager.see.Goals as goal

pub returns-then-self : goal.returns-then-self
returns-then-self c = λ entries knows.
    let a = c.args in
    sees_no_more (limits_of a.limit a.early a.best.now a.last.now) entries a.entry a.self.now knows c.if-self.true

pub returns : goal.returns
returns c = λ entries knows.
    let a = c.args in
    sees_one (limits_of a.limit a.early a.best.now a.last.now) entries a.entry a.self.now knows
    c.counted-accepted.result c.is_full-is_full.result c.is_picked_early.result c.better.result
    c.ranges.limit.fits c.if-self.false c.counted-accepted.ensures c.is_full-is_full.ensures c.is_picked_early.ensures c.better.ensures
