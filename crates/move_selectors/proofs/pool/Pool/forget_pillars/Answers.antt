use Rattle.std.proofs.Common.{◌∙◌, List, map, ap}
use Rattle.move_selectors.specs.Pool.{ClassPoolView, PoolView, without_links}
use Rattle.move_selectors.proofs.PoolLaws.{pool-follows}
use Rattle.move_selectors.proofs.pool.Pool.forget_pillars.Goals as goal

pub returns : goal.returns
returns c =
    pool-follows c.args.self.now (record { entities = c.self.inside.entities; classes = c.forget_all.new.classes.items })
    (ap (λ (classes : List ClassPoolView). record { entities = c.self.inside.entities; classes = classes }) c.forget_all.ensures
    ∙ ap (λ (pool : PoolView). record pool { classes = map without_links pool.classes }) c.self.view_is)
