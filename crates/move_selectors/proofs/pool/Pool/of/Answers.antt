use Rattle.std.proofs.Common.{length, ap, arith}
use Rattle.move_selectors.specs.Pool.{IsPoolOf}
use Rattle.move_selectors.proofs.Bounds.{few_movable}
use Rattle.move_selectors.proofs.PoolLaws.{pool-whole, few_classes}
use Rattle.move_selectors.proofs.pool.Pool.of.Goals as goal

-- the pool of all classes
whole : (c : goal.After-loop-class) → IsPoolOf c.args.plan.now (record { entities = c.loop-class.entities; classes = c.loop-class.classes.items })
whole c =
    let count = c.classes-class-end.ensures.classes in
    pool-whole c.args.plan.now c.loop-class.class c.loop-class.entities c.loop-class.classes.items (omega arith) c.loop-class.invariant

pub invariant_of-result : goal.invariant_of-result
invariant_of-result c =
    let entities = ap length (whole c).entities in
    let few = few_movable c.args.plan.now c.classes-class-end.ensures.sound in
    let classes = few_classes c.args.plan.now c.loop-class.class c.loop-class.entities c.loop-class.classes.items c.loop-class.invariant in
    let count = c.classes-class-end.ensures.classes in
    let most = c.classes-class-end.ensures.sound.few_classes in
    (omega arith, omega arith)

pub returns : goal.returns
returns c = whole c
