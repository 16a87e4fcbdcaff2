use Rattle.std.proofs.Common.{◌≡◌, ◌++◌, take, map, filter}
use Rattle.plan_moves.specs.Entities.{is_movable, touch_of}
use Rattle.move_selectors.proofs.pool.push_movable.Given as goal

-- the movable ones so far were appended
abbrev pub invariant-loop-raw : goal.invariant-loop-raw
invariant-loop-raw l =
    l.entities ≡ l.initial.entities ++ map (touch_of l.class) (filter is_movable (take l.raw-index l.facts))
