use Rattle.std.proofs.Common.{◌≡◌, ◌++◌, take, drop, map}
use Rattle.move_selectors.specs.Pool.{without_links}
use Rattle.move_selectors.proofs.pool.forget_all.Given as goal

-- the classes so far have forgotten their pillars, and the others are as they were
abbrev pub invariant-loop-part : goal.invariant-loop-part
invariant-loop-part l =
    l.part-items ≡ map without_links (take l.part-index l.initial.part-items) ++ drop l.part-index l.initial.part-items
