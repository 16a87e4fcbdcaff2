use Rattle.std.proofs.Common.{◌≡◌, map, take}
use Rattle.construction.specs.declared.order.Rank.{Rank}
use Rattle.construction.proofs.order.entities_of.Given as goal

-- the entities so far
abbrev pub invariant-loop-rank : goal.invariant-loop-rank
invariant-loop-rank l = l.entities ≡ map (λ (rank : Rank). rank.entity) (take l.rank-index l.ranks)
