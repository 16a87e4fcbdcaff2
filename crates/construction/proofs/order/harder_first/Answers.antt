use Rattle.std.proofs.Common.{◌∙◌, ap, map}
use Rattle.construction.specs.declared.order.Rank.{Rank}
use Rattle.construction.proofs.Ranks.{ranks_in_order}
use Rattle.construction.proofs.order.harder_first.Goals as goal

pub returns-clause-order : goal.returns-clause-order
returns-clause-order g c =
    c.in_ok-entities_of.ensures ∙ ap (map (λ (rank : Rank). rank.entity)) c.deref.ensures.value
    ∙ ranks_in_order _ _ _ _ c.in_ok-ranks.ensures.ranks c.sort_ranks.ensures.moved c.sort_ranks.ensures.sorted
