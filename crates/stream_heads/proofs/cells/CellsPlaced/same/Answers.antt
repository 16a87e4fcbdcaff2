use Rattle.std.proofs.Common.{◌∙◌, sym}
use Rattle.std.specs.Cmp.{unsigned_Decides}
use Rattle.stream_heads.proofs.CellLaws.{held_tell, many_tell}
use Rattle.stream_heads.proofs.cells.CellsPlaced.same.Goals as goal

pub returns-then-self-other : goal.returns-then-self-other
returns-then-self-other c =
    let tells = held_tell _ _ _ _ c.self.invariant c.other.invariant c.if-self-other.true in (
      λ is. sym c.self.view_is ∙ tells.0 (sym c.same_four.ensures ∙ is) ∙ c.other.view_is,
      λ same. c.same_four.ensures ∙ tells.1 (c.self.view_is ∙ same ∙ sym c.other.view_is),
    )

pub returns-else-self-other : goal.returns-else-self-other
returns-else-self-other c =
    let apart = c.if-self-other.false in (
      λ is. absurd (apart ((unsigned_Decides c.self.inside.len c.other.inside.len).0 is)),
      λ same. absurd (apart (many_tell _ _ _ _ c.self.invariant c.other.invariant (c.self.view_is ∙ same ∙ sym c.other.view_is))),
    )
