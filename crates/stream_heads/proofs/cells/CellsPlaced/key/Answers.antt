use Rattle.std.proofs.Common.{◌∙◌, rules, w64}
use Rattle.std.proofs.lemmas.Int.{to_z-of_z}
use mir.Val.{SFits}
use Rattle.stream_heads.proofs.RowNumbers.{row_of_four}
use Rattle.stream_heads.proofs.cells.CellsPlaced.key.Goals as goal

pub returns-in-len4-clause-value : goal.returns-in-len4-clause-value
returns-in-len4-clause-value c =
    let first : SFits w64 c.number-in-len4.result = search rules in
    let second : SFits w64 c.number-in-len4-2.result = search rules in
    let third : SFits w64 c.number-in-len4-3.result = search rules in
    let fourth : SFits w64 c.number-in-len4-4.result = search rules in
    row_of_four c.cells.result.now _ _ _ _ _ _ _ c.in-len4.len_at_least c.in-len4.len_below
    (to_z-of_z w64 _ first ∙ c.number-in-len4.ensures)
    (to_z-of_z w64 _ second ∙ c.number-in-len4-2.ensures)
    (to_z-of_z w64 _ third ∙ c.number-in-len4-3.ensures)
    (to_z-of_z w64 _ fourth ∙ c.number-in-len4-4.ensures)
    c.of-in-len4.ensures c.cells.ensures.cells
