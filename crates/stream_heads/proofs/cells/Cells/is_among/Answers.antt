use Rattle.std.proofs.Common.{◌≡◌, false, true, sym, ◌∙◌}
use Rattle.stream_heads.proofs.Among.{among_here, not_among_more}
use Rattle.stream_heads.proofs.cells.Cells.is_among.Goals as goal

false_true : false ≡ true → ⊥
false_true e = cc

pub returns-then-same : goal.returns-then-same
returns-then-same c = sym (among_here c.args.rows.now _ c.row-item.result c.args.self.now c.loop-row-test.true c.row-item.is (c.same.ensures.0 c.if-same.true))

pub loop-row-preserved : goal.loop-row-preserved
loop-row-preserved c =
    not_among_more c.args.rows.now _ c.row-item.result c.args.self.now c.loop-row-test.true c.row-item.is
    (λ is. false_true (sym c.if-same.false ∙ c.same.ensures.1 is)) c.loop-row.invariant
