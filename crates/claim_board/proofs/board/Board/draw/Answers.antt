use Rattle.std.proofs.Common.{rules, ◌≡◌, ◌∙◌, sym, ap, arith}
use Rattle.claim_board.proofs.Keeps.{draws, found_next}
use Rattle.claim_board.proofs.board.Board.draw.Goals as goal

pub fetch_add-found-requires : goal.fetch_add-found-requires
fetch_add-found-requires c =
    let p = c.pass.invariant in
    let ends = rw c.if-pass.false at p.ends in
    (search rules, search rules, draws _ _ _ _ (omega (arith, p.parts)) (omega (arith, p.parts, ends)))

pub returns-then-found-from-clause-above : goal.returns-then-found-from-clause-above
returns-then-found-from-clause-above c =
    let limit : c.pass.inside.seat.me.0.size.limit ≡ c.self.inside.limit = ap (λ p. p.board.limit) c.pass.view_is ∙ (ap (λ b. b.limit) c.requires ∙ sym (ap (λ b. b.limit) c.self.view_is)) in
    let n = found_next c.pass.inside.seat.me c.fetch_add-found.new.seat.me c.fetch_add-found.result c.fetch_add-found.ensures.2 (omega arith) in
    rw (← ap (λ p. p.draws) c.pass.view_is) n
