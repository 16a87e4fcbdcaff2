use Rattle.std.proofs.Common.{rules, ◌≡◌, ℕ, ◌∙◌, sym, arith, ap, [], ◌∷◌, length, length-append, min, refl, cond}
use Rattle.claim_board.specs.Boards.{times, all_draws}
use Rattle.claim_board.proofs.Draws.{times-append}
use Rattle.claim_board.proofs.Keeps.{joins}
use Rattle.claim_board.proofs.Gathers.{ends_of, times-snoc, ends-snoc, no_draws, no_ends, some_ends, front_of_all, last_of_all, last_count}
use Rattle.claim_board.proofs.board.Board.close.Goals as goal

pub unreachable-requires : goal.unreachable-requires
unreachable-requires c =
    let none = ap length c.in_default.ensures.none in
    let some = c.self.invariant.3 in
    let seats = ap (λ b. b.seats) c.self.view_is in
    omega arith

pub loop-pass-init : goal.loop-pass-init
loop-pass-init c =
    let items = c.in-Some.ensures.last in
    let first = c.in-Some.first in
    let all = rw items at c.requires.1 in
    let board = (last_of_all (λ p. p.board ≡ c.args.self) _ _ all) in
    let one = c.first.invariant.parts in
    let ends = c.first.invariant.ends in
    record {
      table = ap (λ p. p.board.table) c.first.view_is ∙ (ap (λ b. b.table) board ∙ sym (ap (λ b. b.table) c.self.view_is));
      same = refl;
      some = omega arith;
      parts = (let a = ap length items in omega (arith, c.requires.0, length-append c.pop.new.self (first ∷ [])));
      draws = (λ x. let e = ap (λ l. times x (all_draws l)) items in let f = ap (λ p. times x p.draws) c.first.view_is in omega (arith, times-snoc x c.pop.new.self first));
      ends = (let e = ap ends_of items in let f = ap {B = ℕ} (λ p. cond p.is_done 1 0) c.first.view_is in omega (arith, ends-snoc c.pop.new.self first));
      passes = front_of_all (λ p. p.board ≡ c.args.self) _ _ all;
    }

pub join_seat-requires : goal.join_seat-requires
join_seat-requires c =
    let all = rw c.in-Some-pop.ensures.last at c.loop-pass.invariant.passes in
    let board = last_of_all (λ p. p.board ≡ c.args.self) _ _ all in
    (search rules, ap (λ p. p.board.table) c.pass.view_is ∙ (ap (λ b. b.table) board ∙ sym (ap (λ b. b.table) c.self.view_is)), search rules, search rules, joins _ _ _ _ _ c.loop-pass.invariant.some)

pub loop-pass-preserved : goal.loop-pass-preserved
loop-pass-preserved c =
    let items = c.in-Some-pop.ensures.last in
    let pass = c.in-Some-pop.pass in
    let inv = c.loop-pass.invariant in
    let all = rw items at inv.passes in
    let one = c.pass.invariant.parts in
    let ends = c.pass.invariant.ends in
    let some = inv.some in
    let me = c.join_seat.ensures.2 in
    let left = c.pop-in-loop-pass.new.self in
    let mine = c.loop-pass.seat.me.0 in
    record {
      table = search rules;
      same = search rules;
      some = rw me (omega arith);
      parts = rw me (let a = inv.parts in let b = ap length items in omega (arith, length-append left (pass ∷ [])));
      draws = rw me (λ x. let e = ap (λ l. times x (all_draws l)) items in let f = ap (λ p. times x p.draws) c.pass.view_is in let d = inv.draws x in
          omega (arith, times-snoc x left pass, times-append x mine.draws c.pass.inside.seat.me.0.draws));
      ends = rw me (let e = ap ends_of items in let f = ap {B = ℕ} (λ p. cond p.is_done 1 0) c.pass.view_is in let d = inv.ends in omega (arith, ends-snoc left pass));
      passes = front_of_all (λ p. p.board ≡ c.args.self) _ _ all;
    }

pub returns-clause-once : goal.returns-clause-once
returns-clause-once c = λ x.
    let inv = c.loop-pass.invariant in
    let empty = ap length c.in_default-pop.ensures.none in
    let none = no_draws x c.loop-pass.passes empty in
    let d = inv.draws x in
    let size = c.self.inside.table.shared.key in
    let seats = ap (λ b. b.seats) c.self.view_is in
    let t = (last_count size c.loop-pass.seat.id c.word-count.result c.loop-pass.seat.me.0 _ _ c.close_with-closed.ensures.values.2 c.word-count.ensures (omega (arith, inv.parts))).0 x in
    let limit : c.min.result ≡ min c.word-count.result size.limit = rw (c.min.ensures, c.from.ensures, c.self.invariant.2) refl in
    rw limit (omega arith)

pub returns-clause-full : goal.returns-clause-full
returns-clause-full c = λ any.
    let inv = c.loop-pass.invariant in
    let empty = ap length c.in_default-pop.ensures.none in
    let none = no_ends c.loop-pass.passes empty in
    let some = some_ends c.args.passes any in
    let size = c.self.inside.table.shared.key in
    let seats = ap (λ b. b.seats) c.self.view_is in
    let limit = ap (λ b. b.limit) c.self.view_is in
    let t = (last_count size c.loop-pass.seat.id c.word-count.result c.loop-pass.seat.me.0 _ _ c.close_with-closed.ensures.values.2 c.word-count.ensures (omega (arith, inv.parts))).1 (omega (arith, inv.ends)) in
    omega (arith, c.min.ensures, c.from.ensures, c.self.invariant.2)
