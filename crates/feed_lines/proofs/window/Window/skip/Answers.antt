use Rattle.std.proofs.Common.{◌≡◌, ◌∙◌, ◌++◌, [], true, None, Some, length, rules, arith, sym, ap}
use Rattle.std.specs.List.{position}
use Rattle.std.proofs.lemmas.List.{drop_all}
use Rattle.feed_lines.specs.Parts.{is_feed}
use Rattle.feed_lines.specs.Windows.{bytes_ahead}
use Rattle.feed_lines.proofs.Splitting.{end_here, after_here}
use Rattle.feed_lines.proofs.Filling.{later_both, passed_more}
use Rattle.feed_lines.proofs.window.Window.skip.Goals as goal

pub returns-in-Some-clause-skips : goal.returns-in-Some-clause-skips
returns-in-Some-clause-skips g c = λ tells.
    let left = (g.R.Source.state c.skip.src).left in
    let at : position is_feed c.skip.self ≡ Some c.in-Some.n = search rules in
    let end = end_here c.skip.self left c.in-Some.n at in
    let before = c.skip.invariant.end tells in
    record {
      taken = omega (arith, end, before);
      after = ap (λ w. w ++ left) c.pass.ensures ∙ sym (after_here c.skip.self left c.in-Some.n at) ∙ sym (c.skip.invariant.after tells);
    }

pub skip-smaller : goal.skip-smaller
skip-smaller g c = omega (arith, ap length c.rest-all.ensures, c.skip.invariant.some)

pub skip-preserved : goal.skip-preserved
skip-preserved g c =
    let none : position is_feed c.skip.self ≡ None = search rules in
    let fills = c.in_ok-fill.ensures.more in
    let size = ap length c.rest-all.ensures in
    let empty : c.pass-in-skip.new.self ≡ [] = c.pass-in-skip.ensures ∙ drop_all _ c.skip.self (omega (arith, size)) in
    let long = ap length empty in
    let left = (g.R.Source.state c.skip.src).left in
    let parts = λ (tells : (g.R.Source.state c.args.src.now).tells ≡ true).
    passed_more (bytes_ahead c.args.self.now (g.R.Source.state c.args.src.now)) c.skip.self left c.fill.new.self (g.R.Source.state c.fill.new.src).left c.skip.gone none
    (fills.ahead (c.skip.invariant.later.same_tells ∙ tells) ∙ ap (λ w. w ++ left) empty)
    (c.skip.invariant.end tells) (c.skip.invariant.after tells) in
    record {
      some = omega (arith, fills.size);
      end = λ tells. omega (arith, (parts tells).0, size);
      after = λ tells. (parts tells).1;
      later = later_both _ _ _ c.skip.invariant.later c.in_ok-fill.ensures.later;
    }
