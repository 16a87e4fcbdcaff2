use Rattle.std.proofs.Common.{◌≡◌, ◌∙◌, ◌+◌, ◌<◌, ◌≤◌, ◌++◌, true, nat_lt, length, arith, sym, ap}
use Rattle.std.proofs.lemmas.Bool.{ltb-true}
use Rattle.feed_lines.specs.Given.{given_line}
use Rattle.feed_lines.specs.Limits.{most_lines, most_bytes}
use Rattle.feed_lines.specs.Parts.{first_line, after_line, line_end}
use Rattle.feed_lines.specs.Reading.{LinesView}
use Rattle.feed_lines.specs.Windows.{bytes_ahead}
use Rattle.feed_lines.proofs.Advancing.{over_count, gives_line}
use Rattle.feed_lines.proofs.lines.Lines.advance.Goals as goal

pub returns-then-branch-clause-overrun : goal.returns-then-branch-clause-overrun
returns-then-branch-clause-overrun g c = λ _ tells.
    let source = g.R.Source.state c.args.src.now in
    let held : c.pass.new.self ≡ c.args.self.now.held = c.pass.ensures ∙ ap (λ (v : LinesView). v.held) c.self.view_is in
    let count = ap (λ (v : LinesView). v.count) c.self.view_is in
    let full : c.args.self.now.count ≡ most_lines = omega (arith, count) in
    let more : nat_lt 0 (length (bytes_ahead c.pass.new.self source)) ≡ true = sym (c.in_ok-has_more.ensures.more tells) ∙ c.if-branch.true in
    let same = ap (λ h. length (bytes_ahead h source)) held in
    let some : 0 < length (bytes_ahead c.args.self.now.held source) = omega (arith, ltb-true _ _ more, same) in
    over_count _ full some

pub returns-clause-next : goal.returns-clause-next
returns-clause-next g c = λ tells.
    let left = (g.R.Source.state c.args.src.now).left in
    let held : c.pass.new.self ≡ c.args.self.now.held = c.pass.ensures ∙ ap (λ (v : LinesView). v.held) c.self.view_is in
    let count = ap (λ (v : LinesView). v.count) c.self.view_is in
    let passed = ap (λ (v : LinesView). v.passed) c.self.view_is in
    let finds = c.in_ok-found.ensures.finds tells in
    let few : c.args.self.now.count < most_lines = omega (arith, count, c.self.invariant.1) in
    let short : c.args.self.now.passed + c.in_ok-found.found.taken ≤ most_bytes = omega (arith, passed, c.self.invariant.2) in
    let some : 0 < c.in_ok-found.found.taken = omega arith in
    gives_line _ _ _ c.in_ok-found.found.taken few short some
    (finds.taken ∙ ap (λ h. line_end (h ++ left)) held)
    (finds.line ∙ ap (λ h. given_line (first_line (h ++ left))) held)
    (finds.after ∙ ap (λ h. after_line (h ++ left)) held)
    (ap (λ n. n + 1) count)
    (ap (λ n. n + c.in_ok-found.found.taken) passed)
