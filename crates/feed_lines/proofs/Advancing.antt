-- A feed that is read on, by one line.
use Rattle.std.proofs.Common.{◌≡◌, ◌∙◌, ℕ, ◌+◌, ◌<◌, ◌≤◌, ◌||◌, true, ltb, List, ◌∷◌, length, Option, sym, ap, arith}
use Rattle.std.proofs.lemmas.Bool.{lt-ltb, le-ltb, eq-eqb, ne_eqb, and_from, and_right, or_left, or_from}
use Rattle.feed_lines.specs.Given.{given_line}
use Rattle.feed_lines.specs.Limits.{most_lines, most_bytes}
use Rattle.feed_lines.specs.Parts.{lines_in, first_line, after_line, line_end}
use Rattle.feed_lines.specs.Reading.{Ahead, IsAdvance, IsOver}
use Rattle.feed_lines.proofs.Splitting.{lines_in-first, length-after}

some_lines : (bytes : List ℕ) → 0 < length bytes → 0 < length (lines_in bytes)
some_lines bytes some = omega (arith, ap length (lines_in-first bytes some))

-- a byte behind the last line that a feed may have is over the limits
pub over_count : (ahead : Ahead) → ahead.count ≡ most_lines → 0 < length ahead.bytes → IsOver ahead
over_count ahead full some = record {
  next = and_from _ _ (lt-ltb 0 (length ahead.bytes) some) (or_left _ _ (eq-eqb ahead.count most_lines full));
  overlong = or_left _ _ (lt-ltb most_lines (ahead.count + length (lines_in ahead.bytes)) (omega (arith, full, some_lines ahead.bytes some)));
}

-- a line within the limits is ahead, and is given
pub gives_line : (line : Option (List ℕ)) (old new : Ahead) (taken : ℕ) → old.count < most_lines → old.passed + taken ≤ most_bytes → 0 < taken
    → taken ≡ line_end old.bytes → line ≡ given_line (first_line old.bytes) → new.bytes ≡ after_line old.bytes → new.count ≡ old.count + 1 → new.passed ≡ old.passed + taken
    → IsAdvance true line old new
gives_line line old new taken few short some taken_is shown after count passed =
    let bytes : 0 < length old.bytes = omega arith in
    let lines : lines_in old.bytes ≡ first_line old.bytes ∷ lines_in new.bytes = lines_in-first old.bytes bytes ∙ ap (λ b. first_line old.bytes ∷ lines_in b) (sym after) in
    let rest : length new.bytes ≡ length (after_line old.bytes) = ap length after in
    let all = length-after old.bytes in
    let whole : new.passed + length new.bytes ≡ old.passed + length old.bytes = omega (arith, all, rest, passed, taken_is) in
    let many : new.count + length (lines_in new.bytes) ≡ old.count + length (lines_in old.bytes) = omega (arith, ap length lines, count) in
    record {
      within = and_right _ _ (or_from _ _ (ne_eqb old.count most_lines (λ e. omega (arith, e, few))) (le-ltb most_bytes (old.passed + line_end old.bytes) (omega (arith, short, taken_is))));
      gives = λ _. record {
        shown = shown;
        lines = lines;
        count = count;
        bytes = whole;
        overlong = ap (λ k. ltb most_lines k || ltb most_bytes (new.passed + length new.bytes)) many ∙ ap (λ k. ltb most_lines (old.count + length (lines_in old.bytes)) || ltb most_bytes k) whole;
      };
      end = λ e. cc;
    }
