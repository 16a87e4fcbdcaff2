-- A window that is filled from a source.
use Rattle.std.proofs.Common.{◌≡◌, ◌∙◌, ℕ, ◌+◌, ◌-◌, ◌<◌, cond, ltb, List, ◌++◌, length, take, drop, Option, Some, None, sym, ap, arith}
use Rattle.std.specs.List.{position}
use Rattle.std.proofs.lemmas.Bool.{lt-ltb}
use Rattle.std.proofs.lemmas.List.{take_all, take_rest, length-take-le}
use Rattle.plan_ports.specs.Outside.{LaterSource, SourceState}
use Rattle.feed_lines.specs.Given.{given_line}
use Rattle.feed_lines.specs.Limits.{longest_line}
use Rattle.feed_lines.specs.Parts.{is_feed, first_line, after_line, line_end}
use Rattle.feed_lines.proofs.Firsts.{place_of_some}
use Rattle.feed_lines.proofs.Splitting.{first_here, end_here, after_here, first_long, end_later, after_later}

-- what holds of a source after two calls, one after the other
pub later_both : (a b c : SourceState) → LaterSource a b → LaterSource b c → LaterSource a c
later_both a b c first second = record {
  same_tells = second.same_tells ∙ first.same_tells;
  same_sound = second.same_sound ∙ first.same_sound;
  later = omega (arith, first.later, second.later);
  quiet = λ sound. second.quiet (first.same_sound ∙ sound) ∙ first.quiet sound;
}

-- the end of a source adds nothing
pub same_at_end : (old new : List ℕ) (n : ℕ) → n ≡ 0 → length new ≡ length old + n → take (length old) new ≡ old → new ≡ old
same_at_end old new n zero size front = sym (take_all (length old) new (omega arith)) ∙ front

-- a line that ends in the window is found
pub found_here : (window left ahead : List ℕ) (n : ℕ) → window ++ left ≡ ahead → position is_feed window ≡ Some n
    → (n + 1 ≡ line_end ahead) × (cond (ltb longest_line n) None (Some (take n window)) ≡ given_line (first_line ahead)) × (drop (n + 1) window ++ left ≡ after_line ahead)
found_here window left ahead n is at =
    let within = (place_of_some is_feed window n at).1 in
    let line : take n window ≡ first_line ahead = sym (first_here window left n at) ∙ ap first_line is in
    let size : n ≡ length (first_line ahead) = sym (length-take-le n window (omega (arith, within))) ∙ ap length line in (
      sym (end_here window left n at) ∙ ap line_end is,
      ap (λ k. cond (ltb longest_line k) None (Some (take n window))) size ∙ ap (λ l. cond (ltb longest_line (length (first_line ahead))) None (Some l)) line,
      sym (after_here window left n at) ∙ ap after_line is,
    )

-- a line that goes on behind a long window is too long
pub found_far : (window left ahead : List ℕ) → window ++ left ≡ ahead → longest_line < length window → position is_feed window ≡ None → None ≡ given_line (first_line ahead)
found_far window left ahead is long none =
    let size = first_long window left none in
    let same : length (first_line (window ++ left)) ≡ length (first_line ahead) = ap (λ l. length (first_line l)) is in
    let past : longest_line < length (first_line ahead) = omega (arith, size, same, long) in
    ap (λ b. cond b None (Some (first_line ahead))) (sym (lt-ltb longest_line (length (first_line ahead)) past))

-- a window without a line feed is passed, and what comes next is read
pub passed_more : (before window left rest new_left : List ℕ) (gone : ℕ) → position is_feed window ≡ None → rest ++ new_left ≡ left
    → line_end before ≡ gone + line_end (window ++ left) → after_line before ≡ after_line (window ++ left)
    → (line_end before ≡ gone + length window + line_end (rest ++ new_left)) × (after_line before ≡ after_line (rest ++ new_left))
passed_more before window left rest new_left gone none is end after =
    let longer = end_later window left none in
    let same : line_end left ≡ line_end (rest ++ new_left) = ap line_end (sym is) in
    (omega (arith, end, longer, same), after ∙ after_later window left none ∙ ap after_line (sym is))

-- what is found in the bytes from a place on
pub found_in_slice : (whole window : List ℕ) (seen : ℕ) (o : Option ℕ) → whole ≡ window → o ≡ position is_feed (take (length whole - seen) (drop seen whole)) → position is_feed (drop seen window) ≡ o
found_in_slice whole window seen o same found =
    ap (λ w. position is_feed (drop seen w)) (sym same) ∙ ap (position is_feed) (sym (take_rest whole seen)) ∙ sym found
