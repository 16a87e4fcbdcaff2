use Rattle.std.proofs.Common.{◌≡◌, ◌∙◌, length, take, arith, sym, ap}
use Rattle.std.specs.List.{position}
use Rattle.feed_lines.specs.Parts.{is_feed}
use Rattle.feed_lines.proofs.Firsts.{found_from, none_from}
use Rattle.feed_lines.proofs.Filling.{later_both, same_at_end, found_in_slice}
use Rattle.feed_lines.proofs.window.Window.seek.Goals as goal

pub returns-in-Some-clause-end : goal.returns-in-Some-clause-end
returns-in-Some-clause-end g c =
    let at = found_in_slice _ _ c.seek.seen _ c.rest-in-seek.ensures c.in-Some.ensures in
    found_from is_feed c.seek.self c.seek.seen c.in-Some.n c.seek.invariant.seen c.seek.invariant.none at

pub returns-then-branch-eq0-clause-end : goal.returns-then-branch-eq0-clause-end
returns-then-branch-eq0-clause-end g c =
    let none = found_in_slice _ _ c.seek.seen _ c.rest-in-seek.ensures c.line_feed.ensures ∙ c.in_default.is in
    let fills = c.in_ok-fill.ensures.more in
    let zero : c.in_ok-fill.field-0 ≡ 0 = omega arith in
    let same = same_at_end c.seek.self c.fill.new.self c.in_ok-fill.field-0 zero fills.size fills.front in (
      ap (position is_feed) same ∙ none_from is_feed c.seek.self c.seek.seen c.seek.invariant.seen c.seek.invariant.none none,
      λ tells. fills.end zero (sym c.in_ok-fill.ensures.later.same_tells ∙ tells),
    )

pub seek-preserved : goal.seek-preserved
seek-preserved g c =
    let none = found_in_slice _ _ c.seek.seen _ c.rest-in-seek.ensures c.line_feed.ensures ∙ c.in_default.is in
    let fills = c.in_ok-fill.ensures.more in
    let size = ap length c.rest-seen.ensures in
    record {
      seen = omega (arith, size, fills.size);
      none =
          ap (λ k. position is_feed (take k c.fill.new.self)) size ∙ ap (position is_feed) fills.front
          ∙ none_from is_feed c.seek.self c.seek.seen c.seek.invariant.seen c.seek.invariant.none none;
      ahead = λ tells. fills.ahead (c.seek.invariant.later.same_tells ∙ tells) ∙ c.seek.invariant.ahead tells;
      later = later_both _ _ _ c.seek.invariant.later c.in_ok-fill.ensures.later;
    }

pub returns-in-Some-line_feed-clause-end : goal.returns-in-Some-line_feed-clause-end
returns-in-Some-line_feed-clause-end g c =
    let at = found_in_slice _ _ c.seek.seen _ c.rest-2.ensures c.in-Some-line_feed.ensures in
    found_from is_feed c.seek.self c.seek.seen c.in-Some-line_feed.n c.seek.invariant.seen c.seek.invariant.none at

pub returns-in-None-clause-end : goal.returns-in-None-clause-end
returns-in-None-clause-end g c =
    let none = found_in_slice _ _ c.seek.seen _ c.rest-2.ensures c.in-None.ensures in
    (none_from is_feed c.seek.self c.seek.seen c.seek.invariant.seen c.seek.invariant.none none, omega (arith, ap length c.rest.ensures))
