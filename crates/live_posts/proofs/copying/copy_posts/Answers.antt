use Rattle.std.proofs.Common.{◌≡◌, ◌∙◌, ◌++◌, ◌∷◌, [], Some, slice_get, take, drop, refl, sym, ap, rules, arith}
use Rattle.change_inbox.specs.Entries.{posts_in}
use Rattle.live_posts.proofs.Looking.{goes_nowhere, goes_then, not_none, range_more_at, same_size, seen_post}
use Rattle.live_posts.proofs.copying.copy_posts.Goals as goal

pub loop-place-init : goal.loop-place-init
loop-place-init g c = record {
  inbox = search rules;
  number = search rules;
  goes = goes_nowhere c.args.seat.now;
  copies = search rules;
  empty = λ none. refl;
}

pub unreachable-requires : goal.unreachable-requires
unreachable-requires g c =
    let before = c.loop-place.invariant in
    let goes = goes_then _ _ _ before.number before.goes c.in_ok-copy.ensures.later in
    let there = seen_post c.args.seat.now.seen c.post_at.new.seat.seen c.loop-place.place goes.later (omega arith) in
    not_none (posts_in c.args.seat.now.seen) c.loop-place.place (omega arith) (sym there ∙ (sym c.in_ok-copy.ensures.post ∙ c.in-None.is))

pub loop-place-preserved : goal.loop-place-preserved
loop-place-preserved g c =
    let before = c.loop-place.invariant in
    let goes = goes_then _ _ _ before.number before.goes c.in_ok-copy.ensures.later in
    let there = seen_post c.args.seat.now.seen c.post_at.new.seat.seen c.loop-place.place goes.later (omega arith) in
    let copy : slice_get (posts_in c.args.seat.now.seen) c.loop-place.place ≡ Some c.in-Some.copy = sym there ∙ (sym c.in_ok-copy.ensures.post ∙ c.in-Some.is) in
    record {
      inbox = c.in_ok-copy.ensures.seat.0;
      number = c.in_ok-copy.ensures.seat.1 ∙ before.number;
      goes = goes;
      copies =
          c.in_ok-push-in-Some.ensures.ok
          ∙ (ap (λ copies. copies ++ c.in-Some.copy ∷ []) before.copies
          ∙ sym (range_more_at (posts_in c.args.seat.now.seen) c.args.from c.loop-place.place c.in-Some.copy (omega arith) copy));
      empty = λ none. absurd (omega arith);
    }

pub returns-clause-copies : goal.returns-clause-copies
returns-clause-copies g c =
    let inv = c.loop-place.invariant in
    let size = same_size c.args.from c.args.to c.loop-place.place (omega arith) (omega arith) (λ le. omega arith) inv.empty in
    inv.copies ∙ ap (λ n. take n (drop c.args.from (posts_in c.args.seat.now.seen))) size
