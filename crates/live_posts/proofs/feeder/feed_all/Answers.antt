use Rattle.std.proofs.Common.{◌≡◌, ◌∙◌, ◌≤◌, ◌+◌, ◌++◌, ◌∷◌, [], false, List, Option, Err, length, map, append-nil, is_none, sym, ap, refl, subst, arith}
use Rattle.std.specs.Prelude.{All, IfSome}
use Rattle.std.specs.List.{range_with_len}
use Rattle.std.proofs.lemmas.List.{length_push}
use Rattle.std.proofs.lemmas.List.Elements.{All-nil, All-push}
use Rattle.plan_changes.specs.declared.line.Post.{Post}
use Rattle.feed_lines.specs.Limits.{most_lines}
use Rattle.feed_lines.specs.Reading.{is_overlong}
use Rattle.change_inbox.specs.Entries.{posts_in}
use Rattle.change_inbox.specs.Seats.{own_of}
use Rattle.change_feed.specs.Feeds.{FeedView, IsLine, Posts, bodies_ahead, feed_ahead, is_stop}
use Rattle.live_posts.specs.Feeding.{entries_of, posts_of, stops_behind}
use Rattle.live_posts.specs.declared.fed.Fed.TheVariants.{Ended}
use Rattle.live_posts.proofs.Causes.{not_ended, overrun_fault, read_fault, refused_not_ended, refused_not_stopped, rose_later, stopped_by}
use Rattle.live_posts.proofs.Lines.{Extends, Finished, bodies_finished, bodies_more, few_finished, front_finished, later_both, later_same, nothing_more, numbers_finished, numbers_more, own_extended, posts_extended, refused_no_stop, stops_finished}
use Rattle.live_posts.proofs.Looking.{prefix_then}
use Rattle.live_posts.proofs.feeder.feed_all.Given.{Over}
use Rattle.live_posts.proofs.feeder.feed_all.Goals as goal

pub posts-init : goal.posts-init
posts-init g c =
    let source = g.R.Source.state c.args.src.now in
    let seat = c.args.seat.now in
    let fresh = c.new-feed.ensures in
    let none : posts_of seat ≡ [] = ap (λ es. posts_in es) c.requires.fresh in
    let no_lines : length (posts_of seat) ≡ 0 = ap (λ ps. length ps) none in
    record {
      inbox = c.requires.own;
      number = refl;
      seen = ([], append-nil seat.seen);
      own = c.requires.fresh ∙ ap (λ ps. entries_of seat.number 0 ps) (sym none);
      goes_on = ap (λ (f : FeedView). f.ended) fresh;
      count = ap (λ (f : FeedView). f.lines.count) fresh ∙ sym no_lines;
      posted = sym no_lines;
      numbers = subst (λ (ps : List Post). map (λ (p : Post). p.line) ps ≡ range_with_len 1 (length ps)) (sym none) refl;
      few = omega arith;
      lines = subst (All (λ (p : Post). is_stop p.body ≡ false)) (sym none) (All-nil (λ (p : Post). is_stop p.body ≡ false));
      later = later_same source;
      bodies = λ told. λ i. map (λ (p : Post). p.body) (none i) ++ bodies_ahead (feed_ahead (fresh i) source);
      within = λ told. ap (λ (f : FeedView). is_overlong (feed_ahead f source)) fresh;
    }

pub posts-preserved : goal.posts-preserved
posts-preserved g c =
    let old = c.posts.feed in
    let new = c.next_line.new.self in
    let source = g.R.Source.state c.posts.src in
    let after = g.R.Source.state c.next_line.new.src in
    let seat = c.posts.seat in
    let later = c.post_next.new.seat in
    let post = c.in-Ok-Some.post in
    let is = c.in-Ok-Some.field-0-is in
    let before = c.posts.invariant in
    let line = subst (λ (o : Option Post). IfSome o (λ p. IsLine p old new)) is c.in-Ok-Some.ensures.line in
    let few = subst (λ (o : Option Post). IfSome o (λ p. p.line ≤ most_lines)) is c.in-Ok-Some.ensures.few in
    let next = subst (λ (o : Option Post). Posts o old new source after) is c.in-Ok-Some.ensures.next in
    let goes : Extends seat later (post ∷ []) = record { own = c.in-None.ensures.stored; number = c.post_next.ensures.seat.1 } in
    let more : posts_of later ≡ posts_of seat ++ post ∷ [] = posts_extended seat later (post ∷ []) goes in
    let long = ap (λ ps. length ps) more ∙ length_push (posts_of seat) post in
    let number : post.line ≡ length (posts_of seat) + 1 = omega (arith, line.line, before.count) in
    record {
      inbox = c.post_next.ensures.seat.0;
      number = c.post_next.ensures.seat.1 ∙ before.number;
      seen = prefix_then _ _ _ before.seen c.post_next.ensures.later;
      own = own_extended seat later (post ∷ []) goes before.own;
      goes_on = c.in-Ok-Some.ensures.ended ∙ ap (λ (o : Option Post). is_none o) is;
      count = omega (arith, line.count, before.count, long);
      posted = omega (arith, number, long);
      numbers =
          subst (λ (ps : List Post). map (λ (p : Post). p.line) ps ≡ range_with_len 1 (length ps)) (sym more)
          (numbers_more (posts_of seat) post before.numbers number);
      few = omega (arith, few, number, long);
      lines =
          subst (All (λ (p : Post). is_stop p.body ≡ false)) (sym more)
          (All-push (λ (p : Post). is_stop p.body ≡ false) (posts_of seat) post before.lines line.change);
      later = later_both _ source after before.later c.next_line.ensures.later;
      bodies = λ told.
          ap (λ (ps : List Post). map (λ (p : Post). p.body) ps ++ bodies_ahead (feed_ahead new after)) more
          ∙ bodies_more (posts_of seat) post (bodies_ahead (feed_ahead old source)) (bodies_ahead (feed_ahead new after)) (next (before.later.same_tells ∙ told)).1.first
          ∙ before.bodies told;
      within = λ told. (next (before.later.same_tells ∙ told)).1.overlong ∙ before.within told;
    }

pub posts-smaller : goal.posts-smaller
posts-smaller g c =
    let old = c.posts.feed in
    let new = c.next_line.new.self in
    let seat = c.posts.seat in
    let later = c.post_next.new.seat in
    let post = c.in-Ok-Some.post in
    let is = c.in-Ok-Some.field-0-is in
    let line = subst (λ (o : Option Post). IfSome o (λ p. IsLine p old new)) is c.in-Ok-Some.ensures.line in
    let few = subst (λ (o : Option Post). IfSome o (λ p. p.line ≤ most_lines)) is c.in-Ok-Some.ensures.few in
    let goes : Extends seat later (post ∷ []) = record { own = c.in-None.ensures.stored; number = c.post_next.ensures.seat.1 } in
    let long = ap (λ ps. length ps) (posts_extended seat later (post ∷ []) goes) ∙ length_push (posts_of seat) post in
    let number : post.line ≡ length (posts_of seat) + 1 = omega (arith, line.line, c.posts.invariant.count) in
    omega (arith, few, number, long)

finished-in-Some : (g : Over) (c : goal.After-drop-feed-inside g) → Finished c.posts.seat c.post_next.new.seat c.in-Some.fed
finished-in-Some g c = record {
  extends = nothing_more _ _ _ (refused_no_stop _ _ c.in-Some.ensures.refused) c.in-Some.ensures.same c.post_next.ensures.seat.1;
  lines = c.posts.invariant.lines;
}

pub returns-in-Some-clause-own : goal.returns-in-Some-clause-own
returns-in-Some-clause-own g c = own_extended _ _ _ (finished-in-Some g c).extends c.posts.invariant.own

pub returns-in-Some-clause-numbers : goal.returns-in-Some-clause-numbers
returns-in-Some-clause-numbers g c = numbers_finished _ _ _ (finished-in-Some g c) c.posts.invariant.numbers

pub returns-in-Some-clause-few : goal.returns-in-Some-clause-few
returns-in-Some-clause-few g c = few_finished _ _ _ (finished-in-Some g c) c.posts.invariant.few

pub returns-in-Some-clause-stop : goal.returns-in-Some-clause-stop
returns-in-Some-clause-stop g c = stops_finished _ _ _ (finished-in-Some g c)

pub returns-in-Some-clause-front : goal.returns-in-Some-clause-front
returns-in-Some-clause-front g c = λ told. front_finished _ _ _ _ _ (finished-in-Some g c) (c.posts.invariant.bodies told)

pub returns-in-Some-clause-whole : goal.returns-in-Some-clause-whole
returns-in-Some-clause-whole g c = λ told is. absurd (refused_not_ended _ c.in-Some.ensures.refused is)

pub returns-in-Some-clause-within : goal.returns-in-Some-clause-within
returns-in-Some-clause-within g c = λ told is. absurd (refused_not_ended _ c.in-Some.ensures.refused is)

pub returns-in-Some-clause-overrun : goal.returns-in-Some-clause-overrun
returns-in-Some-clause-overrun g c = λ told is. absurd (refused_not_stopped _ _ c.in-Some.ensures.refused is)

pub returns-in-Some-clause-failed : goal.returns-in-Some-clause-failed
returns-in-Some-clause-failed g c = λ is. absurd (refused_not_stopped _ _ c.in-Some.ensures.refused is)

pub returns-in-Some-clause-unsound : goal.returns-in-Some-clause-unsound
returns-in-Some-clause-unsound g c = λ is. absurd (refused_not_stopped _ _ c.in-Some.ensures.refused is)

pub returns-in-Some-clause-seen : goal.returns-in-Some-clause-seen
returns-in-Some-clause-seen g c = prefix_then _ _ _ c.posts.invariant.seen c.post_next.ensures.later

pub returns-in-Some-clause-later : goal.returns-in-Some-clause-later
returns-in-Some-clause-later g c = later_both _ _ _ c.posts.invariant.later c.next_line.ensures.later

finished-in-Ok-None : (g : Over) (c : goal.After-drop-feed-inside-in-Ok-None g) → Finished c.posts.seat c.posts.seat Ended
finished-in-Ok-None g c = record { extends = nothing_more c.posts.seat c.posts.seat Ended refl refl refl; lines = c.posts.invariant.lines }

pub returns-in-Ok-None-clause-own : goal.returns-in-Ok-None-clause-own
returns-in-Ok-None-clause-own g c = own_extended _ _ _ (finished-in-Ok-None g c).extends c.posts.invariant.own

pub returns-in-Ok-None-clause-numbers : goal.returns-in-Ok-None-clause-numbers
returns-in-Ok-None-clause-numbers g c = numbers_finished _ _ _ (finished-in-Ok-None g c) c.posts.invariant.numbers

pub returns-in-Ok-None-clause-few : goal.returns-in-Ok-None-clause-few
returns-in-Ok-None-clause-few g c = few_finished _ _ _ (finished-in-Ok-None g c) c.posts.invariant.few

pub returns-in-Ok-None-clause-stop : goal.returns-in-Ok-None-clause-stop
returns-in-Ok-None-clause-stop g c = stops_finished _ _ _ (finished-in-Ok-None g c)

pub returns-in-Ok-None-clause-front : goal.returns-in-Ok-None-clause-front
returns-in-Ok-None-clause-front g c = λ told. front_finished _ _ _ _ _ (finished-in-Ok-None g c) (c.posts.invariant.bodies told)

pub returns-in-Ok-None-clause-whole : goal.returns-in-Ok-None-clause-whole
returns-in-Ok-None-clause-whole g c = λ told is.
    let source = g.R.Source.state c.posts.src in
    let after = g.R.Source.state c.next_line.new.src in
    let next = subst (λ (o : Option Post). Posts o c.posts.feed c.next_line.new.self source after) c.in-Ok-None.field-0-is c.in-Ok-None.ensures.next in
    let end = (next (c.posts.invariant.later.same_tells ∙ told)).1 in
    let bodies = map (λ (p : Post). p.body) (posts_of c.posts.seat) in
    bodies_finished _ _ _ (finished-in-Ok-None g c)
    ∙ (sym (append-nil bodies) ∙ (ap (λ rest. bodies ++ rest) (sym end.lines) ∙ c.posts.invariant.bodies told))

pub returns-in-Ok-None-clause-within : goal.returns-in-Ok-None-clause-within
returns-in-Ok-None-clause-within g c = λ told is.
    let source = g.R.Source.state c.posts.src in
    let after = g.R.Source.state c.next_line.new.src in
    let next = subst (λ (o : Option Post). Posts o c.posts.feed c.next_line.new.self source after) c.in-Ok-None.field-0-is c.in-Ok-None.ensures.next in
    sym (c.posts.invariant.within told) ∙ (next (c.posts.invariant.later.same_tells ∙ told)).1.overlong

pub returns-in-Ok-None-clause-later : goal.returns-in-Ok-None-clause-later
returns-in-Ok-None-clause-later g c = later_both _ _ _ c.posts.invariant.later c.next_line.ensures.later

finished-in-Err : (g : Over) (c : goal.After-drop-feed-inside-in-Err g) → Finished c.posts.seat c.post_stop.new.seat c.post_stop.result
finished-in-Err g c = record {
  extends = record {
    own =
        c.post_stop.ensures.posted
        ∙ ap (λ n. own_of c.posts.seat ++ entries_of c.posts.seat.number (length (posts_of c.posts.seat)) (stops_behind n c.post_stop.result)) c.posts.invariant.posted;
    number = c.post_stop.ensures.seat.1;
  };
  lines = c.posts.invariant.lines;
}

pub returns-in-Err-clause-own : goal.returns-in-Err-clause-own
returns-in-Err-clause-own g c = own_extended _ _ _ (finished-in-Err g c).extends c.posts.invariant.own

pub returns-in-Err-clause-numbers : goal.returns-in-Err-clause-numbers
returns-in-Err-clause-numbers g c = numbers_finished _ _ _ (finished-in-Err g c) c.posts.invariant.numbers

pub returns-in-Err-clause-few : goal.returns-in-Err-clause-few
returns-in-Err-clause-few g c = few_finished _ _ _ (finished-in-Err g c) c.posts.invariant.few

pub returns-in-Err-clause-stop : goal.returns-in-Err-clause-stop
returns-in-Err-clause-stop g c = stops_finished _ _ _ (finished-in-Err g c)

pub returns-in-Err-clause-front : goal.returns-in-Err-clause-front
returns-in-Err-clause-front g c = λ told. front_finished _ _ _ _ _ (finished-in-Err g c) (c.posts.invariant.bodies told)

pub returns-in-Err-clause-whole : goal.returns-in-Err-clause-whole
returns-in-Err-clause-whole g c = λ told is. absurd (not_ended _ _ c.post_stop.ensures.cause is)

pub returns-in-Err-clause-within : goal.returns-in-Err-clause-within
returns-in-Err-clause-within g c = λ told is. absurd (not_ended _ _ c.post_stop.ensures.cause is)

pub returns-in-Err-clause-overrun : goal.returns-in-Err-clause-overrun
returns-in-Err-clause-overrun g c = λ told is.
    let over = c.in-Err.ensures.overrun (ap Err (overrun_fault _ (stopped_by _ _ _ c.post_stop.ensures.cause is))) in
    sym (c.posts.invariant.within told) ∙ (over (c.posts.invariant.later.same_tells ∙ told)).overlong

pub returns-in-Err-clause-failed : goal.returns-in-Err-clause-failed
returns-in-Err-clause-failed g c = λ is.
    rose_later _ _ _ c.posts.invariant.later.later (c.in-Err.ensures.failed (ap Err (read_fault _ (stopped_by _ _ _ c.post_stop.ensures.cause is))))

pub returns-in-Err-clause-unsound : goal.returns-in-Err-clause-unsound
returns-in-Err-clause-unsound g c = λ is.
    sym c.posts.invariant.later.same_sound ∙ c.in-Err.ensures.unsound (ap Err (read_fault _ (stopped_by _ _ _ c.post_stop.ensures.cause is)))

pub returns-in-Err-clause-seen : goal.returns-in-Err-clause-seen
returns-in-Err-clause-seen g c = prefix_then _ _ _ c.posts.invariant.seen c.post_stop.ensures.later

pub returns-in-Err-clause-later : goal.returns-in-Err-clause-later
returns-in-Err-clause-later g c = later_both _ _ _ c.posts.invariant.later c.next_line.ensures.later
