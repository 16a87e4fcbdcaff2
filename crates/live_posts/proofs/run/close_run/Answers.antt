use Rattle.std.proofs.Common.{rules, ◌≡◌, ◌∙◌, ◌⊎◌, All, ap, subst}
use mathlib.Core.List.{IsPrefix}
use Rattle.change_inbox.specs.Entries.{by_seat, seat_of}
use Rattle.change_inbox.specs.Seats.{own_of}
use Rattle.live_posts.proofs.Ends.{Closed, closed_all, closed_posts, closed_shuts, closed_takes, own_first, own_second, taken_first}
use Rattle.live_posts.proofs.run.close_run.Given.{Over}
use Rattle.live_posts.proofs.run.close_run.Goals as goal

pub close_both-requires : goal.close_both-requires
close_both-requires g c = (search rules, (c.requires.seats, (c.requires.feeder.0, ap (λ s. s.inbox) c.into_seat.ensures.same ∙ c.requires.cutter.0)))

closed : (g : Over) (c : goal.After-close_both g) → Closed c.args.feeder c.args.cutter c.close_both.result
closed g c =
    let closed = c.close_both.ensures in
    let same = c.into_seat.ensures.same in
    record {
      first = c.requires.feeder.1;
      second = c.requires.cutter.1;
      posts = c.requires.posts;
      no_posts = c.into_seat.ensures.posts_nothing;
      seen = (closed.seen.0, subst (λ s. IsPrefix s.seen c.close_both.result) same closed.seen.1);
      own = (closed.own.0, subst (λ s. by_seat s.number c.close_both.result ≡ own_of s) same closed.own.1);
      others = subst (λ s. All (λ e. (seat_of e ≡ c.args.feeder.number) ⊎ (seat_of e ≡ s.number)) c.close_both.result) same closed.others;
    }

pub returns-clause-posts : goal.returns-clause-posts
returns-clause-posts g c = closed_posts _ _ _ (closed g c)

pub returns-clause-takes : goal.returns-clause-takes
returns-clause-takes g c = closed_takes _ _ _ (closed g c)

pub returns-clause-front : goal.returns-clause-front
returns-clause-front g c = taken_first c.close_both.result

pub returns-clause-all : goal.returns-clause-all
returns-clause-all g c = λ met. closed_all _ _ _ (closed g c) met

pub returns-clause-shuts : goal.returns-clause-shuts
returns-clause-shuts g c = closed_shuts _ _ _ (closed g c)

pub returns-clause-feeder : goal.returns-clause-feeder
returns-clause-feeder g c = ((closed g c).seen.0, own_first _ _ _ (closed g c))

pub returns-clause-cutter : goal.returns-clause-cutter
returns-clause-cutter g c = ((closed g c).seen.1, own_second _ _ _ (closed g c))
