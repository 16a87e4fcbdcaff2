use Rattle.std.proofs.Common.{◌≡◌, ◌∙◌, ◌++◌, ◌∷◌, [], length, ap, subst, arith}
use Rattle.std.specs.Prelude.{IfOk}
use mathlib.Core.List.{IsPrefix}
use Rattle.change_inbox.specs.Books.{cut}
use Rattle.change_inbox.specs.Entries.{posts_in}
use Rattle.change_inbox.specs.Seats.{own_of}
use Rattle.live_posts.specs.Cuts.{posts_taken, taken_by, take_at}
use Rattle.live_posts.proofs.CutLaws.{cuts_counted}
use Rattle.live_posts.proofs.Cutting.{HasCut, copies_new, count_there, cutter_new, own_new, seen_taken, taken_new, untaken}
use Rattle.live_posts.proofs.Looking.{prefix_then}
use Rattle.live_posts.proofs.cutter.Cutter.cut.Given.{Over}
use Rattle.live_posts.proofs.cutter.Cutter.cut.Goals as goal

pub cut-count-requires-clause-room : goal.cut-count-requires-clause-room
cut-count-requires-clause-room g c = λ κs.
    let seat = c.self.inside.seat in
    let counted = cuts_counted seat.number [] seat.seen in
    let same = ap (λ s. length (taken_by s)) c.self.view_is in
    omega (arith, c.requires.room)

pub copy_posts-requires-clause-there : goal.copy_posts-requires-clause-there
copy_posts-requires-clause-there g c = λ κs out.
    let made = c.cut-count.ensures.cut in
    count_there c.self.inside.seat c.cut-count.new.seat made.0 c.args.boundary c.cut-count.result made.2 made.3

has_cut : (g : Over) (c : goal.After-copy_posts g) → HasCut c.self.inside.seat c.cut-count.new.seat c.copy_posts.new.seat c.args.boundary c.cut-count.result
has_cut g c =
    let made = c.cut-count.ensures.cut in
    record {
      found = made.0;
      goes = made.1;
      counted = made.2;
      cut_is = made.3;
      own = c.cut-count.ensures.own;
      later = c.copy_posts.ensures.later;
      number = c.copy_posts.ensures.seat.1;
    }

pub invariant_of-self : goal.invariant_of-self
invariant_of-self g c = cutter_new _ _ _ _ _ c.self.inside.taken (has_cut g c) c.self.invariant

pub returns-clause-took : goal.returns-clause-took
returns-clause-took g c =
    let h = has_cut g c in
    let rest = untaken c.self.inside.seat h.found in (
      rest,
      taken_new _ _ _ _ _ h ∙ ap (λ s. taken_by s ++ take_at c.args.boundary rest ∷ []) c.self.view_is,
      subst (λ posts. IfOk c.copy_posts.result (λ copies. copies ≡ posts)) (copies_new _ _ _ _ _ c.self.inside.taken h c.self.invariant) c.copy_posts.ensures.copies,
    )

pub returns-clause-all : goal.returns-clause-all
returns-clause-all g c = subst (λ s. IsPrefix (posts_in s.seen) (posts_taken (taken_by c.copy_posts.new.seat))) c.self.view_is (seen_taken _ _ _ _ _ (has_cut g c))

pub returns-clause-own : goal.returns-clause-own
returns-clause-own g c = own_new _ _ _ _ _ (has_cut g c) ∙ ap (λ s. own_of s ++ cut s.number c.args.boundary ∷ []) c.self.view_is

pub returns-clause-later : goal.returns-clause-later
returns-clause-later g c =
    subst (λ s. IsPrefix s.seen c.copy_posts.new.seat.seen) c.self.view_is (prefix_then _ _ _ c.cut-count.ensures.later c.copy_posts.ensures.later.later)
