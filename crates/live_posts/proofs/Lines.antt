-- Lines that are posted one after the other, and a stop behind them.
use Rattle.std.proofs.Common.{◌≡◌, ◌∙◌, ℕ, suc, ◌≤◌, ◌+◌, not, Bool, true, false, cond, List, [], ◌∷◌, ◌++◌, length, map, refl, sym, ap, subst, append-nil, zero-add, arith}
use Rattle.std.specs.Prelude.{All}
use Rattle.std.specs.List.{range_with_len}
use Rattle.std.proofs.lemmas.List.{append_assoc, length_push, map-id, map_push}
use Rattle.std.proofs.lemmas.List.FromFn.{map-range_with_len_more}
use Rattle.std.proofs.lemmas.List.Elements.{All-head, All-tail, filter-append}
use mathlib.Core.List.{IsPrefix}
use Rattle.plan_changes.specs.declared.line.Body.{Body}
use Rattle.plan_changes.specs.declared.line.Post.{Post}
use Rattle.plan_ports.specs.Outside.{LaterSource, SourceState}
use Rattle.feed_lines.specs.Limits.{most_lines}
use Rattle.change_inbox.specs.Books.{post}
use Rattle.change_inbox.specs.Entries.{posts_in}
use Rattle.change_inbox.specs.Seats.{SeatView, own_of}
use Rattle.change_inbox.proofs.EntryLists.{posts_in-append}
use Rattle.change_feed.specs.Feeds.{is_stop}
use Rattle.live_posts.specs.declared.fed.Fed.{Fed}
use Rattle.live_posts.specs.declared.fed.Fed.TheVariants.{Ended, Stopped, Shut, Full}
use Rattle.live_posts.specs.Feeding.{bodies_among, entries_of, is_refused, lines_among, posts_of, stops_behind}

-- what holds of a source where nothing was called
pub later_same : (source : SourceState) → LaterSource source source
later_same source = record { same_tells = refl; same_sound = refl; later = omega arith; quiet = λ sound. refl }

-- what holds of a source after two calls
pub later_both : (old mid new : SourceState) → LaterSource old mid → LaterSource mid new → LaterSource old new
later_both old mid new one two =
    let below = one.later in
    let above = two.later in
    record {
      same_tells = two.same_tells ∙ one.same_tells;
      same_sound = two.same_sound ∙ one.same_sound;
      later = omega arith;
      quiet = λ sound. two.quiet (one.same_sound ∙ sound) ∙ one.quiet sound;
    }

-- one line more has the next number
pub numbers_more : (posts : List Post) (post : Post) → map (λ (p : Post). p.line) posts ≡ range_with_len 1 (length posts) → post.line ≡ length posts + 1
    → map (λ (p : Post). p.line) (posts ++ post ∷ []) ≡ range_with_len 1 (length (posts ++ post ∷ []))
numbers_more posts post numbers number =
    let next : 1 + length posts ≡ post.line = omega arith in
    let more = map-range_with_len_more (λ (n : ℕ). n) 1 (length posts) post.line next in
    map_push (λ (p : Post). p.line) posts post
    ∙ ap (λ ns. ns ++ post.line ∷ []) (numbers ∙ sym (map-id (range_with_len 1 (length posts))))
    ∙ sym more
    ∙ map-id (range_with_len 1 (length posts + 1))
    ∙ ap (range_with_len 1) (sym (length_push posts post))

-- what was read and what is ahead, once the next line was read
pub bodies_more : (posts : List Post) (post : Post) (ahead rest : List Body) → ahead ≡ post.body ∷ rest → map (λ p. p.body) (posts ++ post ∷ []) ++ rest ≡ map (λ p. p.body) posts ++ ahead
bodies_more posts post ahead rest next =
    ap (λ bodies. bodies ++ rest) (map_push (λ (p : Post). p.body) posts post)
    ∙ append_assoc (map (λ (p : Post). p.body) posts) (post.body ∷ []) rest
    ∙ ap (λ bodies. map (λ (p : Post). p.body) posts ++ bodies) (sym next)

-- posts behind others as entries
pub entries_more : {T : Type 0} (seat number : ℕ) (xs ys : List T) → entries_of seat number (xs ++ ys) ≡ entries_of seat number xs ++ entries_of seat (number + length xs) ys
entries_more seat number [] ys = ap (λ n. entries_of seat n ys) (let e : number ≡ number + 0 = omega arith in e)
entries_more seat number (x ∷ xs) ys =
    ap (λ es. post seat number x ∷ es) (entries_more seat (number + 1) xs ys ∙ ap (λ n. entries_of seat (number + 1) xs ++ entries_of seat n ys) (let e : number + 1 + length xs ≡ number + suc (length xs) = omega arith in e))

-- the posts of posts as entries
pub posts_in-entries : {T : Type 0} (seat number : ℕ) (xs : List T) → posts_in (entries_of seat number xs) ≡ xs
posts_in-entries seat number [] = refl
posts_in-entries seat number (x ∷ xs) = ap (λ l. x ∷ l) (posts_in-entries seat (number + 1) xs)

kept : (b : Bool) (x : Post) (xs ys : List Post) → b ≡ false → xs ≡ ys → cond (not b) (x ∷ xs) xs ≡ x ∷ ys
kept true x xs ys is e = absurd (cc)
kept false x xs ys is e = ap (λ l. x ∷ l) e

-- lines are all lines among them
pub all_lines : (posts : List Post) → All (λ (p : Post). is_stop p.body ≡ false) posts → lines_among posts ≡ posts
all_lines [] all = refl
all_lines (p ∷ posts) all = kept (is_stop p.body) p (lines_among posts) posts (All-head (λ (q : Post). is_stop q.body ≡ false) p posts all) (all_lines posts (All-tail (λ (q : Post). is_stop q.body ≡ false) p posts all))

no_line : (lines : ℕ) (fed : Fed) → lines_among (stops_behind lines fed) ≡ []
no_line lines Ended = refl
no_line lines (Stopped cause) = refl
no_line lines Shut = refl
no_line lines Full = refl

-- what a seat posted that posts more
pub record Extends (old new : SeatView Post) (more : List Post) : Type 0 where
  pub own : own_of new ≡ own_of old ++ entries_of old.number (length (posts_of old)) more
  pub number : new.number ≡ old.number

pub posts_extended : (old new : SeatView Post) (more : List Post) → Extends old new more → posts_of new ≡ posts_of old ++ more
posts_extended old new more e =
    ap posts_in e.own
    ∙ (posts_in-append (own_of old) (entries_of old.number (length (posts_of old)) more)
    ∙ ap (λ l. posts_of old ++ l) (posts_in-entries old.number (length (posts_of old)) more))

-- a seat that only posts goes on so
pub own_extended : (old new : SeatView Post) (more : List Post) → Extends old new more → own_of old ≡ entries_of old.number 0 (posts_of old) → own_of new ≡ entries_of new.number 0 (posts_of new)
own_extended old new more e only =
    e.own
    ∙ (ap (λ es. es ++ entries_of old.number (length (posts_of old)) more) only
    ∙ (ap (λ n. entries_of old.number 0 (posts_of old) ++ entries_of old.number n more) (sym (zero-add (length (posts_of old))))
    ∙ (sym (entries_more old.number 0 (posts_of old) more)
    ∙ (ap (λ l. entries_of old.number 0 l) (sym (posts_extended old new more e))
    ∙ ap (λ n. entries_of n 0 (posts_of new)) (sym e.number)))))

-- what a feeder posted in the end: its lines, and what comes behind them
pub record Finished (old new : SeatView Post) (fed : Fed) : Type 0 where
  pub extends : Extends old new (stops_behind (length (posts_of old)) fed)
  pub lines : All (λ (p : Post). is_stop p.body ≡ false) (posts_of old)

pub lines_finished : (old new : SeatView Post) (fed : Fed) → Finished old new fed → lines_among (posts_of new) ≡ posts_of old
lines_finished old new fed f =
    let lines = posts_of old in
    let stops = stops_behind (length lines) fed in
    ap lines_among (posts_extended old new stops f.extends)
    ∙ (filter-append (λ (p : Post). not (is_stop p.body)) lines stops
    ∙ (ap (λ l. lines_among lines ++ l) (no_line (length lines) fed)
    ∙ (append-nil (lines_among lines) ∙ all_lines lines f.lines)))

pub stops_finished : (old new : SeatView Post) (fed : Fed) → Finished old new fed → posts_of new ≡ lines_among (posts_of new) ++ stops_behind (length (lines_among (posts_of new))) fed
stops_finished old new fed f =
    posts_extended old new (stops_behind (length (posts_of old)) fed) f.extends
    ∙ ap (λ lines. lines ++ stops_behind (length lines) fed) (sym (lines_finished old new fed f))

pub numbers_finished : (old new : SeatView Post) (fed : Fed) → Finished old new fed → map (λ (p : Post). p.line) (posts_of old) ≡ range_with_len 1 (length (posts_of old))
    → map (λ (p : Post). p.line) (lines_among (posts_of new)) ≡ range_with_len 1 (length (lines_among (posts_of new)))
numbers_finished old new fed f numbers =
    let P : List Post → Type 0 = λ lines. map (λ (p : Post). p.line) lines ≡ range_with_len 1 (length lines) in
    subst P (sym (lines_finished old new fed f)) numbers

pub few_finished : (old new : SeatView Post) (fed : Fed) → Finished old new fed → length (posts_of old) ≤ most_lines → length (lines_among (posts_of new)) ≤ most_lines
few_finished old new fed f few =
    let same = ap length (lines_finished old new fed f) in
    omega arith

pub bodies_finished : (old new : SeatView Post) (fed : Fed) → Finished old new fed → bodies_among (posts_of new) ≡ map (λ (p : Post). p.body) (posts_of old)
bodies_finished old new fed f = ap (λ lines. map (λ (p : Post). p.body) lines) (lines_finished old new fed f)

-- the lines that were posted are the first of all
pub front_finished : (old new : SeatView Post) (fed : Fed) (ahead whole : List Body) → Finished old new fed → map (λ (p : Post). p.body) (posts_of old) ++ ahead ≡ whole → IsPrefix (bodies_among (posts_of new)) whole
front_finished old new fed ahead whole f all = (ahead, ap (λ bodies. bodies ++ ahead) (bodies_finished old new fed f) ∙ all)

-- where nothing more is posted, a seat has what it had
pub own_same : (old new : SeatView Post) (more : List Post) → more ≡ [] → own_of new ≡ own_of old → own_of new ≡ own_of old ++ entries_of old.number (length (posts_of old)) more
own_same old new more none own = own ∙ (sym (append-nil (own_of old)) ∙ ap (λ ps. own_of old ++ entries_of old.number (length (posts_of old)) ps) (sym none))

pub nothing_more : (old new : SeatView Post) (fed : Fed) → stops_behind (length (posts_of old)) fed ≡ [] → own_of new ≡ own_of old → new.number ≡ old.number → Extends old new (stops_behind (length (posts_of old)) fed)
nothing_more old new fed none own number = record { own = own_same old new (stops_behind (length (posts_of old)) fed) none own; number = number }

pub refused_no_stop : (lines : ℕ) (fed : Fed) → is_refused fed ≡ true → stops_behind lines fed ≡ []
refused_no_stop lines Ended is = absurd (cc)
refused_no_stop lines (Stopped cause) is = absurd (cc)
refused_no_stop lines Shut is = refl
refused_no_stop lines Full is = refl
