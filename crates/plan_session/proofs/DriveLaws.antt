-- How a live run ended, by its closed journal.
use Rattle.std.proofs.Common.{◌≡◌, ◌∙◌, ◌<◌, ◌+◌, ℕ, zero, suc, Bool, true, false, not, cond, List, [], ◌∷◌, ◌++◌, Option, Some, Result, Ok, Err, All, length, map, take, drop, get_or, refl, sym, ap, subst, arith}
use Rattle.std.specs.List.{Any, range_with_len, slice_index_or, zip}
use Rattle.std.specs.Prelude.{IsSome, OnOk}
use Rattle.std.proofs.lemmas.List.{append-nil, append_assoc}
use Rattle.std.proofs.lemmas.List.Elements.{All-cons, All-head, All-nil, All-tail}
use mathlib.Core.List.{IsPrefix}
use Rattle.change_feed.specs.Feeds.{is_stop, lines_of}
use Rattle.change_inbox.specs.declared.entry.Entry.{Entry}
use Rattle.change_inbox.specs.Entries.{posts_in, shuts_in}
use Rattle.change_inbox.specs.Seats.{SeatView}
use Rattle.live_lines.specs.Reading.{AreLines}
use Rattle.live_lines.specs.Taking.{Grounds, feed_on}
use Rattle.live_posts.specs.Cuts.{Take, boundaries, posts_taken, takes}
use Rattle.live_posts.specs.Feeding.{lines_among, stops_behind}
use Rattle.live_posts.specs.Feeding as feeding
use Rattle.live_posts.specs.Laws.{IsClosed}
use Rattle.live_posts.specs.declared.fed.Fed.{Fed}
use Rattle.live_posts.specs.declared.fed.Fed.TheVariants as fed_as
use Rattle.live_posts.proofs.Looking.{prefix_then}
use Rattle.live_posts.proofs.Refusals.{finds_room, goes_on_unshut}
use Rattle.plan_changes.specs.declared.line.Body.{Body}
use Rattle.plan_changes.specs.declared.line.Body.TheVariants.{Do, Bad, Stop}
use Rattle.plan_changes.specs.declared.line.Post.{Post}
use Rattle.plan_changes.specs.declared.line.StopCause.{StopCause}
use Rattle.plan_changes.specs.declared.line.StopCause.TheVariants as causes
use Rattle.plan_ports.specs.Outside.{SinkFails, SinkState, SourceState, Wrote, WroteFront}
use Rattle.plan_reports.specs.declared.line.Line.TheVariants as line
use Rattle.plan_search.specs.RunLines.{text_of}
use Rattle.plan_search.specs.Posed.{Posed}
use Rattle.plan_session.specs.Fed.{fed_text}
use Rattle.plan_session.specs.Live.{opening_text}
use Rattle.plan_session.specs.LiveFaults.{live_fault, status_of_end}
use Rattle.plan_session.specs.LiveRuns.{AreCutsOf, BrokeOff, Drove, EndsLive, HasFed, HasNoStop, HasStop, RanLive, lines_cut, live_text}
use Rattle.plan_session.specs.Sources.{numbered, posts_of}
use Rattle.plan_session.specs.declared.fault.PrintFault.{PrintFault}
use Rattle.plan_session.specs.declared.fault.PrintFault.TheVariants as printing
use Rattle.plan_session.specs.declared.status.Status.TheVariants as status
use Rattle.plan_session.specs.declared.live_fault.LiveFault.{LiveFault}
use Rattle.plan_session.specs.declared.live_fault.LiveFault.TheVariants.{Memory, Write, Stopped}
use Rattle.plan_session.proofs.LiveCuts.{IsLine, any_before, few_first, front_of, in_order_first, posts_first}
use Rattle.plan_session.proofs.LiveTexts.{front_to, named_then_opened}
use Rattle.plan_session.proofs.Printed.{front_of_more}
use Rattle.plan_session.proofs.ShelfLaws.{are_posts}

-- the cause that a body names
abbrev cause_in : Body → StopCause
cause_in (Do change) = causes.Memory
cause_in (Bad fault) = causes.Memory
cause_in (Stop cause) = cause

-- posts without a stop that begin some lines and a stop behind them begin the lines
front_of_lines : (xs lines : List Post) (n : ℕ) (fed : Fed) → IsPrefix xs (lines ++ stops_behind n fed) → All IsLine xs → IsPrefix xs lines
front_of_lines [] lines n fed front all = (lines, refl)
front_of_lines (x ∷ xs) [] n fed_as.Ended front all = absurd (let none = ap (λ (l : List Post). length l) front.1 in omega (arith, none))
front_of_lines (x ∷ xs) [] n fed_as.Shut front all = absurd (let none = ap (λ (l : List Post). length l) front.1 in omega (arith, none))
front_of_lines (x ∷ xs) [] n fed_as.Full front all = absurd (let none = ap (λ (l : List Post). length l) front.1 in omega (arith, none))
front_of_lines (x ∷ xs) [] n (fed_as.Stopped cause) front all =
    let stop : is_stop x.body ≡ true = ap (λ (l : List Post). is_stop (get_or l 0 x).body) front.1 in
    let no : true ≡ false = sym stop ∙ All-head IsLine x xs all in
    absurd cc
front_of_lines (x ∷ xs) (line ∷ lines) n fed front all =
    let head : x ≡ line = ap (λ (l : List Post). get_or l 0 x) front.1 in
    let rest = front_of_lines xs lines n fed (front.0, ap (λ (l : List Post). drop 1 l) front.1) (All-tail IsLine x xs all) in
    (rest.0, λ i. head i ∷ rest.1 i)

-- the lines among posts are no stops
keep_lines : (b : Bool) (post : Post) (rest : List Post) → is_stop post.body ≡ b → All IsLine rest → All IsLine (cond (not b) (post ∷ rest) rest)
keep_lines true post rest is all = all
keep_lines false post rest is all = All-cons IsLine post rest is all

lines_are_lines : (posts : List Post) → All IsLine (lines_among posts)
lines_are_lines [] = All-nil IsLine
lines_are_lines (post ∷ posts) = keep_lines (is_stop post.body) post (lines_among posts) refl (lines_are_lines posts)

-- a stop isn't among posts that are lines
no_stop_there : (lines : List Post) (n : ℕ) (cause : StopCause) → All IsLine (lines ++ stops_behind n (fed_as.Stopped cause)) → ⊥
no_stop_there [] n cause all =
    let no : true ≡ false = All-head IsLine (feeding.stop_at (n + 1) cause) [] all in
    cc
no_stop_there (line ∷ lines) n cause all =
    no_stop_there lines n cause (All-tail IsLine line (lines ++ stops_behind n (fed_as.Stopped cause)) all)

-- a feeder that wasn't refused and didn't stop ended
ends : (fed : Fed) → (fed ≡ fed_as.Full → ⊥) → (fed ≡ fed_as.Shut → ⊥) → ((cause : StopCause) → fed ≡ fed_as.Stopped cause → ⊥) → fed ≡ fed_as.Ended
ends fed_as.Ended full shut stopped = refl
ends fed_as.Full full shut stopped = absurd (full refl)
ends fed_as.Shut full shut stopped = absurd (shut refl)
ends (fed_as.Stopped cause) full shut stopped = absurd (stopped cause refl)

-- a stop behind lines is the feeder's
only_one : (stop d : Post) (k : ℕ) → k < 1 → slice_index_or (stop ∷ []) k d ≡ stop
only_one stop d zero within = refl
only_one stop d (suc k) within = absurd (omega (arith, within))

stop_there : (lines : List Post) (n : ℕ) (fed : Fed) (cause : StopCause) (k : ℕ) (d : Post) → All IsLine lines
    → k < length (lines ++ stops_behind n fed) → slice_index_or (lines ++ stops_behind n fed) k d ≡ d → d.body ≡ Stop cause → fed ≡ fed_as.Stopped cause
stop_there [] n fed_as.Ended cause k d all within at is = absurd (omega (arith, within))
stop_there [] n fed_as.Shut cause k d all within at is = absurd (omega (arith, within))
stop_there [] n fed_as.Full cause k d all within at is = absurd (omega (arith, within))
stop_there [] n (fed_as.Stopped other) cause k d all within at is =
    let here : feeding.stop_at (n + 1) other ≡ d = sym (only_one (feeding.stop_at (n + 1) other) d k within) ∙ at in
    ap (λ (body : Body). fed_as.Stopped (cause_in body)) (ap (λ (p : Post). p.body) here ∙ is)
stop_there (line ∷ lines) n fed cause zero d all within at is =
    let no : false ≡ true = sym (All-head IsLine line lines all) ∙ ap (λ (p : Post). is_stop p.body) at ∙ ap is_stop is in
    absurd cc
stop_there (line ∷ lines) n fed cause (suc k) d all within at is =
    stop_there lines n fed cause k d (All-tail IsLine line lines all) (omega (arith, within)) at is

stop_is_its : (lines : List Post) (n : ℕ) (fed : Fed) (cause : StopCause) → All IsLine lines
    → Any (λ (post : Post). post.body ≡ Stop cause) (lines ++ stops_behind n fed) → fed ≡ fed_as.Stopped cause
stop_is_its lines n fed cause all some = stop_there lines n fed cause some.0 some.1 all some.2 some.3 some.4

-- numbered lines whose bodies begin a feed's lines begin its posts
numbered_front : (a : ℕ) (posts : List Post) (bodies : List Body) → map (λ (p : Post). p.line) posts ≡ range_with_len a (length posts)
    → IsPrefix (map (λ (p : Post). p.body) posts) bodies → IsPrefix posts (map numbered (zip (range_with_len a (length bodies)) bodies))
numbered_front a [] bodies numbers front = (map numbered (zip (range_with_len a (length bodies)) bodies), refl)
numbered_front a (post ∷ posts) bodies numbers front =
    subst (λ (bs : List Body). IsPrefix (post ∷ posts) (map numbered (zip (range_with_len a (length bs)) bs))) front.1
    (let more = map (λ (p : Post). p.body) posts ++ front.0 in
    let number : post.line ≡ a = ap (λ (ns : List ℕ). get_or ns 0 a) numbers in
    let rest = numbered_front (a + 1) posts more (ap (λ (ns : List ℕ). drop 1 ns) numbers) (front.0, refl) in
    (rest.0, λ i. record { line = number i; body = post.body } ∷ rest.1 i))

-- what is known of a run that was closed: its journal has the posts of its feeder and the cuts of its cutter
pub record IsClosedRun (feeder : SeatView Post) (cuts : List (Take Post)) (shuts : ℕ) (journal : List (Entry Post)) : Type 0 where
  pub posts : posts_in journal ≡ feeding.posts_of feeder
  pub takes_are : takes journal ≡ cuts
  pub front : IsPrefix (posts_taken (takes journal)) (posts_in journal)
  pub all : IsPrefix (posts_in feeder.seen) (posts_taken cuts) → posts_taken (takes journal) ≡ posts_in journal
  pub shuts_are : shuts_in journal ≡ shuts
  pub seen : IsPrefix feeder.seen journal
  pub room : feeder.inbox.limits.posts ≡ 4097

module _ (by : Grounds) (posed : Posed) (cuts : List (Take Post)) (shuts : ℕ) (fed : Fed) (feeder : SeatView Post) (journal : List (Entry Post))
    (before after : SourceState) (start now : SinkState)
    (feeds : HasFed fed feeder before after) (closed : IsClosedRun feeder cuts shuts journal) where
  abbrev lines : List Post
  lines = lines_among (feeding.posts_of feeder)

  -- the posts are lines, and a stop behind them where the feed failed
  posts_are : posts_in journal ≡ lines ++ stops_behind (length lines) fed
  posts_are = closed.posts ∙ feeds.stop

  lines_begin : before.tells ≡ true → IsPrefix lines (posts_of before.left)
  lines_begin tells = numbered_front 1 lines (lines_of before.left) feeds.numbers (feeds.front tells)

  -- cuts that take no stop take the first lines
  first_lines : (n : ℕ) → HasNoStop (take n cuts) → IsPrefix (posts_taken (take n cuts)) lines
  first_lines n quiet =
      let front : IsPrefix (posts_taken (take n cuts)) (posts_in journal) =
      prefix_then (posts_taken (take n cuts)) (posts_taken cuts) (posts_in journal) (posts_first n cuts)
      (subst (λ (c : List (Take Post)). IsPrefix (posts_taken c) (posts_in journal)) closed.takes_are closed.front) in
      front_of_lines (posts_taken (take n cuts)) lines (length lines) fed
      (subst (λ (ps : List Post). IsPrefix (posts_taken (take n cuts)) ps) posts_are front) quiet

  -- a run that broke off
  broke_off : (fault : LiveFault) → EndsLive by posed cuts start now (Err fault) → BrokeOff by posed before (Some journal) start now
  broke_off fault ended =
      let n = ended.broken.0 in
      record {
        cuts = take n cuts;
        own = subst (λ (c : List (Take Post)). IsPrefix (take n cuts) c) (sym closed.takes_are) (front_of n cuts);
        first = record {
          in_order = in_order_first n cuts ended.in_order;
          few = few_first n cuts (suc posed.settings.steps) ended.few;
          feed = λ tells. prefix_then (posts_taken (take n cuts)) lines (posts_of before.left) (first_lines n ended.broken.1) (lines_begin tells);
        };
        wrote = ended.broken.2;
      }

  -- a stop that was taken is the feeder's
  stopped_by : (cause : StopCause) → HasStop cause cuts → fed ≡ fed_as.Stopped cause
  stopped_by cause stop =
      let stops : Post → Type 0 = λ post. post.body ≡ Stop cause in
      let taken = subst (λ (c : List (Take Post)). IsPrefix (posts_taken c) (posts_in journal)) closed.takes_are closed.front in
      let some : Any stops (posts_in journal) = subst (Any stops) taken.1 (any_before stops (posts_taken cuts) taken.0 stop) in
      stop_is_its lines (length lines) fed cause (lines_are_lines (feeding.posts_of feeder)) (subst (Any stops) posts_are some)

  is_closed : IsClosed fed feeder journal
  is_closed = record { shows = feeds.shows; few = feeds.few; stop = feeds.stop; seen = closed.seen; posts = closed.posts }

  -- a run that was done to its end took the whole feed
  module _ (ended : EndsLive by posed cuts start now (Ok tt)) (all : IsPrefix (posts_in feeder.seen) (posts_taken cuts)) (unshut : shuts ≡ 0) where
    taken_all : posts_taken cuts ≡ posts_in journal
    taken_all = ap (λ (c : List (Take Post)). posts_taken c) (sym closed.takes_are) ∙ closed.all all

    feed_ended : fed ≡ fed_as.Ended
    feed_ended =
        ends fed (finds_room fed feeder journal is_closed closed.room) (goes_on_unshut fed feeder journal is_closed (closed.shuts_are ∙ unshut))
        (λ cause is. no_stop_there lines (length lines) cause
        (subst (λ (f : Fed). All IsLine (lines ++ stops_behind (length lines) f)) is (subst (All IsLine) (taken_all ∙ posts_are) ended.no_stop)))

    all_lines : posts_in journal ≡ lines
    all_lines = posts_are ∙ ap (λ (f : Fed). lines ++ stops_behind (length lines) f) feed_ended ∙ append-nil lines

    are_lines : AreLines (posts_in journal)
    are_lines = subst AreLines (sym all_lines) (record { numbers = feeds.numbers; few = feeds.few; lines = lines_are_lines (feeding.posts_of feeder) })

    ran_live : RanLive by posed before journal start now
    ran_live = record {
      cuts = ap (λ (c : List (Take Post)). boundaries c) closed.takes_are ∙ ended.in_order ∙ ap (range_with_len 0) ended.all;
      taken = closed.all all;
      lines = are_lines;
      feed = λ tells. record {
        lines = are_posts (posts_in journal) before.left are_lines
            (ap (map (λ (p : Post). p.body)) all_lines ∙ feeds.whole tells feed_ended);
        within = feeds.within tells feed_ended;
      };
      wrote = subst (λ (c : List (Take Post)). Wrote (live_text by c posed) start now) (sym closed.takes_are) ended.whole;
    }

  -- however it ended
  pub drove : (ended : Result Unit LiveFault) → EndsLive by posed cuts start now ended
      → OnOk ended (IsPrefix (posts_in feeder.seen) (posts_taken cuts)) → OnOk ended (shuts ≡ 0)
      → Drove by posed (Some journal) before after start now (status_of_end ended)
  drove (Ok tt) ended all unshut = (journal, refl, ran_live ended all unshut)
  drove (Err Memory) ended all unshut = broke_off Memory ended
  drove (Err Write) ended all unshut = (broke_off Write ended, ended.failed refl, refl)
  drove (Err (Stopped causes.Memory)) ended all unshut = broke_off (Stopped causes.Memory) ended
  drove (Err (Stopped causes.ReadFault)) ended all unshut =
      let is = stopped_by causes.ReadFault (ended.stopped causes.ReadFault refl) in
      (broke_off (Stopped causes.ReadFault) ended, record { fails = feeds.failed is; unsound = feeds.unsound is }, refl)
  drove (Err (Stopped causes.Overrun)) ended all unshut =
      let is = stopped_by causes.Overrun (ended.stopped causes.Overrun refl) in
      (broke_off (Stopped causes.Overrun) ended, (λ tells. feeds.overrun tells is), refl)

-- a run that took nothing of its feed broke off at a front of its first line
module _ (by : Grounds) (posed : Posed) (journal : Option (List (Entry Post))) (own : AreCutsOf journal []) (before after : SourceState) (start now : SinkState)
    (wrote : WroteFront (text_of posed (line.Run posed.name ∷ [])) start now) where
  broke_first : BrokeOff by posed before journal start now
  broke_first =
      let takes = lines_cut [] in
      let front = front_to (feed_on by) posed takes 0 (omega arith) in
      let opening = opening_text (feed_on by) posed 0 (takes 0) posed.origin in
      let first = text_of posed (line.Run posed.name ∷ []) in
      let is : first ++ (opening ++ front.0) ≡ fed_text (feed_on by) posed takes =
      sym (append_assoc first opening front.0) ∙ ap (λ (text : List ℕ). text ++ front.0) (named_then_opened (feed_on by) posed takes) ∙ front.1 in
      record {
        cuts = [];
        own = own;
        first = record { in_order = refl; few = omega arith; feed = λ tells. (posts_of before.left, refl) };
        wrote = subst (λ (text : List ℕ). WroteFront text start now) is (front_of_more first (opening ++ front.0) start now wrote);
      }

  pub drove_first : IsSome journal → (fault : PrintFault) → (fault ≡ printing.Write → SinkFails start now)
      → Drove by posed journal before after start now (status_of_end (Err (live_fault fault)))
  drove_first some printing.Memory failed = broke_first
  drove_first some printing.Write failed = (broke_first, failed refl, some)

  pub drove_nowhere : Drove by posed journal before after start now status.Memory
  drove_nowhere = broke_first
