-- What a live run makes of the cuts of its journal.
use Rattle.std.specs.Prelude.{◌≡◌, ◌≤◌, ◌<◌, ◌++◌, ◌-◌, ℕ, suc, true, false, List, [], ◌∷◌, Option, Some, None, Result, All, Any, IsErrOf, IsSome, OnErr, OnOk, flat_map, length, map, replicate, take, slice_get}
use Rattle.std.specs.List.{range_with_len}
use Rattle.std.specs.Option.{option_map_or}
use mathlib.Core.List.{IsPrefix}
use Rattle.change_feed.specs.Feeds.{is_stop, lines_of, overlong}
use Rattle.change_inbox.specs.declared.entry.Entry.{Entry}
use Rattle.change_inbox.specs.Entries.{posts_in}
use Rattle.change_inbox.specs.Seats.{SeatView, own_of}
use Rattle.feed_lines.specs.Limits.{most_lines}
use Rattle.live_lines.specs.Reading.{AreLines}
use Rattle.live_lines.specs.Taking.{Grounds, Taken, feed_on, taken_at}
use Rattle.live_posts.specs.Cuts.{Take, boundaries, posts_taken, takes}
use Rattle.live_posts.specs.Feeding.{Shows, bodies_among, entries_of, lines_among, stops_behind}
use Rattle.live_posts.specs.Feeding as feeding
use Rattle.live_posts.specs.declared.fed.Fed.{Fed}
use Rattle.live_posts.specs.declared.fed.Fed.TheVariants as fed_as
use Rattle.plan_changes.specs.declared.line.Body.TheVariants.{Stop}
use Rattle.plan_changes.specs.declared.line.Post.{Post}
use Rattle.plan_changes.specs.declared.line.StopCause.{StopCause}
use Rattle.plan_changes.specs.declared.line.StopCause.TheVariants as causes
use Rattle.plan_ports.specs.Outside.{LaterSink, LaterSource, SinkFails, SinkState, SourceFails, SourceState, Wrote, WroteFront}
use Rattle.plan_reports.specs.declared.line.Line.TheVariants as line
use Rattle.plan_search.specs.Posed.{Posed}
use Rattle.plan_search.specs.RunLines.{text_of}
use Rattle.move_workers.specs.Judging.{WorkerView}
use Rattle.search_core.specs.declared.machine.Core.{Core}
use Rattle.plan_session.specs.declared.best.BestSoFar.{BestSoFar}
use Rattle.plan_session.specs.Fed.{fed_text}
use Rattle.plan_session.specs.Live.{IsLiveMade, made_leg, text_made}
use Rattle.plan_session.specs.Sources.{IsFeedOf, posts_of}
use Rattle.plan_session.specs.declared.live_fault.LiveFault.{LiveFault}
use Rattle.plan_session.specs.declared.live_fault.LiveFault.TheVariants.{Stopped, Write}
use Rattle.plan_session.specs.declared.status.Status.{Status}
use Rattle.plan_session.specs.declared.status.Status.TheVariants as status

-- no cut takes a stop
abbrev pub HasNoStop : List (Take Post) → Type 0
HasNoStop cuts = All (λ post. is_stop post.body ≡ false) (posts_taken cuts)

-- some cut takes a stop with this cause
abbrev pub HasStop : StopCause → List (Take Post) → Type 0
HasStop cause cuts = Any (λ post. post.body ≡ Stop cause) (posts_taken cuts)

-- what ends for a stop took the stop
abbrev pub TookItsStop : {A : Type 0} → Result A LiveFault → List (Take Post) → Type 0
TookItsStop ended cuts = (cause : StopCause) → IsErrOf ended (Stopped cause) → HasStop cause cuts

-- the boundaries are cut one after another, from 0 on
abbrev pub AreInOrder : List (Take Post) → Type 0
AreInOrder cuts = boundaries cuts ≡ range_with_len 0 (length cuts)

-- the lines that a boundary's cut takes; none where it wasn't cut
abbrev pub lines_cut : List (Take Post) → ℕ → List Taken
lines_cut cuts k = taken_at k (option_map_or (λ cut. cut.posts) (slice_get cuts k) [])

-- boundaries take what these cuts take, as far as they go
abbrev pub AgreesWith : (ℕ → List Taken) → List (Take Post) → Type 0
AgreesWith takes cuts = (k : ℕ) → k < length cuts → takes k ≡ lines_cut cuts k

-- the boundary of each line that these cuts take
abbrev pub bounds_in : List (Take Post) → List ℕ
bounds_in cuts = flat_map (λ cut. replicate (length cut.posts) cut.boundary) cuts

-- what a live run prints, by its cuts
abbrev pub live_text : Grounds → List (Take Post) → Posed → List ℕ
live_text by cuts posed = fed_text (feed_on by) posed (lines_cut cuts)

-- what holds whatever further boundaries take, where these cuts were made
abbrev pub ForCuts : List (Take Post) → ((ℕ → List Taken) → Type 0) → Type 0
ForCuts cuts Holds = (takes : ℕ → List Taken) → AgreesWith takes cuts → Holds takes

-- what holds whatever the further ones take, where only the first so many of these cuts count, at least these; none of them
-- takes a stop
pub record ForFirstCuts (least : ℕ) (cuts : List (Take Post)) (Holds : (ℕ → List Taken) → Type 0) : Type 0 where
  pub count : ℕ
  pub enough : least ≤ count
  pub quiet : HasNoStop (take count cuts)
  pub holds : ForCuts (take count cuts) Holds

-- the first line of a run was printed, and nothing else
pub record HasNamed (posed : Posed) (start now : SinkState) : Type 0 where
  pub wrote : Wrote (text_of posed (line.Run posed.name ∷ [])) start now
  pub later : LaterSink start now

-- how far the half of a run that searches came behind the first line, by its cuts: it printed its text up to the last step, or a
-- front of the whole one, where the first so many cuts count, whatever further boundaries take; and why it broke off
pub record HasLed {A : Type 0} (by : Grounds) (posed : Posed) (cuts : List (Take Post)) (old now : SinkState)
    (led : Result A LiveFault) : Type 0 where
  pub in_order : AreInOrder cuts
  pub few : length cuts ≤ posed.settings.steps
  pub all : OnOk led (length cuts ≡ posed.settings.steps)
  pub no_stop : OnOk led (HasNoStop cuts)
  pub printed : OnOk led (ForCuts cuts (λ takes. (start : SinkState) → HasNamed posed start old
      → Wrote (text_made (feed_on by) posed takes (posed.settings.steps - 1)) start now))
  pub broken : OnErr led (ForFirstCuts 0 cuts (λ takes. (start : SinkState) → HasNamed posed start old
      → WroteFront (fed_text (feed_on by) posed takes) start now))
  pub stopped : TookItsStop led cuts
  pub failed : IsErrOf led Write → SinkFails old now
  pub later : LaterSink old now

-- the last step was made, and this stands behind it, whatever the last boundary takes
abbrev pub HasSteps : Grounds → Posed → List (Take Post) → Core → WorkerView → BestSoFar → List (List ℕ) → Type 0
HasSteps by posed cuts core worker best names =
    let last = posed.settings.steps in
    ForCuts cuts (λ takes. IsLiveMade core worker best names posed last (made_leg (feed_on by) posed takes (last - 1)))

-- how far a live run came behind its first line, by its cuts: it printed its whole text, or a front of it, where the first so many
-- cuts count; and why it broke off
pub record EndsLive (by : Grounds) (posed : Posed) (cuts : List (Take Post)) (start now : SinkState)
    (ended : Result Unit LiveFault) : Type 0 where
  pub in_order : AreInOrder cuts
  pub few : length cuts ≤ suc posed.settings.steps
  pub all : OnOk ended (length cuts ≡ suc posed.settings.steps)
  pub no_stop : OnOk ended (HasNoStop cuts)
  pub whole : OnOk ended (Wrote (live_text by cuts posed) start now)
  pub broken : OnErr ended ((n : ℕ) × HasNoStop (take n cuts) × WroteFront (live_text by (take n cuts) posed) start now)
  pub stopped : TookItsStop ended cuts
  pub failed : IsErrOf ended Write → SinkFails start now
  pub later : LaterSink start now

-- a feeder that ended so, at this seat: it posted the first lines of its feed, in order, each once, and a stop behind them exactly
-- where the feed failed
pub record HasFed (fed : Fed) (seat : SeatView Post) (old new : SourceState) : Type 0 where
  pub own : own_of seat ≡ entries_of seat.number 0 (feeding.posts_of seat)
  pub numbers : map (λ line. line.line) (lines_among (feeding.posts_of seat))
      ≡ range_with_len 1 (length (lines_among (feeding.posts_of seat)))
  pub few : length (lines_among (feeding.posts_of seat)) ≤ most_lines
  pub stop : feeding.posts_of seat
      ≡ lines_among (feeding.posts_of seat) ++ stops_behind (length (lines_among (feeding.posts_of seat))) fed
  pub front : old.tells ≡ true → IsPrefix (bodies_among (feeding.posts_of seat)) (lines_of old.left)
  pub whole : old.tells ≡ true → fed ≡ fed_as.Ended → bodies_among (feeding.posts_of seat) ≡ lines_of old.left
  pub within : old.tells ≡ true → fed ≡ fed_as.Ended → overlong old.left ≡ false
  pub overrun : old.tells ≡ true → fed ≡ fed_as.Stopped causes.Overrun → overlong old.left ≡ true
  pub failed : fed ≡ fed_as.Stopped causes.ReadFault → SourceFails old new
  pub unsound : fed ≡ fed_as.Stopped causes.ReadFault → old.is_sound ≡ false
  pub shows : Shows fed seat
  pub later : LaterSource old new

-- a live run that was done to its end: each boundary was cut once, in order, and the posts are the lines of its feed, each once,
-- in order, all taken; its text is that of the run whose boundaries take what the cuts took
pub record RanLive (by : Grounds) (posed : Posed) (source : SourceState) (journal : List (Entry Post))
    (old new : SinkState) : Type 0 where
  pub cuts : boundaries (takes journal) ≡ range_with_len 0 (suc posed.settings.steps)
  pub taken : posts_taken (takes journal) ≡ posts_in journal
  pub lines : AreLines (posts_in journal)
  pub feed : source.tells ≡ true → IsFeedOf (posts_in journal) source.left
  pub wrote : Wrote (live_text by (takes journal) posed) old new

-- cuts of a live run that was cut short: they take the first lines of its feed, each once, in order
pub record AreFirst (posed : Posed) (source : SourceState) (cuts : List (Take Post)) : Type 0 where
  pub in_order : AreInOrder cuts
  pub few : length cuts ≤ suc posed.settings.steps
  pub feed : source.tells ≡ true → IsPrefix (posts_taken cuts) (posts_of source.left)

-- these are the first cuts of a journal; none where there is no journal
abbrev pub AreCutsOf : Option (List (Entry Post)) → List (Take Post) → Type 0
AreCutsOf None cuts = cuts ≡ []
AreCutsOf (Some journal) cuts = IsPrefix cuts (takes journal)

-- a live run that was cut short: a front was printed of the text of the run whose boundaries take what the first cuts took
pub record BrokeOff (by : Grounds) (posed : Posed) (source : SourceState) (journal : Option (List (Entry Post)))
    (old new : SinkState) : Type 0 where
  pub cuts : List (Take Post)
  pub own : AreCutsOf journal cuts
  pub first : AreFirst posed source cuts
  pub wrote : WroteFront (live_text by cuts posed) old new

-- the source counted a fault, and isn't sound
pub record FeedFails (old new : SourceState) : Type 0 where
  pub fails : SourceFails old new
  pub unsound : old.is_sound ≡ false

-- the source has too many lines or bytes
abbrev pub IsTooLong : SourceState → Type 0
IsTooLong source = source.tells ≡ true → overlong source.left ≡ true

-- how a live run ends: with its whole text, or cut short, and why; there is a journal but where memory was wanting
abbrev pub Drove : Grounds → Posed → Option (List (Entry Post)) → SourceState → SourceState
    → SinkState → SinkState → Status → Type 0
Drove by posed journal before after old new status.Ok =
    (entries : List (Entry Post)) × (journal ≡ Some entries) × RanLive by posed before entries old new
Drove by posed journal before after old new status.Memory = BrokeOff by posed before journal old new
Drove by posed journal before after old new status.Feed =
    BrokeOff by posed before journal old new × FeedFails before after × IsSome journal
Drove by posed journal before after old new status.Write =
    BrokeOff by posed before journal old new × SinkFails old new × IsSome journal
Drove by posed journal before after old new status.FeedTooLong =
    BrokeOff by posed before journal old new × IsTooLong before × IsSome journal
Drove by posed journal before after old new _ = ⊥
