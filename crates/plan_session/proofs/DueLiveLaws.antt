-- What is due of a live run, once its feed was opened and it ended.
use Rattle.std.proofs.Common.{◌≡◌, ◌∙◌, ◌⊎◌, ◌<◌, ◌≤◌, ◌-◌, ◌^◌, ℕ, suc, Bool, true, false, Option, Some, List, [], drop, take, inl, inr, refl, sym, ap, subst, arith}
use Rattle.std.specs.Prelude.{IsTrue}
use Rattle.std.proofs.lemmas.List.{take-append-drop}
use mathlib.Core.List.{IsPrefix}
use Rattle.change_inbox.specs.declared.entry.Entry.{Entry}
use Rattle.live_lines.specs.Reading.{AreLines}
use Rattle.live_posts.specs.Cuts.{Take, posts_taken, takes}
use Rattle.move_selectors.specs.Candidates.{Made}
use Rattle.plan_changes.specs.declared.line.Post.{Post}
use Rattle.plan_facts.specs.Schema.{is_name}
use Rattle.plan_json.specs.Domains.{DomainView}
use Rattle.plan_json.specs.Problem.{ProblemView}
use Rattle.plan_ports.specs.Outside.{FailsAt, IsOpened, LaterShelf, ShelfFails, ShelfState, SinkState, SourceState, Wrote, WroteFront}
use Rattle.plan_rules.specs.Meaning.{Meaning}
use Rattle.plan_session.specs.declared.searching.Hands.{Hands}
use Rattle.plan_session.specs.declared.status.Status.{Status}
use Rattle.plan_session.specs.declared.status.Status.TheVariants as status
use Rattle.plan_session.specs.declared.task.Files.{Files}
use Rattle.plan_session.specs.declared.task.Timing.TheVariants as timing
use Rattle.plan_session.specs.Due.{IsDue}
use Rattle.plan_session.specs.DueLive.{IsBegun}
use Rattle.plan_session.specs.Ending.{EndsWhole, Ended, Stands}
use Rattle.plan_session.specs.LiveRuns.{AreFirst, BrokeOff, Drove, FeedFails, IsTooLong, RanLive, bounds_in, live_text}
use Rattle.plan_session.specs.Posed.{posed_in}
use Rattle.plan_session.specs.Replayed.{grounds_of, replay_text}
use Rattle.plan_session.specs.Replaying.{HasProblem, Spans}
use Rattle.plan_session.specs.Run.{Run}
use Rattle.plan_session.specs.Sources.{IsFeedOf}
use Rattle.plan_session.proofs.Bounds.{as_many, in_order_all, live_is_replay, rising_bounds, within_steps}
use Rattle.plan_session.proofs.Naming.{names_its_bounds}
use Rattle.plan_session.proofs.ShelfLaws.{failed_before}
use Rattle.text_journal.specs.Laws.{HaveNames}

-- a source that counted a fault has counted some
some_faults : (before after : ℕ) → (before < after) ⊎ (2 ^ 64 - 1 ≤ after) → 0 < after
some_faults before after (inl rose) = omega (arith, rose)
some_faults before after (inr most) = omega (arith, most)

-- a file that isn't sound was opened at a name that isn't
unsound_name : (name_is file_is : Bool) → (name_is ≡ true → file_is ≡ true) → file_is ≡ false → name_is ≡ false
unsound_name false file_is sound unsound = refl
unsound_name true file_is sound unsound = let is : file_is ≡ true = sound refl in absurd cc

-- a file that failed is given back to a shelf that failed at its name
pub failed_file : (name : List ℕ) (now mid after : ShelfState) (file end : SourceState) → IsOpened name now file → LaterShelf now mid
    → (0 < end.faults → ShelfFails mid after) → FeedFails file end → FailsAt name now after
failed_file name now mid after file end opened lent back failed =
    let up = lent.later in
    record {
      fails = elim (back (some_faults file.faults end.faults failed.fails)) [ inl rose ↦ inl (omega (arith, up, rose)) | inr most ↦ inr most ];
      unsound = unsound_name (now.is_sound name) file.is_sound opened.sound failed.unsound;
    }

-- a front of a text, which was written
record HasWritten (text : List ℕ) (old new : SinkState) : Type 0 where
  front : List ℕ
  is_front : IsPrefix front text
  wrote : Wrote front old new

front_written : (text : List ℕ) (old new : SinkState) (tells : Bool) → old.tells ≡ tells → WroteFront text old new → HasWritten text old new
front_written text old new true is wrote =
    let written = wrote is in
    record {
      front = take written.0 text;
      is_front = (drop written.0 text, take-append-drop written.0 text);
      wrote = λ told. written.2;
    }
front_written text old new false is wrote = record { front = []; is_front = (text, refl); wrote = λ told. absurd cc }

module _ (run : Run) (files : Files) (hands : Hands) (meaning : Meaning) (made : List Made) (domain : DomainView) (problem : ProblemView)
    (ready : HasProblem meaning made domain problem files run) (live : files.timing ≡ timing.Live hands)
    (now after : ShelfState) (spans : Spans run now after) (file : SourceState) (opened : IsOpened files.feed now file) where
  -- what the feed holds that was opened
  feed_told : run.shelf.tells ≡ true → (file.tells ≡ true) × (run.shelf.bytes_of files.feed ≡ Some file.left)
  feed_told told =
      let same = spans.later.same_tells ∙ told in
      (opened.tells same, ap (λ of_name. of_name files.feed) (sym spans.later.same_bytes) ∙ opened.holds same)

  -- the text of the first cuts is that of a run whose boundaries take the first lines of the feed
  is_begun : (cuts : List (Take Post)) → AreFirst (posed_in meaning made domain problem) file cuts
      → IsBegun run files (live_text (grounds_of domain) cuts (posed_in meaning made domain problem))
  is_begun cuts first = record {
    hands = hands;
    domain = domain;
    made = made;
    problem = problem;
    posts = posts_taken cuts;
    bounds = bounds_in cuts;
    live = live;
    reads = ready.reads;
    begins = λ told. let feed = feed_told told in (file.left, feed.1, first.feed feed.0);
    each = as_many cuts;
    rising = rising_bounds cuts first.in_order;
    within = within_steps cuts problem.settings.steps first.in_order first.few;
    says = live_is_replay (grounds_of domain) cuts (posed_in meaning made domain problem) first.in_order
        ∙ ap (λ means. replay_text (grounds_of domain) (posts_taken cuts) (bounds_in cuts) (posed_in means made domain problem)) (sym ready.means);
  }

  -- a front of it stands written where memory was wanting, or the sink failed
  begun_stands : (journal : Option (List (Entry Post))) (old new : SinkState)
      → BrokeOff (grounds_of domain) (posed_in meaning made domain problem) file journal old new → Stands (IsDue run) old new
  begun_stands journal old new broke = inr (record {
    under = status.Memory;
    text = live_text (grounds_of domain) broke.cuts (posed_in meaning made domain problem);
    due = (files, is_begun broke.cuts broke.first);
    wrote = broke.wrote;
  })

  -- where the feed failed, a front of it is due
  ends_lost : (journal : Option (List (Entry Post))) (old new : SinkState)
      → BrokeOff (grounds_of domain) (posed_in meaning made domain problem) file journal old new → FailsAt files.feed now after
      → EndsWhole (IsDue run) old new status.Feed
  ends_lost journal old new broke fails =
      let text = live_text (grounds_of domain) broke.cuts (posed_in meaning made domain problem) in
      let written = front_written text old new old.tells refl broke.wrote in
      record {
        text = written.front;
        due = inr (record {
          files = files;
          whole = text;
          begun = is_begun broke.cuts broke.first;
          front = written.is_front;
          fails = rw spans.left (failed_before run.shelf now after files.feed spans.later fails);
        });
        wrote = written.wrote;
      }

  -- and where it has too many lines or bytes
  ends_endless : (journal : Option (List (Entry Post))) (old new : SinkState)
      → BrokeOff (grounds_of domain) (posed_in meaning made domain problem) file journal old new → IsTooLong file
      → EndsWhole (IsDue run) old new status.FeedTooLong
  ends_endless journal old new broke long =
      let text = live_text (grounds_of domain) broke.cuts (posed_in meaning made domain problem) in
      let written = front_written text old new old.tells refl broke.wrote in
      record {
        text = written.front;
        due = inr (record {
          files = files;
          whole = text;
          begun = is_begun broke.cuts broke.first;
          front = written.is_front;
          overlong = λ told. let feed = feed_told told in (file.left, feed.1, long feed.0);
        });
        wrote = written.wrote;
      }

  module _ (names : HaveNames domain.classes domain.rules) (named : IsTrue (is_name domain.name)) (small : problem.settings.steps < 2 ^ 64) where
    -- the whole text is due, which names the boundaries of its lines
    ends_live : (entries : List (Entry Post)) (old new : SinkState)
        → RanLive (grounds_of domain) (posed_in meaning made domain problem) file entries old new → EndsWhole (IsDue run) old new status.Ok
    ends_live entries old new ran =
        let posed = posed_in meaning made domain problem in
        let cuts = takes entries in
        let order = in_order_all cuts (suc problem.settings.steps) ran.cuts in
        let lines : AreLines (posts_taken cuts) = subst AreLines (sym ran.taken) ran.lines in
        record {
          text = live_text (grounds_of domain) cuts posed;
          due = inr (inr (inr (inr (record {
            files = files;
            hands = hands;
            domain = domain;
            made = made;
            problem = problem;
            posts = posts_taken cuts;
            bounds = bounds_in cuts;
            live = live;
            reads = ready.reads;
            fed = record {
              lines = lines;
              feed = λ told. let feed = feed_told told in
                  (file.left, feed.1, subst (λ posts. IsFeedOf posts file.left) (sym ran.taken) (ran.feed feed.0));
            };
            named = names_its_bounds (grounds_of domain) posed cuts names named small ran.cuts lines;
            says = live_is_replay (grounds_of domain) cuts posed order
                ∙ ap (λ means. replay_text (grounds_of domain) (posts_taken cuts) (bounds_in cuts) (posed_in means made domain problem)) (sym ready.means);
          }))));
          wrote = ran.wrote;
        }

    -- however it ended, what is due was written, or a front of it
    pub live_ended : (journal : Option (List (Entry Post))) (end : SourceState) (old new : SinkState) (result : Status)
        → (FeedFails file end → FailsAt files.feed now after)
        → Drove (grounds_of domain) (posed_in meaning made domain problem) journal file end old new result
        → Ended (IsDue run) old new result
    live_ended journal end old new status.Ok fails drove = inl (ends_live drove.0 old new drove.2)
    live_ended journal end old new status.Memory fails broke = inr (inl (record { is = refl; stands = begun_stands journal old new broke }))
    live_ended journal end old new status.Feed fails broke = inl (ends_lost journal old new broke.0 (fails broke.1))
    live_ended journal end old new status.Write fails broke =
        inr (inr (record { is = refl; fails = broke.1; stands = begun_stands journal old new broke.0 }))
    live_ended journal end old new status.FeedTooLong fails broke = inl (ends_endless journal old new broke.0 broke.1)
    live_ended journal end old new _ fails drove = absurd drove
