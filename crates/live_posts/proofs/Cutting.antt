-- What a cut, a shut and a look leave of what a seat took.
use Rattle.std.proofs.Common.{◌≡◌, ◌∙◌, ◌≤◌, ◌+◌, ℕ, ◌==◌, ◌||◌, List, [], ◌∷◌, ◌++◌, length, drop, sym, ap, append-nil, arith}
use Rattle.std.specs.Prelude.{slice_range}
use Rattle.std.proofs.lemmas.Bool.Decides.{nat_tests}
use Rattle.std.proofs.lemmas.List.{length_push}
use Rattle.std.proofs.lemmas.List.Concat.{flat_map-append}
use Rattle.std.proofs.lemmas.List.Elements.{filter-append}
use Rattle.std.proofs.lemmas.Slice.{between_to_end}
use mathlib.Core.List.{IsPrefix}
use Rattle.change_inbox.specs.declared.entry.Entry.{Entry}
use Rattle.change_inbox.specs.Books.{cut, shut}
use Rattle.change_inbox.specs.Entries.{by_seat, seat_of, posts_in, shuts_in}
use Rattle.change_inbox.specs.Seats.{SeatView, GoesOn, own_of, saw}
use Rattle.change_inbox.proofs.EntryLists.{posts_in-append, shuts_in-append}
use Rattle.live_posts.specs.Cuts.{Take, take_at, takes, posts_taken, is_post, posts_and_own, taken_by, IsCutter}
use Rattle.live_posts.proofs.CutLaws.{cuts_nothing, posts_kept, taken_and_waiting, takes_after-append, takes_stay, waiting_after, waits}

module _ {T : Type 0} where
  -- what was taken stays where the journal goes on with nothing of the seat's own
  pub taken_later : (seat : SeatView T) (found : List (Entry T)) → GoesOn seat found → takes (posts_and_own seat.number found) ≡ taken_by seat
  taken_later seat found goes = takes_stay seat.number seat.seen found goes.later goes.same_own

  -- what the seat hasn't taken of what it found
  abbrev pub untaken : SeatView T → List (Entry T) → List T
  untaken seat found = drop (length (posts_taken (taken_by seat))) (posts_in found)

  own_cut : (m k : ℕ) → posts_and_own {T = T} m (cut m k ∷ []) ≡ cut m k ∷ []
  own_cut m k = grind (arith, nat_tests)

  own_shut : (m : ℕ) → posts_and_own {T = T} m (shut m ∷ []) ≡ shut m ∷ []
  own_shut m = grind (arith, nat_tests)

  -- the seat takes what it hasn't taken
  pub taken_cut : (seat : SeatView T) (found : List (Entry T)) (k : ℕ) → GoesOn seat found
      → takes (posts_and_own seat.number (found ++ cut seat.number k ∷ [])) ≡ taken_by seat ++ take_at k (untaken seat found) ∷ []
  taken_cut seat found k goes =
      let m = seat.number in
      let before = posts_and_own m found in
      let same = taken_later seat found goes in
      ap takes (filter-append (λ (e : Entry T). is_post e || (m == seat_of e)) found (cut m k ∷ []))
      ∙ (ap (λ es. takes (before ++ es)) (own_cut m k)
      ∙ (takes_after-append [] before (cut m k ∷ [])
      ∙ (ap (λ posts. takes before ++ take_at k posts ∷ []) (waits m found)
      ∙ ap (λ cuts. cuts ++ take_at k (drop (length (posts_taken cuts)) (posts_in found)) ∷ []) same)))

  -- then it has taken all
  pub all_taken : (seat : SeatView T) (found : List (Entry T)) (k : ℕ) → GoesOn seat found → posts_taken (taken_by seat ++ take_at k (untaken seat found) ∷ []) ≡ posts_in found
  all_taken seat found k goes =
      let m = seat.number in
      let same = taken_later seat found goes in
      let rest : waiting_after [] (posts_and_own m found) ≡ untaken seat found = waits m found ∙ ap (λ cuts. drop (length (posts_taken cuts)) (posts_in found)) same in
      flat_map-append (λ (t : Take T). t.posts) (taken_by seat) (take_at k (untaken seat found) ∷ [])
      ∙ (ap (λ l. posts_taken (taken_by seat) ++ l) (append-nil (untaken seat found))
      ∙ (ap (λ l. posts_taken (taken_by seat) ++ l) (sym rest)
      ∙ (ap (λ cuts. posts_taken cuts ++ waiting_after [] (posts_and_own m found)) (sym same)
      ∙ (taken_and_waiting [] (posts_and_own m found) ∙ posts_kept m found))))

  -- a shut takes nothing
  pub taken_shut : (seat : SeatView T) (found : List (Entry T)) → GoesOn seat found → takes (posts_and_own seat.number (found ++ shut seat.number ∷ [])) ≡ taken_by seat
  taken_shut seat found goes =
      let m = seat.number in
      let before = posts_and_own m found in
      ap takes (filter-append (λ (e : Entry T). is_post e || (m == seat_of e)) found (shut m ∷ []))
      ∙ (ap (λ es. takes (before ++ es)) (own_shut m)
      ∙ (takes_after-append [] before (shut m ∷ [])
      ∙ (append-nil (takes before)
      ∙ taken_later seat found goes)))

  pub posts_before_cut : (found : List (Entry T)) (m k : ℕ) → posts_in (found ++ cut m k ∷ []) ≡ posts_in found
  posts_before_cut found m k = posts_in-append found (cut m k ∷ []) ∙ append-nil (posts_in found)

  -- what a look from the posts that were taken to the end gives
  pub looked : (seat : SeatView T) (found : List (Entry T)) (k from to : ℕ) → from ≡ length (posts_taken (taken_by seat)) → to ≡ length (posts_in found)
      → slice_range (posts_in (found ++ cut seat.number k ∷ [])) from to ≡ untaken seat found
  looked seat found k from to taken count =
      ap (λ posts. slice_range posts from to) (posts_before_cut found seat.number k)
      ∙ (between_to_end (posts_in found) from to (omega arith)
      ∙ ap (λ n. drop n (posts_in found)) taken)

  -- a seat that cut, and then looked at posts: the seat before, behind the cut, and in the end
  pub record HasCut (old mid new : SeatView T) (k count : ℕ) : Type 0 where
    pub found : List (Entry T)
    pub goes : GoesOn old found
    pub counted : count ≡ length (posts_in found)
    pub cut_is : mid ≡ saw old (found ++ cut old.number k ∷ [])
    pub own : own_of mid ≡ own_of old ++ cut old.number k ∷ []
    pub later : GoesOn mid new.seen
    pub number : new.number ≡ mid.number

  pub own_new : (old mid new : SeatView T) (k count : ℕ) → HasCut old mid new k count → own_of new ≡ own_of old ++ cut old.number k ∷ []
  own_new old mid new k count h = ap (λ n. by_seat n new.seen) h.number ∙ (h.later.same_own ∙ h.own)

  pub taken_new : (old mid new : SeatView T) (k count : ℕ) (h : HasCut old mid new k count) → taken_by new ≡ taken_by old ++ take_at k (untaken old h.found) ∷ []
  taken_new old mid new k count h =
      ap (λ n. takes (posts_and_own n new.seen)) h.number
      ∙ (taken_later mid new.seen h.later
      ∙ (ap (λ s. taken_by s) h.cut_is
      ∙ taken_cut old h.found k h.goes))

  pub all_new : (old mid new : SeatView T) (k count : ℕ) (h : HasCut old mid new k count) → posts_taken (taken_by new) ≡ posts_in h.found
  all_new old mid new k count h = ap (λ cuts. posts_taken cuts) (taken_new old mid new k count h) ∙ all_taken old h.found k h.goes

  -- a cut takes all that the seat had seen
  pub seen_taken : (old mid new : SeatView T) (k count : ℕ) → HasCut old mid new k count → IsPrefix (posts_in old.seen) (posts_taken (taken_by new))
  seen_taken old mid new k count h =
      let more = h.goes.later.0 in
      (posts_in more, sym (posts_in-append old.seen more) ∙ (ap (λ es. posts_in es) h.goes.later.1 ∙ sym (all_new old mid new k count h)))

  -- a seat that posts nothing posts nothing by a cut or a shut
  posts_no_more : (own : List (Entry T)) (m k : ℕ) → length (posts_in own) ≡ 0 → (length (posts_in (own ++ cut m k ∷ [])) ≡ 0) × (length (posts_in (own ++ shut m ∷ [])) ≡ 0)
  posts_no_more own m k none =
      (ap length (posts_in-append own (cut m k ∷ []) ∙ append-nil (posts_in own)) ∙ none, ap length (posts_in-append own (shut m ∷ []) ∙ append-nil (posts_in own)) ∙ none)

  pub cutter_new : (old mid new : SeatView T) (k count taken : ℕ) → HasCut old mid new k count → IsCutter old taken → IsCutter new count
  cutter_new old mid new k count taken h was = record {
    posts_nothing = ap (λ es. length (posts_in es)) (own_new old mid new k count h) ∙ (posts_no_more (own_of old) old.number k was.posts_nothing).0;
    counts = h.counted ∙ sym (ap length (all_new old mid new k count h));
  }

  -- the copies from the posts that were taken up to the cut are what it takes
  pub copies_new : (old mid new : SeatView T) (k count taken : ℕ) (h : HasCut old mid new k count) → IsCutter old taken → slice_range (posts_in mid.seen) taken count ≡ untaken old h.found
  copies_new old mid new k count taken h was =
      ap (λ (s : SeatView T). slice_range (posts_in s.seen) taken count) h.cut_is
      ∙ looked old h.found k taken count was.counts h.counted

  -- as many posts as the cut counts stand before it
  pub count_there : (old mid : SeatView T) (found : List (Entry T)) (k count : ℕ) → count ≡ length (posts_in found) → mid ≡ saw old (found ++ cut old.number k ∷ []) → count ≤ length (posts_in mid.seen)
  count_there old mid found k count counted cut_is =
      let same = ap (λ (s : SeatView T). length (posts_in s.seen)) cut_is ∙ ap length (posts_before_cut found old.number k) in
      omega arith

  -- a cutter that shut the journal
  pub cutter_shut : (old new : SeatView T) (taken : ℕ) (found : List (Entry T)) → GoesOn old found → new ≡ saw old (found ++ shut old.number ∷ []) → own_of new ≡ own_of old ++ shut old.number ∷ [] → IsCutter old taken
      → IsCutter new taken
  cutter_shut old new taken found goes shut_is own was = record {
    posts_nothing = ap (λ es. length (posts_in es)) own ∙ (posts_no_more (own_of old) old.number 0 was.posts_nothing).1;
    counts = was.counts ∙ sym (ap (λ cuts. length (posts_taken cuts)) (ap (λ s. taken_by s) shut_is ∙ taken_shut old found goes));
  }

  -- a seat that has gone on took nothing more
  pub taken_on : (old new : SeatView T) → GoesOn old new.seen → new.number ≡ old.number → taken_by new ≡ taken_by old
  taken_on old new goes number = ap (λ n. takes (posts_and_own n new.seen)) number ∙ taken_later old new.seen goes

  pub own_on : (old new : SeatView T) → GoesOn old new.seen → new.number ≡ old.number → own_of new ≡ own_of old
  own_on old new goes number = ap (λ n. by_seat n new.seen) number ∙ goes.same_own

  pub cutter_on : (old new : SeatView T) (taken : ℕ) → GoesOn old new.seen → new.number ≡ old.number → IsCutter old taken → IsCutter new taken
  cutter_on old new taken goes number was = record {
    posts_nothing = ap (λ es. length (posts_in es)) (own_on old new goes number) ∙ was.posts_nothing;
    counts = was.counts ∙ sym (ap (λ cuts. length (posts_taken cuts)) (taken_on old new goes number));
  }

  -- a seat with no entry of its own took nothing
  pub fresh_cutter : (seat : SeatView T) → own_of seat ≡ [] → IsCutter seat 0
  fresh_cutter seat none = record {
    posts_nothing = ap (λ es. length (posts_in es)) none;
    counts = sym (ap (λ cuts. length (posts_taken cuts)) (cuts_nothing seat.number [] seat.seen none));
  }

  -- a cut is one take more
  pub one_more_cut : (old new : SeatView T) (k : ℕ) (posts : List T) → taken_by new ≡ taken_by old ++ take_at k posts ∷ [] → length (taken_by new) ≡ length (taken_by old) + 1
  one_more_cut old new k posts is = ap length is ∙ length_push (taken_by old) (take_at k posts)

  -- a cut is no shut
  pub no_more_shuts : (old new : SeatView T) (k : ℕ) → own_of new ≡ own_of old ++ cut old.number k ∷ [] → shuts_in (own_of new) ≡ shuts_in (own_of old)
  no_more_shuts old new k is =
      let parts = shuts_in-append (own_of old) (cut old.number k ∷ []) in
      let same = ap (λ es. shuts_in es) is in
      omega arith
