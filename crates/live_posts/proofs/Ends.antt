-- A journal that two seats wrote: the first posts, the second cuts.
use Rattle.std.proofs.Common.{◌≡◌, ◌∙◌, ℕ, ◌+◌, ◌⊎◌, inl, inr, ◌==◌, cond, not, List, [], ◌∷◌, ◌++◌, length, Bool, true, false, refl, sym, ap, subst, append-nil, length-append, arith}
use Rattle.std.specs.Prelude.{All}
use Rattle.std.proofs.lemmas.List.{nil_from_length}
use Rattle.std.proofs.lemmas.List.Elements.{All-head, All-tail}
use mathlib.Core.List.{IsPrefix}
use Rattle.change_inbox.specs.declared.entry.Entry.{Entry}
use Rattle.change_inbox.specs.declared.entry.Entry.TheVariants.{Post, Cut, Shut}
use Rattle.change_inbox.specs.Entries.{seat_of, by_seat, posts_in, cuts_in, shuts_in}
use Rattle.change_inbox.specs.Seats.{SeatView, own_of}
use Rattle.change_inbox.proofs.BySeat.{posts-by_seat-le}
use Rattle.live_posts.specs.Cuts.{Take, take_at, takes_after, takes, posts_taken, posts_and_own, taken_by}
use Rattle.live_posts.specs.Feeding.{entries_of}
use Rattle.live_posts.proofs.CutLaws.{taken_and_waiting, takes_stay, waiting_after}

-- of the two seats it is one
other : (s : ℕ) → (s ≡ 0) ⊎ (s ≡ 1) → (1 == s) ≡ not (0 == s)
other s which = elim which [ inl is ↦ subst (λ m. (1 == m) ≡ not (0 == m)) (sym is) refl | inr is ↦ subst (λ m. (1 == m) ≡ not (0 == m)) (sym is) refl ]

module _ {T : Type 0} where
  -- each entry is of the first or of the second seat
  abbrev pub OfTwo : List (Entry T) → Type 0
  OfTwo es = All (λ e. (seat_of e ≡ 0) ⊎ (seat_of e ≡ 1)) es

  head_of_two : (e : Entry T) (es : List (Entry T)) → OfTwo (e ∷ es) → (seat_of e ≡ 0) ⊎ (seat_of e ≡ 1)
  head_of_two e es two = All-head (λ (x : Entry T). (seat_of x ≡ 0) ⊎ (seat_of x ≡ 1)) e es two

  tail_of_two : (e : Entry T) (es : List (Entry T)) → OfTwo (e ∷ es) → OfTwo es
  tail_of_two e es two = All-tail (λ (x : Entry T). (seat_of x ≡ 0) ⊎ (seat_of x ≡ 1)) e es two

  first_posts : (a b : Bool) (s n : ℕ) (x : T) (one two : List (Entry T)) (posts : List T) → b ≡ not a → length (posts_in (cond b (Post s n x ∷ two) two)) ≡ 0
      → (length (posts_in two) ≡ 0 → posts ≡ posts_in one) → x ∷ posts ≡ posts_in (cond a (Post s n x ∷ one) one)
  first_posts true true s n x one two posts is none rest = absurd (cc)
  first_posts true false s n x one two posts is none rest = ap (λ l. x ∷ l) (rest none)
  first_posts false true s n x one two posts is none rest = absurd (omega arith)
  first_posts false false s n x one two posts is none rest = absurd (cc)

  no_posts : (a b : Bool) (s k : ℕ) (one two : List (Entry T)) (posts : List T) → (length (posts_in two) ≡ 0 → posts ≡ posts_in one)
      → (length (posts_in (cond b (Cut s k ∷ two) two)) ≡ 0 → posts ≡ posts_in (cond a (Cut s k ∷ one) one)) × (length (posts_in (cond b (Shut s ∷ two) two)) ≡ 0 → posts ≡ posts_in (cond a (Shut s ∷ one) one))
  no_posts true true s k one two posts rest = (rest, rest)
  no_posts true false s k one two posts rest = (rest, rest)
  no_posts false true s k one two posts rest = (rest, rest)
  no_posts false false s k one two posts rest = (rest, rest)

  -- where the second seat posts nothing, all posts are the first one's
  pub posts_of_first : (es : List (Entry T)) → OfTwo es → length (posts_in (by_seat 1 es)) ≡ 0 → posts_in es ≡ posts_in (by_seat 0 es)
  posts_of_first [] two none = refl
  posts_of_first (Post s n b ∷ es) two none = first_posts (0 == s) (1 == s) s n b (by_seat 0 es) (by_seat 1 es) (posts_in es) (other s (head_of_two (Post s n b) es two)) none (posts_of_first es (tail_of_two (Post s n b) es two))
  posts_of_first (Cut s k ∷ es) two none = (no_posts (0 == s) (1 == s) s k (by_seat 0 es) (by_seat 1 es) (posts_in es) (posts_of_first es (tail_of_two (Cut s k) es two))).0 none
  posts_of_first (Shut s ∷ es) two none = (no_posts (0 == s) (1 == s) s 0 (by_seat 0 es) (by_seat 1 es) (posts_in es) (posts_of_first es (tail_of_two (Shut s) es two))).1 none

  second_cuts : (a b : Bool) (s k : ℕ) (w : List T) (one two : List (Entry T)) (cuts : List (Take T)) → b ≡ not a → cuts_in (cond a (Cut s k ∷ one) one) ≡ 0
      → (cuts_in one ≡ 0 → takes_after [] two ≡ cuts) → takes_after w (cond b (Cut s k ∷ two) two) ≡ take_at k w ∷ cuts
  second_cuts true b s k w one two cuts is none rest = absurd (omega arith)
  second_cuts false true s k w one two cuts is none rest = ap (λ l. take_at k w ∷ l) (rest none)
  second_cuts false false s k w one two cuts is none rest = absurd (cc)

  shut_takes : (b : Bool) (s : ℕ) (w : List T) (two : List (Entry T)) → takes_after w (cond b (Shut s ∷ two) two) ≡ takes_after w two
  shut_takes true s w two = refl
  shut_takes false s w two = refl

  shut_cuts : (a : Bool) (s : ℕ) (one : List (Entry T)) → cuts_in (cond a (Shut s ∷ one) one) ≡ cuts_in one
  shut_cuts true s one = refl
  shut_cuts false s one = refl

  post_cuts : (a : Bool) (s n : ℕ) (x : T) (one : List (Entry T)) → cuts_in (cond a (Post s n x ∷ one) one) ≡ cuts_in one
  post_cuts true s n x one = refl
  post_cuts false s n x one = refl

  -- where the first seat cuts nothing, all cuts are the second one's
  pub takes_of_second : (w : List T) (es : List (Entry T)) → OfTwo es → cuts_in (by_seat 0 es) ≡ 0 → takes_after w (posts_and_own 1 es) ≡ takes_after w es
  takes_of_second w [] two none = refl
  takes_of_second w (Post s n b ∷ es) two none = takes_of_second (w ++ b ∷ []) es (tail_of_two (Post s n b) es two) (sym (post_cuts (0 == s) s n b (by_seat 0 es)) ∙ none)
  takes_of_second w (Cut s k ∷ es) two none = second_cuts (0 == s) (1 == s) s k w (by_seat 0 es) (posts_and_own 1 es) (takes_after [] es) (other s (head_of_two (Cut s k) es two)) none (takes_of_second [] es (tail_of_two (Cut s k) es two))
  takes_of_second w (Shut s ∷ es) two none = shut_takes (1 == s) s w (posts_and_own 1 es) ∙ takes_of_second w es (tail_of_two (Shut s) es two) (sym (shut_cuts (0 == s) s (by_seat 0 es)) ∙ none)

  second_shuts : (a b : Bool) (s : ℕ) (one two : List (Entry T)) (shuts : ℕ) → b ≡ not a → shuts_in (cond a (Shut s ∷ one) one) ≡ 0
      → (shuts_in one ≡ 0 → shuts ≡ shuts_in two) → 1 + shuts ≡ shuts_in (cond b (Shut s ∷ two) two)
  second_shuts true b s one two shuts is none rest = absurd (omega arith)
  second_shuts false true s one two shuts is none rest = ap (λ n. 1 + n) (rest none)
  second_shuts false false s one two shuts is none rest = absurd (cc)

  post_shuts : (a : Bool) (s n : ℕ) (x : T) (one : List (Entry T)) → shuts_in (cond a (Post s n x ∷ one) one) ≡ shuts_in one
  post_shuts true s n x one = refl
  post_shuts false s n x one = refl

  cut_shuts : (a : Bool) (s k : ℕ) (one : List (Entry T)) → shuts_in (cond a (Cut s k ∷ one) one) ≡ shuts_in one
  cut_shuts true s k one = refl
  cut_shuts false s k one = refl

  -- where the first seat shuts nothing, all shuts are the second one's
  pub shuts_of_second : (es : List (Entry T)) → OfTwo es → shuts_in (by_seat 0 es) ≡ 0 → shuts_in es ≡ shuts_in (by_seat 1 es)
  shuts_of_second [] two none = refl
  shuts_of_second (Post s n b ∷ es) two none = shuts_of_second es (tail_of_two (Post s n b) es two) (sym (post_shuts (0 == s) s n b (by_seat 0 es)) ∙ none) ∙ sym (post_shuts (1 == s) s n b (by_seat 1 es))
  shuts_of_second (Cut s k ∷ es) two none = shuts_of_second es (tail_of_two (Cut s k) es two) (sym (cut_shuts (0 == s) s k (by_seat 0 es)) ∙ none) ∙ sym (cut_shuts (1 == s) s k (by_seat 1 es))
  shuts_of_second (Shut s ∷ es) two none = second_shuts (0 == s) (1 == s) s (by_seat 0 es) (by_seat 1 es) (shuts_in es) (other s (head_of_two (Shut s) es two)) none (shuts_of_second es (tail_of_two (Shut s) es two))

  -- posts as entries are neither cuts nor shuts
  pub entries_only_post : (seat number : ℕ) (posts : List T) → (cuts_in (entries_of seat number posts) ≡ 0) × (shuts_in (entries_of seat number posts) ≡ 0)
  entries_only_post seat number [] = (refl, refl)
  entries_only_post seat number (x ∷ xs) = entries_only_post seat (number + 1) xs

  -- what is known of a journal that was closed, with its two seats
  pub record Closed (one two : SeatView T) (journal : List (Entry T)) : Type 0 where
    pub first : one.number ≡ 0
    pub second : two.number ≡ 1
    pub posts : own_of one ≡ entries_of one.number 0 (posts_in (own_of one))
    pub no_posts : length (posts_in (own_of two)) ≡ 0
    pub seen : IsPrefix one.seen journal × IsPrefix two.seen journal
    pub own : (by_seat one.number journal ≡ own_of one) × (by_seat two.number journal ≡ own_of two)
    pub others : All (λ e. (seat_of e ≡ one.number) ⊎ (seat_of e ≡ two.number)) journal

  pub of_two : (one two : SeatView T) (journal : List (Entry T)) → Closed one two journal → OfTwo journal
  of_two one two journal c = subst (λ n. All (λ e. (seat_of e ≡ 0) ⊎ (seat_of e ≡ n)) journal) c.second (subst (λ n. All (λ e. (seat_of e ≡ n) ⊎ (seat_of e ≡ two.number)) journal) c.first c.others)

  pub own_first : (one two : SeatView T) (journal : List (Entry T)) → Closed one two journal → by_seat 0 journal ≡ own_of one
  own_first one two journal c = ap (λ n. by_seat n journal) (sym c.first) ∙ c.own.0

  pub own_second : (one two : SeatView T) (journal : List (Entry T)) → Closed one two journal → by_seat 1 journal ≡ own_of two
  own_second one two journal c = ap (λ n. by_seat n journal) (sym c.second) ∙ c.own.1

  pub closed_posts : (one two : SeatView T) (journal : List (Entry T)) → Closed one two journal → posts_in journal ≡ posts_in (own_of one)
  closed_posts one two journal c =
      posts_of_first journal (of_two one two journal c) (ap (λ l. length (posts_in l)) (own_second one two journal c) ∙ c.no_posts)
      ∙ ap posts_in (own_first one two journal c)

  pub closed_takes : (one two : SeatView T) (journal : List (Entry T)) → Closed one two journal → takes journal ≡ taken_by two
  closed_takes one two journal c =
      let none : cuts_in (by_seat 0 journal) ≡ 0 = ap cuts_in (own_first one two journal c ∙ c.posts) ∙ (entries_only_post one.number 0 (posts_in (own_of one))).0 in
      let same : by_seat two.number journal ≡ by_seat two.number two.seen = ap (λ n. by_seat n journal) c.second ∙ own_second one two journal c in
      sym (takes_of_second [] journal (of_two one two journal c) none)
      ∙ (ap (λ n. takes (posts_and_own n journal)) (sym c.second)
      ∙ takes_stay two.number two.seen journal c.seen.1 same)

  pub closed_shuts : (one two : SeatView T) (journal : List (Entry T)) → Closed one two journal → shuts_in journal ≡ shuts_in (own_of two)
  closed_shuts one two journal c =
      let none : shuts_in (by_seat 0 journal) ≡ 0 = ap shuts_in (own_first one two journal c ∙ c.posts) ∙ (entries_only_post one.number 0 (posts_in (own_of one))).1 in
      shuts_of_second journal (of_two one two journal c) none ∙ ap shuts_in (own_second one two journal c)

  -- what cuts take are the first posts, each once and in order
  pub taken_first : (journal : List (Entry T)) → IsPrefix (posts_taken (takes journal)) (posts_in journal)
  taken_first journal = (waiting_after [] journal, taken_and_waiting [] journal)

  -- all posts were taken where as many were as the first seat posted
  pub closed_all : (one two : SeatView T) (journal : List (Entry T)) → Closed one two journal → IsPrefix (posts_in one.seen) (posts_taken (taken_by two)) → posts_taken (takes journal) ≡ posts_in journal
  closed_all one two journal c met =
      let taken = posts_taken (takes journal) in
      let rest = waiting_after [] journal in
      let all : taken ++ rest ≡ posts_in journal = taken_and_waiting [] journal in
      let long = length-append taken rest in
      let same : length taken ≡ length (posts_taken (taken_by two)) = ap (λ ts. length (posts_taken ts)) (closed_takes one two journal c) in
      let front = ap length met.1 in
      let more = length-append (posts_in one.seen) met.0 in
      let fewer = posts-by_seat-le one.number one.seen in
      let posts = ap length (closed_posts one two journal c) in
      let whole = ap length all in
      let none : rest ≡ [] = nil_from_length rest (omega arith) in
      sym (append-nil taken) ∙ (ap (λ l. taken ++ l) (sym none) ∙ all)
