-- What a call leaves, from what its parts leave.
use Rattle.std.proofs.Common.{◌≡◌, ℕ, ◌+◌, ◌<◌, ◌≤◌, List, [], ◌∷◌, ◌++◌, length, nat_lt, nat_le, false, refl, sym, ap, ◌∙◌, subst, arith}
use Rattle.std.proofs.lemmas.Bool.Decides.{nat_tests}
use mathlib.Core.List.{IsPrefix}
use Rattle.atomic_table.specs.Table.{Me}
use Rattle.change_inbox.specs.declared.knowledge.Knowledge.{Knowledge}
use Rattle.change_inbox.specs.declared.knowledge.Limits.{Limits}
use Rattle.change_inbox.specs.declared.entry.Entry.{Entry}
use Rattle.change_inbox.specs.Entries.{seat_of, by_seat, posts_in, shuts_in}
use Rattle.change_inbox.specs.Books.{BookView}
use Rattle.change_inbox.specs.Seats.{SeatView, own_of, saw, GoesOn}
use Rattle.change_inbox.specs.Law.{at_rest, number_of, seen_of, note_of, informed, Finds, IsInside, IsSeat}
use Rattle.atomic_table.specs.Seated.{TableId}
use Rattle.change_inbox.proofs.BySeat.{prefix_grow, by_seat-own, room_to_shut}
use Rattle.change_inbox.proofs.EntryLists.{length-posts-append}

module _ {T : Type 0} where
  -- a seat after its turn
  pub came_back : (me mid after : Me (BookView T) (Knowledge T)) (number posts word : ℕ) (seen es : List (Entry T)) → IsSeat me number posts → IsInside me word seen mid → after ≡ (at_rest mid.0.limits (number_of mid.0) es, [])
      → after ≡ (at_rest me.0.limits number es, [])
  came_back me mid after number posts word seen es seat inside back =
      let limits : mid.0.limits ≡ me.0.limits = ap (λ m. m.0.limits) inside.2 in
      let same : number_of mid.0 ≡ number = ap (λ m. number_of m.0) inside.2 ∙ ap (λ m. number_of m.0) seat.rests in
      back ∙ (λ i. (at_rest (limits i) (same i) es, []))

  pub seat_saw : (limits : Limits) (after : Me (BookView T) (Knowledge T)) (number posts : ℕ) (es : List (Entry T)) → after ≡ (at_rest limits number es, []) → posts ≡ length (posts_in (by_seat number es)) → length (posts_in es) ≤ limits.posts
      → IsSeat after number posts
  seat_saw limits after number posts es is counts few = subst (λ (m : Me (BookView T) (Knowledge T)). IsSeat m number posts) (sym is) record { rests = refl; counts = counts; few = few }

  -- what a seat was told by a note
  pub was_told : (me after note : Me (BookView T) (Knowledge T)) (l : Limits) (m : ℕ) (seen : List (Entry T)) (u : Knowledge T) → after ≡ (informed me.0 note.0, me.1) → me ≡ (at_rest l m seen, []) → note ≡ (note_of u, [])
      → after ≡ (record (at_rest l m seen) { told = seen_of u }, [])
  was_told me after note l m seen u is rests told = is ∙ (λ i. (informed (rests i).0 (told i).0, (rests i).1))

  -- what is seen of a seat
  abbrev pub shown : TableId → Me (BookView T) (Knowledge T) → ℕ → SeatView T
  shown table me number = record { inbox = record { table = table; limits = me.0.limits }; number = number; seen = seen_of me.0 }

  -- a seat after its turn has seen these entries
  pub seat_view : (t t' : TableId) (me after : Me (BookView T) (Knowledge T)) (number : ℕ) (es new : List (Entry T)) (old : SeatView T) → shown t me number ≡ old → t' ≡ t → after ≡ (at_rest me.0.limits number es, []) → es ≡ new
      → shown t' after number ≡ saw old new
  seat_view t t' me after number es new old view table back same = (λ i. shown (table i) (back i) number) ∙ (ap (λ o. saw o es) view ∙ ap (λ l. saw old l) same)

  -- what a seat found goes on from what it had seen
  pub goes_on : (t : TableId) (me : Me (BookView T) (Knowledge T)) (number posts : ℕ) (book : BookView T) (old : SeatView T) → shown t me number ≡ old → IsSeat me number posts → Finds me.0.limits (number_of me.0) (seen_of me.0) book
      → GoesOn old book.entries
  goes_on t me number posts book old view seat f =
      let same : number_of me.0 ≡ number = ap (λ m. number_of m.0) seat.rests in
      subst (λ (o : SeatView T). GoesOn o book.entries) view record { later = f.later; same_own = subst (λ (n : ℕ). by_seat n book.entries ≡ by_seat n (seen_of me.0)) same f.same_own }

  -- a seat that has not shut the journal finds room to
  pub may_shut : (t : TableId) (me : Me (BookView T) (Knowledge T)) (number posts : ℕ) (book : BookView T) (old : SeatView T) → shown t me number ≡ old → IsSeat me number posts → Finds me.0.limits (number_of me.0) (seen_of me.0) book
      → shuts_in (own_of old) ≡ 0 → shuts_in book.entries < book.limits.seats
  may_shut t me number posts book old view seat f none =
      let same : number_of me.0 ≡ number = ap (λ m. number_of m.0) seat.rests in
      let own : shuts_in (by_seat number (seen_of me.0)) ≡ 0 = ap (λ o. shuts_in (own_of o)) view ∙ none in
      let here : shuts_in (by_seat (number_of me.0) book.entries) ≡ 0 = ap shuts_in f.same_own ∙ (ap (λ n. shuts_in (by_seat n (seen_of me.0))) same ∙ own) in
      let limits = ap (λ l. l.seats) f.same_limits in
      let r = room_to_shut me.0.limits book.entries (number_of me.0) f.lawful f.low here in omega arith

  -- the seat's own posts, after an entry of its own
  pub own_grows : (number : ℕ) (seen es : List (Entry T)) (e : Entry T) → by_seat number es ≡ by_seat number seen → seat_of e ≡ number → by_seat number (es ++ e ∷ []) ≡ by_seat number seen ++ e ∷ []
  own_grows number seen es e own is = subst (λ (n : ℕ). by_seat n es ≡ by_seat n seen → by_seat n (es ++ e ∷ []) ≡ by_seat n seen ++ e ∷ []) is (λ h. by_seat-own es e ∙ ap (λ l. l ++ e ∷ []) h) own

  -- the count of a seat's own posts, after an entry of its own
  pub counts_after : (me : Me (BookView T) (Knowledge T)) (number posts : ℕ) (book : BookView T) (new : List (Entry T)) (e : Entry T) → IsSeat me number posts → Finds me.0.limits (number_of me.0) (seen_of me.0) book
      → new ≡ book.entries ++ e ∷ [] → seat_of e ≡ number → posts + length (posts_in (e ∷ [])) ≡ length (posts_in (by_seat number new))
  counts_after me number posts book new e seat f is mine =
      let same : number_of me.0 ≡ number = ap (λ m. number_of m.0) seat.rests in
      let own : by_seat number book.entries ≡ by_seat number (seen_of me.0) = subst (λ (n : ℕ). by_seat n book.entries ≡ by_seat n (seen_of me.0)) same f.same_own in
      let grows = ap (λ l. length (posts_in (by_seat number l))) is ∙ ap (λ l. length (posts_in l)) (own_grows number (seen_of me.0) book.entries e own mine) in
      let c = seat.counts in
      omega (arith, length-posts-append (by_seat number (seen_of me.0)) (e ∷ []))

  -- the own entries of a seat, after one that goes behind what it found
  pub own_after : (old : SeatView T) (es : List (Entry T)) (e : Entry T) → GoesOn old es → seat_of e ≡ old.number → own_of (saw old (es ++ e ∷ [])) ≡ own_of old ++ e ∷ []
  own_after old es e h is = own_grows old.number old.seen es e h.same_own is

  -- a seat that has seen entries behind what it found has seen no less than before
  pub later_after : (old new : SeatView T) (es more : List (Entry T)) → GoesOn old es → new ≡ saw old (es ++ more) → IsPrefix old.seen new.seen
  later_after old new es more h is = subst (λ (l : List (Entry T)). IsPrefix old.seen l) (sym (ap (λ s. s.seen) is)) (prefix_grow old.seen es more h.later)

-- what the tests of a post say
pub no_shut : (n : ℕ) → false ≡ nat_lt 0 n → n ≡ 0
no_shut n e = grind (arith, nat_tests)

pub not_full : (limit n : ℕ) → false ≡ nat_le limit n → n < limit
not_full limit n e = grind (arith, nat_tests)
