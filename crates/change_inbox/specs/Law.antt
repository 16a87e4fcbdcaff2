-- One journal, which seats write in turns: what each knows, the rule over what all of them know, and what a step tells.
use Rattle.std.specs.Prelude.{◌≡◌, ℕ, zero, suc, ◌+◌, ◌-◌, ◌<◌, ◌≤◌, ◌%◌, ◌⊎◌, List, [], ◌∷◌, ◌++◌, length, slice_index, cond, ◌==◌, true, false}
use mathlib.Core.Option.{some, none}
use mathlib.Core.List.{IsPrefix}
use lib.ListN.{get_elem?}
use Rattle.atomic_table.specs.Table.{State, Me, rest}
use Rattle.change_inbox.specs.declared.knowledge.Knowledge.{Knowledge}
use Rattle.change_inbox.specs.declared.knowledge.Member.{Member}
use Rattle.change_inbox.specs.declared.knowledge.Limits.{Limits}
use Rattle.change_inbox.specs.declared.entry.Entry.{Entry}
use Rattle.change_inbox.specs.declared.entry.Entry.TheVariants.{Post, Cut, Shut}
use Rattle.change_inbox.specs.Entries.{seat_of, by_seat, posts_in, cuts_in, shuts_in}
use Rattle.change_inbox.specs.Books.{BookView}

-- a word counts up to this, and then from 0
abbrev pub turnover : ℕ
turnover = 18446744073709551616

abbrev pub no_limits : Limits
no_limits = record { seats = 0; posts = 0; cuts = 0 }

module _ {T : Type 0} where
  abbrev pub member : ℕ → List (Entry T) → Member T
  member number seen = record { number = number; seen = seen }

  -- how many of the members have this number
  abbrev pub holders : ℕ → List (Member T) → ℕ
  holders number [] = 0
  holders number (x ∷ xs) = cond (number == x.number) 1 0 + holders number xs

  -- so many members with numbers from this one on, which have seen nothing
  abbrev pub unseated : ℕ → ℕ → List (Member T)
  unseated number zero = []
  unseated number (suc n) = member number [] ∷ unseated (number + 1) n

  -- the first member's number, and what it has seen
  abbrev pub first_number : List (Member T) → ℕ
  first_number [] = 0
  first_number (x ∷ xs) = x.number

  abbrev pub first_seen : List (Member T) → List (Entry T)
  first_seen [] = []
  first_seen (x ∷ xs) = x.seen

  abbrev pub tail : List (Member T) → List (Member T)
  tail [] = []
  tail (x ∷ xs) = xs

  abbrev pub number_of : Knowledge T → ℕ
  number_of v = first_number v.members

  abbrev pub seen_of : Knowledge T → List (Entry T)
  seen_of v = first_seen v.members

  -- parts of the inbox with their members, with no ticket
  abbrev pub holding : Limits → ℕ → List (Member T) → Knowledge T
  holding limits parts members = record {
    limits = limits;
    parts = parts;
    members = members;
    waits = 0;
    has = false;
    ticket = 0;
    told = [];
  }

  -- a seat between calls
  abbrev pub at_rest : Limits → ℕ → List (Entry T) → Knowledge T
  at_rest limits number seen = holding limits 1 (member number seen ∷ [])

  -- a seat with a ticket, which waits for its turn
  abbrev pub in_line : Limits → ℕ → List (Entry T) → ℕ → Knowledge T
  in_line limits number seen ticket = record (at_rest limits number seen) { waits = 1; ticket = ticket }

  -- a seat in its turn, with the journal
  abbrev pub inside : Limits → ℕ → List (Entry T) → ℕ → Knowledge T
  inside limits number seen ticket = record (in_line limits number seen ticket) { has = true }

  -- before any seat is dealt
  abbrev pub opener : Limits → Knowledge T
  opener limits = holding limits limits.seats (unseated 0 limits.seats)

  -- nothing
  abbrev pub spent : Knowledge T
  spent = holding no_limits 0 []

  -- the first member is dealt to a seat
  abbrev pub without_first : Knowledge T → Knowledge T
  without_first v = holding v.limits (v.parts - 1) (tail v.members)

  abbrev pub first_alone : Knowledge T → Knowledge T
  first_alone v = at_rest v.limits (number_of v) (seen_of v)

  -- a note of what a seat has seen
  abbrev pub note_of : Knowledge T → Knowledge T
  note_of v = record spent { told = seen_of v }

  -- a seat that was told what a note says
  abbrev pub informed : Knowledge T → Knowledge T → Knowledge T
  informed v w = record v { told = w.told }

  -- both together, the second's members first
  abbrev pub gathered : Knowledge T → Knowledge T → Knowledge T
  gathered v w = holding v.limits (v.parts + w.parts) (w.members ++ v.members)

  -- f of each, added up
  abbrev pub total : (Knowledge T → ℕ) → List (Knowledge T) → ℕ
  total f [] = 0
  total f (v ∷ vs) = f v + total f vs

  -- the rule of a journal by itself: all cuts are the last seat's, no seat shuts twice, and no other numbers are used
  pub record IsLawful (limits : Limits) (journal : List (Entry T)) : Type 0 where
    pub cuts : cuts_in journal ≡ cuts_in (by_seat (limits.seats - 1) journal)
    pub shuts : (m : ℕ) → shuts_in (by_seat m journal) ≤ 1
    pub low : (m : ℕ) → limits.seats ≤ m → by_seat m journal ≡ []

  -- what a member has seen begins the journal, and has all the journal's entries under its number
  pub record Knows (limits : Limits) (journal : List (Entry T)) (x : Member T) : Type 0 where
    pub low : x.number < limits.seats
    pub begun : IsPrefix x.seen journal
    pub owned : by_seat x.number x.seen ≡ by_seat x.number journal

  abbrev pub AllKnow : Limits → List (Entry T) → List (Member T) → Type 0
  AllKnow limits journal [] = Unit {0}
  AllKnow limits journal (x ∷ xs) = Knows limits journal x × AllKnow limits journal xs

  -- these members know the journal, and no other numbers have entries in it
  pub record IsSettled (limits : Limits) (members : List (Member T)) (journal : List (Entry T)) : Type 0 where
    pub knows : AllKnow limits journal members
    pub others : (m : ℕ) → holders m members ≡ 0 → by_seat m journal ≡ []

  -- what the rule says of one view, the tickets from turn on and below next being out
  pub record Fits (limits : Limits) (journal : List (Entry T)) (turn next : ℕ) (v : Knowledge T) : Type 0 where
    pub known : 0 < v.parts → v.limits ≡ limits
    pub part : v.waits ≤ v.parts
    pub one : v.waits ≤ 1
    pub reached : v.waits ≡ 1 → turn ≤ v.ticket
    pub drawn : v.waits ≡ 1 → v.ticket < next
    pub shown : IsPrefix v.told journal
    pub members : AllKnow limits journal v.members
    pub sized : length v.members ≤ v.parts
    pub held : v.has ≡ true → (v.waits ≡ 1) × (v.ticket ≡ turn) × (seen_of v ≡ journal)

  -- the journal is in its slot, or out with a seat
  abbrev pub IsHome : Limits → List (Entry T) → State (BookView T) (Knowledge T) → Type 0
  IsHome limits journal s =
      ((y : BookView T) × (s.homes ≡ some y ∷ []) × (y.entries ≡ journal) × (y.limits ≡ limits))
      ⊎ ((j : ℕ) × (v : Knowledge T) × (get_elem? s.views j ≡ some v) × (v.has ≡ true) × (s.homes ≡ none ∷ []))

  -- no two that wait have one ticket
  abbrev pub AreApart : List (Knowledge T) → Type 0
  AreApart views =
      (i j : ℕ) (v u : Knowledge T)
      → get_elem? views i ≡ some v
      → get_elem? views j ≡ some u
      → v.waits ≡ 1
      → u.waits ≡ 1
      → v.ticket ≡ u.ticket
      → i ≡ j

  -- the rule
  pub record Law (limits : Limits) (s : State (BookView T) (Knowledge T)) : Type 0 where
    pub journal : List (Entry T)
    pub turn : ℕ
    pub next : ℕ
    pub two : length s.words ≡ 2
    pub ticket_word : slice_index s.words 0 ≡ next % turnover
    pub turn_word : slice_index s.words 1 ≡ turn % turnover
    pub waiting : next ≡ turn + total (λ v. v.waits) s.views
    pub parts : total (λ v. v.parts) s.views ≡ limits.seats
    pub few : limits.seats < 4294967296
    pub once : (m : ℕ) → total (λ v. holders m v.members) s.views ≤ 1
    pub others : (m : ℕ) → total (λ v. holders m v.members) s.views ≡ 0 → by_seat m journal ≡ []
    pub lawful : IsLawful limits journal
    pub apart : AreApart s.views
    pub each : (j : ℕ) (v : Knowledge T) → get_elem? s.views j ≡ some v → Fits limits journal turn next v
    pub home : IsHome limits journal s

  -- a ticket was drawn
  abbrev pub Drew : Me (BookView T) (Knowledge T) → ℕ → Me (BookView T) (Knowledge T) → Type 0
  Drew before found after =
      (ticket : ℕ)
      × (after ≡ (in_line before.0.limits (number_of before.0) (seen_of before.0) ticket, before.1))
      × (found ≡ ticket % turnover)

  -- the book that a seat finds goes on from what it has seen, with no new entry of its own
  pub record Finds (limits : Limits) (number : ℕ) (seen : List (Entry T)) (book : BookView T) : Type 0 where
    pub later : IsPrefix seen book.entries
    pub same_own : by_seat number book.entries ≡ by_seat number seen
    pub same_limits : book.limits ≡ limits
    pub lawful : IsLawful limits book.entries
    pub low : number < limits.seats

  -- it is the seat's turn, and it has the journal
  abbrev pub Enters : Me (BookView T) (Knowledge T) → Me (BookView T) (Knowledge T) → Type 0
  Enters before after =
      (book : BookView T)
      × (after ≡ (inside before.0.limits (number_of before.0) book.entries before.0.ticket, (0, book) ∷ before.1))
      × Finds before.0.limits (number_of before.0) (seen_of before.0) book

  -- where the turn found is the seat's, it enters, and else nothing changes
  abbrev pub Looked : Me (BookView T) (Knowledge T) → ℕ → Me (BookView T) (Knowledge T) → Type 0
  Looked before found after =
      (found ≡ before.0.ticket % turnover → Enters before after)
      × ((found ≡ before.0.ticket % turnover → ⊥) → after ≡ before)

  abbrev pub carried_entries : List (ℕ × BookView T) → List (Entry T)
  carried_entries [] = []
  carried_entries (x ∷ xs) = x.1.entries

  -- the journal was put back, and the turn given up
  abbrev pub Gave : Me (BookView T) (Knowledge T) → Me (BookView T) (Knowledge T) → Type 0
  Gave before after = after ≡ (at_rest before.0.limits (number_of before.0) (carried_entries before.1), rest before.1)

  -- what a seat with these entries may add: any post, a cut if it is the last seat, a shut if it has none
  abbrev pub May : Limits → List (Entry T) → Entry T → Type 0
  May limits own (Post seat number body) = Unit {0}
  May limits own (Cut seat boundary) = seat + 1 ≡ limits.seats
  May limits own (Shut seat) = shuts_in own ≡ 0

  -- at most one entry was added to what the seat had found, under its number
  abbrev pub Grows : Limits → ℕ → List (Entry T) → BookView T → Type 0
  Grows limits number seen book =
      (book.limits ≡ limits)
      × ((book.entries ≡ seen)
      ⊎ ((e : Entry T) × (book.entries ≡ seen ++ e ∷ []) × (seat_of e ≡ number) × May limits (by_seat number seen) e))

  -- the seat has seen the longer of what it had seen and what it was told, which begins with both, and nothing new of its own
  abbrev pub Compared : Me (BookView T) (Knowledge T) → Me (BookView T) (Knowledge T) → Type 0
  Compared before after =
      (seen : List (Entry T))
      × (after ≡ (at_rest before.0.limits (number_of before.0) seen, before.1))
      × ((seen ≡ seen_of before.0) ⊎ (seen ≡ before.0.told))
      × IsPrefix (seen_of before.0) seen
      × IsPrefix before.0.told seen
      × (by_seat (number_of before.0) seen ≡ by_seat (number_of before.0) (seen_of before.0))

  -- a seat between calls has no slot
  abbrev pub Rests : Me (BookView T) (Knowledge T) → Type 0
  Rests me = me ≡ (at_rest me.0.limits (number_of me.0) (seen_of me.0), [])

  -- in its turn a seat has seen the journal, and holds the slot, which it has emptied
  abbrev pub IsInside : Me (BookView T) (Knowledge T) → ℕ → List (Entry T) → Me (BookView T) (Knowledge T) → Type 0
  IsInside before word seen me =
      (ticket : ℕ) × (blank : BookView T)
      × (me ≡ (inside before.0.limits (number_of before.0) seen ticket, (0, blank) ∷ []))
      × (word ≡ ticket % turnover)

  -- a seat between calls has one part, one member and no slot. It counts its posts, and has seen no more posts than there may be
  pub record IsSeat (me : Me (BookView T) (Knowledge T)) (number posts : ℕ) : Type 0 where
    pub rests : me ≡ (at_rest me.0.limits number (seen_of me.0), [])
    pub counts : posts ≡ length (posts_in (by_seat number (seen_of me.0)))
    pub few : length (posts_in (seen_of me.0)) ≤ me.0.limits.posts
