-- Inboxes and seats as callers see them, and what a call leaves.
use Rattle.std.specs.Prelude.{◌≡◌, ℕ, ◌<◌, ◌≤◌, List, [], ◌∷◌, ◌++◌, Some, length, slice_get}
use mathlib.Core.List.{IsPrefix}
use Rattle.atomic_table.specs.Seated.{TableId}
use Rattle.change_inbox.specs.declared.entry.Entry.{Entry}
use Rattle.change_inbox.specs.declared.entry.PostAnswer.{PostAnswer}
use Rattle.change_inbox.specs.declared.entry.PostAnswer.TheVariants.{Stored, Full, Shut}
use Rattle.change_inbox.specs.declared.knowledge.Limits.{Limits}
use Rattle.change_inbox.specs.Entries.{by_seat, posts_in, shuts_in}
use Rattle.change_inbox.specs.Books.{post}

-- which inbox it is, and what it has room for
pub record InboxView : Type 0 where
  pub table : TableId
  pub limits : Limits

-- the inbox of a seat, the seat's number, and the beginning of the journal that it has seen
pub record SeatView (T : Type 0) : Type 0 where
  pub inbox : InboxView
  pub number : ℕ
  pub seen : List (Entry T)

-- an inbox has two words and one slot, and it has seats
abbrev pub IsInbox : TableId → Limits → Type 0
IsInbox table limits = (table.words ≡ 2) × (table.slots ≡ 1) × (1 ≤ limits.seats)

module _ {T : Type 0} where
  -- a seat that has seen nothing
  abbrev pub fresh_seat : InboxView → ℕ → SeatView T
  fresh_seat inbox number = record { inbox = inbox; number = number; seen = [] }

  -- so many seats, numbered from 0, which have seen nothing
  abbrev pub AreFresh : InboxView → ℕ → List (SeatView T) → Type 0
  AreFresh inbox count seats =
      (length seats ≡ count) × ((n : ℕ) → n < count → slice_get seats n ≡ Some (fresh_seat inbox n))

  -- the entries of a seat
  abbrev pub own_of : SeatView T → List (Entry T)
  own_of seat = by_seat seat.number seat.seen

  -- the seat that has seen this
  abbrev pub saw : SeatView T → List (Entry T) → SeatView T
  saw seat seen = record seat { seen = seen }

  -- a beginning of the journal that goes on from what the seat has seen, with no new entry of the seat itself
  pub record GoesOn (seat : SeatView T) (found : List (Entry T)) : Type 0 where
    pub later : IsPrefix seat.seen found
    pub same_own : by_seat seat.number found ≡ own_of seat

  -- what a post is answered, by what was found: stored where there is no shut and room for a post, else handed back
  abbrev pub Answers : SeatView T → T → List (Entry T) → PostAnswer T → SeatView T → Type 0
  Answers old body found (Stored number) new =
      (shuts_in found ≡ 0)
      × (length (posts_in found) < old.inbox.limits.posts)
      × (number ≡ length (posts_in (own_of old)))
      × (new ≡ saw old (found ++ post old.number number body ∷ []))
      × (own_of new ≡ own_of old ++ post old.number number body ∷ [])
  Answers old body found (Full back) new =
      (shuts_in found ≡ 0)
      × (length (posts_in found) ≡ old.inbox.limits.posts)
      × (back ≡ body)
      × (new ≡ saw old found)
      × (own_of new ≡ own_of old)
  Answers old body found (Shut back) new =
      (0 < shuts_in found) × (back ≡ body) × (new ≡ saw old found) × (own_of new ≡ own_of old)
