-- Posts that are looked at one after the other while the journal grows.
use Rattle.std.proofs.Common.{◌≡◌, ◌∙◌, ℕ, zero, suc, ◌+◌, ◌-◌, ◌<◌, ◌≤◌, List, [], ◌∷◌, ◌++◌, Some, None, inl, inr, length, get_or, take, drop, slice_get, refl, sym, ap, subst, append_assoc, append-nil, length-drop, arith}
use Rattle.std.specs.Prelude.{slice_range}
use Rattle.std.proofs.lemmas.List.{get_or-drop, take_more}
use Rattle.std.proofs.lemmas.Option.{get_or_from_slice_get, slice_get_cases}
use mathlib.Core.List.{IsPrefix}
use native.Mathlib.Decide.{dec_le}
use Rattle.change_inbox.specs.declared.entry.Entry.{Entry}
use Rattle.change_inbox.specs.Entries.{by_seat, posts_in}
use Rattle.change_inbox.specs.Seats.{SeatView, GoesOn}
use Rattle.change_inbox.proofs.EntryLists.{posts_in-append}
use Rattle.live_posts.specs.Cuts.{posts_taken, taken_by}

pub prefix_then : {A : Type 0} (xs ys zs : List A) → IsPrefix xs ys → IsPrefix ys zs → IsPrefix xs zs
prefix_then xs ys zs p q = (p.0 ++ q.0, sym (append_assoc xs p.0 q.0) ∙ (ap (λ l. l ++ q.0) p.1 ∙ q.1))

-- what a place of a list has doesn't change behind it
get_front : {A : Type 0} (xs ys : List A) (n : ℕ) → n < length xs → slice_get (xs ++ ys) n ≡ slice_get xs n
get_front [] ys n lt = absurd (omega arith)
get_front (x ∷ xs) ys zero lt = refl
get_front (x ∷ xs) ys (suc n) lt = get_front xs ys n (omega arith)

within : {A : Type 0} (xs : List A) (n : ℕ) (x : A) → slice_get xs n ≡ Some x → n < length xs
within xs n x is = elim (slice_get_cases xs n).1 [ inl there ↦ there.1 | inr past ↦ absurd (cc (past.1, is)) ]

-- a part of a list with one item more
pub range_more_at : {A : Type 0} (xs : List A) (from place : ℕ) (x : A) → from ≤ place → slice_get xs place ≡ Some x → slice_range xs from (place + 1) ≡ slice_range xs from place ++ x ∷ []
range_more_at xs from place x le is =
    let lt = within xs place x is in
    let rest = drop from xs in
    let long = length-drop from xs in
    let i = place - from in
    let inside : i < length rest = omega arith in
    let here : from + i ≡ place = omega arith in
    let item : get_or rest i x ≡ x = get_or-drop from xs i x ∙ (ap (λ n. get_or xs n x) here ∙ get_or_from_slice_get xs place x x is) in
    ap (λ n. take n rest) (let e : place + 1 - from ≡ i + 1 = omega arith in e)
    ∙ (take_more rest i x inside
    ∙ ap (λ y. take i rest ++ y ∷ []) item)

module _ {T : Type 0} where
  -- a post that was seen is what a later look gives
  pub seen_post : (seen later : List (Entry T)) (n : ℕ) → IsPrefix seen later → n < length (posts_in seen) → slice_get (posts_in later) n ≡ slice_get (posts_in seen) n
  seen_post seen later n p lt =
      ap (λ es. slice_get (posts_in es) n) (sym p.1)
      ∙ (ap (λ posts. slice_get posts n) (posts_in-append seen p.0)
      ∙ get_front (posts_in seen) (posts_in p.0) n lt)

  pub goes_nowhere : (seat : SeatView T) → GoesOn seat seat.seen
  goes_nowhere seat = record { later = ([], append-nil seat.seen); same_own = refl }

  -- what goes on twice goes on
  pub goes_then : (old mid : SeatView T) (found : List (Entry T)) → mid.number ≡ old.number → GoesOn old mid.seen → GoesOn mid found → GoesOn old found
  goes_then old mid found number one two = record {
    later = prefix_then old.seen mid.seen found one.later two.later;
    same_own = ap (λ n. by_seat n found) (sym number) ∙ (two.same_own ∙ (ap (λ n. by_seat n mid.seen) number ∙ one.same_own));
  }

-- within a list there is an item
pub not_none : {A : Type 0} (xs : List A) (n : ℕ) → n < length xs → slice_get xs n ≡ None → ⊥
not_none xs n lt none = elim (slice_get_cases xs n).1 [ inl there ↦ cc (there.2, none) | inr past ↦ omega (arith, past.0) ]

-- a loop over places that was left went over as many as there are
pub same_size : (from to place : ℕ) → from ≤ place → to ≤ place → (from ≤ to → place ≤ to) → (to < from → place ≡ from) → place - from ≡ to - from
same_size from to place after past within' empty = elim (dec_le from to) [
  | yes le ↦ (let end = within' le in omega arith)
  | no gt ↦ (let none = empty (omega arith) in omega arith)
]

module _ {T : Type 0} where
  -- where the cutter has met the feeder and cut, it has taken all that the feeder had seen
  pub met_all : (feeder other cutter last : SeatView T) → other ≡ feeder → IsPrefix feeder.seen cutter.seen → IsPrefix (posts_in cutter.seen) (posts_taken (taken_by last)) → IsPrefix (posts_in other.seen) (posts_taken (taken_by last))
  met_all feeder other cutter last same met all =
      let seen : IsPrefix other.seen cutter.seen = subst (λ (s : SeatView T). IsPrefix s.seen cutter.seen) (sym same) met in
      prefix_then (posts_in other.seen) (posts_in cutter.seen) (posts_taken (taken_by last))
      (posts_in seen.0, sym (posts_in-append other.seen seen.0) ∙ ap (λ es. posts_in es) seen.1)
      all
