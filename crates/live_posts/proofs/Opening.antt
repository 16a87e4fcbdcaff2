-- The two seats of an inbox that was opened for a run.
use Rattle.std.proofs.Common.{◌≡◌, ◌∙◌, List, [], ◌∷◌, ◌++◌, Some, length, slice_get, sym, ap, arith}
use Rattle.std.proofs.lemmas.List.{length_push, nil_from_length}
use Rattle.change_inbox.specs.Seats.{InboxView, SeatView, AreFresh, fresh_seat}

module _ {T : Type 0} where
  -- two seats are some
  pub some_seats : (inbox : InboxView) (seats : List (SeatView T)) → AreFresh inbox 2 seats → seats ≡ [] → ⊥
  some_seats inbox seats fresh none = let two = fresh.0 in let zero' = ap length none in omega arith

  -- one of two that was taken leaves one
  pub one_left : (inbox : InboxView) (seats rest : List (SeatView T)) (last : SeatView T) → AreFresh inbox 2 seats → seats ≡ rest ++ last ∷ [] → rest ≡ [] → ⊥
  one_left inbox seats rest last fresh is none =
      let two = fresh.0 in
      let all = ap length is in
      let more = length_push rest last in
      let zero' = ap length none in
      omega arith

  -- taken from the end, they are the first and the last
  pub two_fresh : (inbox : InboxView) (seats rest none : List (SeatView T)) (last first : SeatView T) → AreFresh inbox 2 seats → seats ≡ rest ++ last ∷ [] → rest ≡ none ++ first ∷ []
      → (first ≡ fresh_seat inbox 0) × (last ≡ fresh_seat inbox 1)
  two_fresh inbox seats rest none last first fresh is was =
      let two = fresh.0 in
      let all = ap length is in
      let more = length_push rest last in
      let long = ap length was in
      let less = length_push none first in
      let nothing : none ≡ [] = nil_from_length none (omega arith) in
      let both : seats ≡ first ∷ last ∷ [] = is ∙ ap (λ l. l ++ last ∷ []) (was ∙ ap (λ l. l ++ first ∷ []) nothing) in
      let at_first : Some first ≡ Some (fresh_seat inbox 0) = ap (λ l. slice_get l 0) (sym both) ∙ fresh.1 0 (omega arith) in
      let at_last : Some last ≡ Some (fresh_seat inbox 1) = ap (λ l. slice_get l 1) (sym both) ∙ fresh.1 1 (omega arith) in
      (cc at_first, cc at_last)
