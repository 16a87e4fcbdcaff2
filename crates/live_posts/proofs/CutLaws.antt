-- What cuts take, and what waits behind the last one.
use Rattle.std.proofs.Common.{◌≡◌, ◌∙◌, ℕ, ◌==◌, ◌||◌, cond, List, [], ◌∷◌, ◌++◌, length, drop, Bool, true, false, refl, sym, ap, append_assoc, append-nil, arith}
use Rattle.std.proofs.lemmas.List.{append_cancel_left, drop_at, nil_from_length}
use Rattle.std.proofs.lemmas.List.Elements.{filter-append}
use mathlib.Core.List.{IsPrefix}
use Rattle.change_inbox.specs.declared.entry.Entry.{Entry}
use Rattle.change_inbox.specs.declared.entry.Entry.TheVariants.{Post, Cut, Shut}
use Rattle.change_inbox.specs.Entries.{seat_of, by_seat, posts_in, cuts_in}
use Rattle.change_inbox.proofs.BySeat.{by_seat-append}
use Rattle.live_posts.specs.Cuts.{take_at, takes_after, takes, posts_taken, is_post, posts_and_own}

module _ {T : Type 0} where
  -- what waits behind the last cut, where these posts wait before the entries
  abbrev pub waiting_after : List T → List (Entry T) → List T
  waiting_after waiting [] = waiting
  waiting_after waiting (Post seat number body ∷ es) = waiting_after (waiting ++ body ∷ []) es
  waiting_after waiting (Cut seat boundary ∷ es) = waiting_after [] es
  waiting_after waiting (Shut seat ∷ es) = waiting_after waiting es

  pub takes_after-append : (w : List T) (xs ys : List (Entry T)) → takes_after w (xs ++ ys) ≡ takes_after w xs ++ takes_after (waiting_after w xs) ys
  takes_after-append w [] ys = refl
  takes_after-append w (Post s n b ∷ xs) ys = takes_after-append (w ++ b ∷ []) xs ys
  takes_after-append w (Cut s k ∷ xs) ys = ap (λ l. take_at k w ∷ l) (takes_after-append [] xs ys)
  takes_after-append w (Shut s ∷ xs) ys = takes_after-append w xs ys

  -- what is taken and what waits are all posts, in order
  pub taken_and_waiting : (w : List T) (es : List (Entry T)) → posts_taken (takes_after w es) ++ waiting_after w es ≡ w ++ posts_in es
  taken_and_waiting w [] = sym (append-nil w)
  taken_and_waiting w (Post s n b ∷ es) = taken_and_waiting (w ++ b ∷ []) es ∙ append_assoc w (b ∷ []) (posts_in es)
  taken_and_waiting w (Cut s k ∷ es) = append_assoc w (posts_taken (takes_after [] es)) (waiting_after [] es) ∙ ap (λ l. w ++ l) (taken_and_waiting [] es)
  taken_and_waiting w (Shut s ∷ es) = taken_and_waiting w es

  same_posts : (b : Bool) (s k : ℕ) (es rest : List (Entry T)) → posts_in es ≡ posts_in rest → (posts_in (cond b (Cut s k ∷ es) es) ≡ posts_in rest) × (posts_in (cond b (Shut s ∷ es) es) ≡ posts_in rest)
  same_posts true s k es rest e = (e, e)
  same_posts false s k es rest e = (e, e)

  -- no post is left out
  pub posts_kept : (m : ℕ) (es : List (Entry T)) → posts_in (posts_and_own m es) ≡ posts_in es
  posts_kept m [] = refl
  posts_kept m (Post s n b ∷ es) = ap (λ l. b ∷ l) (posts_kept m es)
  posts_kept m (Cut s k ∷ es) = (same_posts (m == s) s k (posts_and_own m es) es (posts_kept m es)).0
  posts_kept m (Shut s ∷ es) = (same_posts (m == s) s 0 (posts_and_own m es) es (posts_kept m es)).1

  one_more : (b : Bool) (s k : ℕ) (w : List T) (xs ys : List (Entry T)) → length (takes_after w xs) ≡ cuts_in ys → length (takes_after [] xs) ≡ cuts_in ys → length (takes_after w (cond b (Cut s k ∷ xs) xs)) ≡ cuts_in (cond b (Cut s k ∷ ys) ys)
  one_more true s k w xs ys e f = omega arith
  one_more false s k w xs ys e f = e

  no_more : (b : Bool) (s : ℕ) (w : List T) (xs ys : List (Entry T)) → length (takes_after w xs) ≡ cuts_in ys → length (takes_after w (cond b (Shut s ∷ xs) xs)) ≡ cuts_in (cond b (Shut s ∷ ys) ys)
  no_more true s w xs ys e = e
  no_more false s w xs ys e = e

  no_cut : (b : Bool) (s n : ℕ) (p : T) (count : ℕ) (ys : List (Entry T)) → count ≡ cuts_in ys → count ≡ cuts_in (cond b (Post s n p ∷ ys) ys)
  no_cut true s n p count ys e = e
  no_cut false s n p count ys e = e

  -- a seat's cuts are as many as its takes
  pub cuts_counted : (m : ℕ) (w : List T) (es : List (Entry T)) → length (takes_after w (posts_and_own m es)) ≡ cuts_in (by_seat m es)
  cuts_counted m w [] = refl
  cuts_counted m w (Post s n b ∷ es) = no_cut (m == s) s n b _ (by_seat m es) (cuts_counted m (w ++ b ∷ []) es)
  cuts_counted m w (Cut s k ∷ es) = one_more (m == s) s k w (posts_and_own m es) (by_seat m es) (cuts_counted m w es) (cuts_counted m [] es)
  cuts_counted m w (Shut s ∷ es) = no_more (m == s) s w (posts_and_own m es) (by_seat m es) (cuts_counted m w es)

  -- where a seat adds nothing of its own, it cuts nothing more
  pub cuts_nothing : (m : ℕ) (w : List T) (es : List (Entry T)) → by_seat m es ≡ [] → takes_after w (posts_and_own m es) ≡ []
  cuts_nothing m w es none = nil_from_length _ (cuts_counted m w es ∙ ap cuts_in none)

  -- what a seat took stays as it is where the journal goes on with nothing of its own
  pub takes_stay : (m : ℕ) (xs ys : List (Entry T)) → IsPrefix xs ys → by_seat m ys ≡ by_seat m xs → takes (posts_and_own m ys) ≡ takes (posts_and_own m xs)
  takes_stay m xs ys p same =
      let rest = p.0 in
      let none : by_seat m rest ≡ [] = append_cancel_left (by_seat m xs) (by_seat m rest) [] (sym (by_seat-append m xs rest) ∙ (ap (by_seat m) p.1 ∙ (same ∙ sym (append-nil (by_seat m xs))))) in
      ap (λ l. takes (posts_and_own m l)) (sym p.1)
      ∙ (ap takes (filter-append (λ (e : Entry T). is_post e || (m == seat_of e)) xs rest)
      ∙ (takes_after-append [] (posts_and_own m xs) (posts_and_own m rest)
      ∙ (ap (λ l. takes (posts_and_own m xs) ++ l) (cuts_nothing m (waiting_after [] (posts_and_own m xs)) rest none)
      ∙ append-nil (takes (posts_and_own m xs)))))

  -- what waits for a seat is what it hasn't taken
  pub waits : (m : ℕ) (es : List (Entry T)) → waiting_after [] (posts_and_own m es) ≡ drop (length (posts_taken (takes (posts_and_own m es)))) (posts_in es)
  waits m es =
      let all = taken_and_waiting [] (posts_and_own m es) ∙ posts_kept m es in
      sym (drop_at (posts_taken (takes (posts_and_own m es))) (waiting_after [] (posts_and_own m es)) _ refl)
      ∙ ap (λ l. drop (length (posts_taken (takes (posts_and_own m es)))) l) all
