-- The rule when an inbox is opened, and what it tells when it is closed.
use Rattle.std.proofs.Common.{◌≡◌, ◌≢◌, ℕ, zero, suc, ◌+◌, ◌-◌, ◌<◌, ◌≤◌, cond, nat_eq, ◌==◌, List, [], ◌∷◌, ◌++◌, length, get_or, map, Some, slice_get, All, Bool, true, false, true≢false, refl, sym, ap, ◌∙◌, subst, ◌⊎◌, ⊎_elim, inl, inr, length-append, arith}
use Rattle.std.specs.Prelude.{Any}
use Rattle.std.proofs.lemmas.Bool.Decides.{nat_tests}
use mathlib.Core.Option.{some, none, some-ne-none, some-injective}
use mathlib.Core.List.{IsPrefix}
use native.Mathlib.Decide.{ℕ_discrete}
use lib.ListN.{get_elem?}
use Rattle.atomic_table.specs.Seated.{TableId}
use Rattle.atomic_table.specs.Table.{State, Me, opening, Final, Seen}
use Rattle.change_inbox.specs.declared.knowledge.Knowledge.{Knowledge}
use Rattle.change_inbox.specs.declared.knowledge.Member.{Member}
use Rattle.change_inbox.specs.declared.knowledge.Limits.{Limits}
use Rattle.change_inbox.specs.declared.entry.Entry.{Entry}
use Rattle.change_inbox.specs.Entries.{seat_of, by_seat}
use Rattle.change_inbox.specs.Books.{BookView}
use Rattle.change_inbox.specs.Seats.{InboxView, SeatView, own_of}
use Rattle.change_inbox.specs.Law.{member, holders, unseated, holding, at_rest, without_first, first_alone, gathered, opener, total, AllKnow, Fits, IsSeat, IsSettled, Law}
use Rattle.change_inbox.proofs.BySeat.{prefix_none, lawful_none}
use Rattle.change_inbox.proofs.Calls.{shown}
use Rattle.change_inbox.proofs.Views.{total_of_one, total-two}

count_no : (m k : ℕ) → m ≢ k → cond {A = ℕ} (m == k) 1 0 ≡ 0
count_no m k ne = grind (arith, nat_tests)

count_le : (m k : ℕ) → cond {A = ℕ} (m == k) 1 0 ≤ 1
count_le m k = grind (arith, nat_tests)

unseated_below : (T : Type 0) (m k n : ℕ) → m < k → holders m (unseated {T = T} k n) ≡ 0
unseated_below T m k zero lt = refl
unseated_below T m k (suc n) lt = let e = unseated_below T m (k + 1) n (omega arith) in let d = count_no m k (λ e. omega arith) in omega arith

unseated_once : (T : Type 0) (m k n : ℕ) → holders m (unseated {T = T} k n) ≤ 1
unseated_once T m k zero = omega arith
unseated_once T m k (suc n) =
    elim (ℕ_discrete m k) [
      | yes same ↦ (let e = unseated_below T m (k + 1) n (omega arith) in let d = count_le m k in omega arith)
      | no other ↦ (let e = unseated_once T m (k + 1) n in let d = count_no m k other in omega arith)
    ]

unseated_know : (T : Type 0) (limits : Limits) (k n : ℕ) → k + n ≤ limits.seats → AllKnow limits [] (unseated {T = T} k n)
unseated_know T limits k zero le = tt
unseated_know T limits k (suc n) le = (record { low = omega arith; begun = prefix_none []; owned = refl }, unseated_know T limits (k + 1) n (omega arith))

length-unseated : (T : Type 0) (k n : ℕ) → length (unseated {T = T} k n) ≡ n
length-unseated T k zero = refl
length-unseated T k (suc n) = let e = length-unseated T (k + 1) n in omega arith

module _ {T : Type 0} where
  pub begins : (limits : Limits) (book : BookView T) → limits.seats < 4294967296 → book ≡ record { entries = []; limits = limits } → Law limits (opening (0 ∷ 0 ∷ []) (book ∷ []) (opener limits))
  begins limits book few is = record {
    journal = [];
    turn = 0;
    next = 0;
    two = refl;
    ticket_word = refl;
    turn_word = refl;
    waiting = refl;
    parts = omega arith;
    few = few;
    once = (λ m. let o = unseated_once T m 0 limits.seats in omega arith);
    others = (λ m z. refl);
    lawful = lawful_none limits;
    apart = (λ i j v u a b p q e. absurd (idle i v a p));
    each = one;
    home = inl (book, refl, ap (λ b. b.entries) is, ap (λ b. b.limits) is);
  }
    where
      idle : (i : ℕ) (v : Knowledge T) → get_elem? (opener limits ∷ []) i ≡ some v → v.waits ≡ 1 → ⊥
      idle zero v e w = let z : 0 ≡ v.waits = ap (λ (x : Knowledge T). x.waits) (some-injective _ _ e) in absurd (omega arith)
      idle (suc i) v e w = absurd (some-ne-none v (sym e))

      one : (j : ℕ) (v : Knowledge T) → get_elem? (opener limits ∷ []) j ≡ some v → Fits limits [] 0 0 v
      one zero v e = subst (λ (y : Knowledge T). Fits limits [] 0 0 y) (some-injective _ _ e) record {
        known = (λ _. refl);
        part = omega arith;
        one = omega arith;
        reached = (λ q. absurd (omega arith));
        drawn = (λ q. absurd (omega arith));
        shown = prefix_none [];
        members = unseated_know T limits 0 limits.seats (omega arith);
        sized = omega (arith, length-unseated T 0 limits.seats);
        held = (λ q. absurd (true≢false (sym q)));
      }
      one (suc j) v e = absurd (some-ne-none v (sym e))

  no_members : (v : Knowledge T) (m : ℕ) → length v.members ≤ v.parts → v.parts ≡ 0 → holders m v.members ≡ 0
  no_members v m le z = nothing v.members (omega arith)
    where
      nothing : (xs : List (Member T)) → length xs ≡ 0 → holders m xs ≡ 0
      nothing [] e = refl
      nothing (x ∷ xs) e = absurd (omega arith)

  -- whoever has all parts knows the journal of all members
  pub settles : (limits : Limits) (s : State (BookView T) (Knowledge T)) (id : ℕ) (v : Knowledge T) → Law limits s → get_elem? s.views id ≡ some v → v.parts ≡ limits.seats → v.has ≡ false → 0 < v.parts
      → (y : BookView T) × (get_elem? s.homes 0 ≡ some (some y)) × IsSettled limits v.members y.entries × (y.limits ≡ limits)
  settles limits s id v h at all hasnot some_parts =
      let journal = h.journal in
      let alone : (m : ℕ) → total (λ u. holders m u.members) s.views ≡ holders m v.members =
      (λ m. let p = h.parts in total_of_one (λ u. holders m u.members) (λ u. u.parts) s.views id v at (omega arith) (λ j u a z. no_members u m (h.each j u a).sized z)) in
      ⊎_elim
      (λ (t : (y : BookView T) × (s.homes ≡ some y ∷ []) × (y.entries ≡ h.journal) × (y.limits ≡ limits)).
      (t.0, ap (λ l. get_elem? l 0) t.1, record { knows = rw t.2 (h.each id v at).members; others = (λ m z. ap (by_seat m) t.2 ∙ h.others m (alone m ∙ z)) }, t.3))
      (λ (t : (j : ℕ) × (u : Knowledge T) × (get_elem? s.views j ≡ some u) × (u.has ≡ true) × (s.homes ≡ none ∷ [])).
      let f = h.each t.0 t.1 t.2 in
      let waits = (f.held t.3).0 in
      let part = f.part in
      let p = h.parts in
      let ne : id ≢ t.0 = (λ e. true≢false (sym t.3 ∙ (ap (λ (x : Knowledge T). x.has) (some-injective t.1 v (sym t.2 ∙ (ap (λ (k : ℕ). get_elem? s.views k) (sym e) ∙ at))) ∙ hasnot))) in
      let two = total-two (λ u. u.parts) s.views id t.0 v t.1 ne at t.2 in absurd (omega arith))
      h.home

  -- what is taken out of the closed table
  pub taken : (limits : Limits) (id : ℕ) (v : Knowledge T) (ws : List ℕ) (books : List (BookView T)) (book : BookView T) → Final (Seen (Law limits) id v) ws books → get_elem? books 0 ≡ some book
      → v.parts ≡ limits.seats → v.has ≡ false → 0 < v.parts → IsSettled limits v.members book.entries × (book.limits ≡ limits)
  taken limits id v ws books book f at all hasnot some_parts =
      let t = settles limits f.0 id v f.1.0 f.1.1 all hasnot some_parts in
      let same : t.0 ≡ book = some-injective t.0 book (sym (f.4 0 t.0 t.1) ∙ at) in
      subst (λ (b : BookView T). IsSettled limits v.members b.entries × (b.limits ≡ limits)) same (t.2, t.3)

  -- what a seat stands for
  abbrev pub member_of : SeatView T → Member T
  member_of seat = member seat.number seat.seen

  pub members-snoc : (xs : List (SeatView T)) (s : SeatView T) (ms : List (Member T)) → map member_of (xs ++ s ∷ []) ++ ms ≡ map member_of xs ++ member_of s ∷ ms
  members-snoc [] s ms = refl
  members-snoc (x ∷ xs) s ms = ap (λ l. member_of x ∷ l) (members-snoc xs s ms)

  -- a seat holds itself, as one part of its inbox
  pub seat_holds : (t : TableId) (me : Me (BookView T) (Knowledge T)) (number posts : ℕ) (old : SeatView T) (inbox : InboxView) → shown t me number ≡ old → IsSeat me number posts → old.inbox ≡ inbox
      → me ≡ (holding inbox.limits 1 (member_of old ∷ []), [])
  seat_holds t me number posts old inbox view seat own =
      seat.rests
      ∙ (ap (λ (o : SeatView T). (holding o.inbox.limits 1 (member_of o ∷ []), [])) view
      ∙ ap (λ (i : InboxView). (holding i.limits 1 (member_of old ∷ []), [])) own)

  -- whoever takes a seat holds one part more
  pub holds_more : (limits k : Limits) (me other new : Me (BookView T) (Knowledge T)) (x : Member T) → me ≡ (holding limits me.0.parts me.0.members, []) → other ≡ (holding k 1 (x ∷ []), []) → new ≡ (gathered me.0 other.0, me.1)
      → new ≡ (holding limits (me.0.parts + 1) (x ∷ me.0.members), [])
  holds_more limits k me other new x holds seat took =
      took
      ∙ (ap (λ (m : Me (BookView T) (Knowledge T)). (gathered m.0 other.0, m.1)) holds
      ∙ ap (λ (o : Me (BookView T) (Knowledge T)). (gathered (holding limits me.0.parts me.0.members) o.0, [])) seat)

  -- whoever holds some members holds just them
  pub holds_itself : (me : Me (BookView T) (Knowledge T)) (l : Limits) (parts : ℕ) (xs : List (Member T)) → me ≡ (holding l parts xs, []) → me ≡ (holding l me.0.parts me.0.members, [])
  holds_itself me l parts xs is = subst (λ (m : Me (BookView T) (Knowledge T)). m ≡ (holding l m.0.parts m.0.members, [])) (sym is) refl

  -- and so many parts
  pub holds_parts : (me : Me (BookView T) (Knowledge T)) (l : Limits) (parts : ℕ) → me ≡ (holding l me.0.parts me.0.members, []) → me.0.parts ≡ parts → me ≡ (holding l parts me.0.members, [])
  holds_parts me l parts is same = is ∙ ap (λ n. (holding l n me.0.members, [])) same

  -- whoever takes the first of two seats to the last holds both
  pub holds_both : (t : TableId) (me all : Me (BookView T) (Knowledge T)) (number posts : ℕ) (one two : SeatView T) (inbox : InboxView) → shown t me number ≡ two → IsSeat me number posts → two.inbox ≡ inbox
      → all ≡ (holding inbox.limits (me.0.parts + 1) (member_of one ∷ me.0.members), []) → all ≡ (holding inbox.limits 2 (member_of one ∷ member_of two ∷ []), [])
  holds_both t me all number posts one two inbox view seat own took =
      took ∙ ap (λ (m : Me (BookView T) (Knowledge T)). (holding inbox.limits (m.0.parts + 1) (member_of one ∷ m.0.members), [])) (seat_holds t me number posts two inbox view seat own)

  -- what is settled for whoever holds all is settled for these members
  pub settled_for : (limits : Limits) (journal : List (Entry T)) (me : Me (BookView T) (Knowledge T)) (parts : ℕ) (xs : List (Member T)) → me ≡ (holding limits parts xs, []) → IsSettled limits me.0.members journal → IsSettled limits xs journal
  settled_for limits journal me parts xs is settled = subst (λ (ms : List (Member T)). IsSettled limits ms journal) (ap (λ (m : Me (BookView T) (Knowledge T)). m.0.members) is) settled

  pub seats_begun : (limits : Limits) (journal : List (Entry T)) (seats : List (SeatView T)) → AllKnow limits journal (map member_of seats) → All (λ s. IsPrefix s.seen journal) seats
  seats_begun limits journal [] h k d lt = absurd (omega arith)
  seats_begun limits journal (s ∷ ss) h zero d lt = h.0.begun
  seats_begun limits journal (s ∷ ss) h (suc k) d lt = seats_begun limits journal ss h.1 k d (omega arith)

  pub seats_owned : (limits : Limits) (journal : List (Entry T)) (seats : List (SeatView T)) → AllKnow limits journal (map member_of seats) → All (λ s. by_seat s.number journal ≡ own_of s) seats
  seats_owned limits journal [] h k d lt = absurd (omega arith)
  seats_owned limits journal (s ∷ ss) h zero d lt = sym h.0.owned
  seats_owned limits journal (s ∷ ss) h (suc k) d lt = seats_owned limits journal ss h.1 k d (omega arith)

  -- a number with a holder is a seat's
  number_of_seat : (m : ℕ) (seats : List (SeatView T)) → 0 < holders m (map member_of seats) → Any (λ s. s.number ≡ m) seats
  number_of_seat m [] lt = absurd (omega arith)
  number_of_seat m (s ∷ ss) lt =
      elim (ℕ_discrete m s.number) [
        | yes same ↦ (0, s, omega arith, refl, sym same)
        | no other ↦ (let d = count_no m s.number other in let t = number_of_seat m ss (omega arith) in (suc t.0, t.1, (let l = t.2 in omega arith), t.3, t.4))
      ]

  -- an entry stands among those of its seat
  stands : (es : List (Entry T)) (k : ℕ) (d : Entry T) → k < length es → by_seat (seat_of (get_or es k d)) es ≢ []
  stands [] k d lt e = absurd (omega arith)
  stands (x ∷ xs) zero d lt e = none_left (nat_eq (seat_of x) (seat_of x)) x (by_seat (seat_of x) xs) (same_seat (seat_of x)) e
    where
      same_seat : (n : ℕ) → nat_eq n n ≡ true
      same_seat n = grind (arith, nat_tests)

      none_left : (b : Bool) (x : Entry T) (l : List (Entry T)) → b ≡ true → cond b (x ∷ l) l ≡ [] → ⊥
      none_left true x l t e = cc
      none_left false x l t e = true≢false (sym t)
  stands (x ∷ xs) (suc k) d lt e = stands xs k d (omega arith) (rest (nat_eq (seat_of (get_or xs k d)) (seat_of x)) x (by_seat (seat_of (get_or xs k d)) xs) e)
    where
      rest : (b : Bool) (x : Entry T) (l : List (Entry T)) → cond b (x ∷ l) l ≡ [] → l ≡ []
      rest true x l e = absurd (cc)
      rest false x l e = e

  pub seats_all : (limits : Limits) (journal : List (Entry T)) (seats : List (SeatView T)) → IsSettled limits (map member_of seats) journal → All (λ e. Any (λ s. s.number ≡ seat_of e) seats) journal
  seats_all limits journal seats h k d lt =
      number_of_seat (seat_of (get_or journal k d)) seats (some_holder (holders (seat_of (get_or journal k d)) (map member_of seats)) (λ z. stands journal k d lt (h.others (seat_of (get_or journal k d)) z)))
    where
      some_holder : (n : ℕ) → n ≢ 0 → 0 < n
      some_holder n ne = omega arith

  -- a seat of two is the first or the last
  one_of_two : (one two x : SeatView T) (n k : ℕ) → k < 2 → get_or (one ∷ two ∷ []) k x ≡ x → x.number ≡ n → (n ≡ one.number) ⊎ (n ≡ two.number)
  one_of_two one two x n zero lt at is = inl (sym is ∙ ap (λ (s : SeatView T). s.number) (sym at))
  one_of_two one two x n (suc zero) lt at is = inr (sym is ∙ ap (λ (s : SeatView T). s.number) (sym at))
  one_of_two one two x n (suc (suc k)) lt at is = absurd (omega arith)

  -- each entry is of one of two seats
  pub both_all : (limits : Limits) (journal : List (Entry T)) (one two : SeatView T) → IsSettled limits (member_of one ∷ member_of two ∷ []) journal → All (λ e. (seat_of e ≡ one.number) ⊎ (seat_of e ≡ two.number)) journal
  both_all limits journal one two h k d lt =
      let seat = seats_all limits journal (one ∷ two ∷ []) h k d lt in
      one_of_two one two seat.1 (seat_of (get_or journal k d)) seat.0 seat.2 seat.3 seat.4

-- one member is dealt out of those that have none
abbrev pub undealt : Limits → ℕ → (T : Type 0) → Knowledge T
undealt limits number T = holding limits (limits.seats - number) (unseated number (limits.seats - number))

pub some_undealt : (limits : Limits) (number : ℕ) (T : Type 0) → number < limits.seats
    → undealt limits number T ≡ holding limits (limits.seats - number) (member number [] ∷ unseated (number + 1) (limits.seats - (number + 1)))
some_undealt limits number T lt =
    let e : limits.seats - number ≡ suc (limits.seats - (number + 1)) = omega arith in
    ap (λ n. holding limits (limits.seats - number) (unseated number n)) e

pub left_undealt : (limits : Limits) (number : ℕ) (T : Type 0) (v : Knowledge T) → v ≡ undealt limits number T → number < limits.seats → without_first v ≡ undealt limits (number + 1) T
left_undealt limits number T v is lt =
    ap without_first (is ∙ some_undealt limits number T lt) ∙ ap (λ n. holding limits n (unseated (number + 1) (limits.seats - (number + 1)))) (let e : limits.seats - number - 1 ≡ limits.seats - (number + 1) = omega arith in e)

pub dealt : (limits : Limits) (number : ℕ) (T : Type 0) (v : Knowledge T) → v ≡ undealt limits number T → number < limits.seats → first_alone v ≡ at_rest limits number []
dealt limits number T v is lt = ap first_alone (is ∙ some_undealt limits number T lt)

-- the seats in their order, with one more
pub numbered-snoc : {A : Type 0} (f : ℕ → A) (xs : List A) (count : ℕ) → length xs ≡ count → ((n : ℕ) → n < count → slice_get xs n ≡ Some (f n)) → (n : ℕ) → n < count + 1 → slice_get (xs ++ f count ∷ []) n ≡ Some (f n)
numbered-snoc f [] count len each zero lt = ap (λ n. Some (f n)) (sym len)
numbered-snoc f [] count len each (suc n) lt = absurd (omega arith)
numbered-snoc f (x ∷ xs) count len each zero lt = each zero (omega arith)
numbered-snoc f (x ∷ xs) zero len each (suc n) lt = absurd (omega arith)
numbered-snoc f (x ∷ xs) (suc count) len each (suc n) lt = numbered-snoc (λ k. f (suc k)) xs count (omega arith) (λ k l. each (suc k) (omega arith)) n (omega arith)

-- of each member of a list, and of the last
pub front_of_all : {A : Type 0} (P : A → Type 0) (xs : List A) (x : A) → All P (xs ++ x ∷ []) → (k : ℕ) (d : A) → k < length xs → P (get_or xs k d)
front_of_all P [] x h k d lt = absurd (omega arith)
front_of_all P (y ∷ ys) x h zero d lt = h 0 d (omega (arith, length-append ys (x ∷ [])))
front_of_all P (y ∷ ys) x h (suc k) d lt = front_of_all P ys x (λ j e l. h (suc j) e (omega arith)) k d (omega arith)

pub last_of_all : {A : Type 0} (P : A → Type 0) (xs : List A) (x : A) → All P (xs ++ x ∷ []) → P x
last_of_all P [] x h = h 0 x (omega arith)
last_of_all P (y ∷ ys) x h = last_of_all P ys x (λ j e l. h (suc j) e (omega arith))
