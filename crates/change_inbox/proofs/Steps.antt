-- Each step keeps the rule.
use Rattle.std.proofs.Common.{◌≡◌, ◌≢◌, ◌⊎◌, ℕ, zero, suc, ◌+◌, ◌<◌, ◌%◌, ◌^◌, List, [], ◌∷◌, ◌++◌, length, set, true, false, true≢false, refl, sym, ap, ◌∙◌, subst, ⊎_elim, inl, inr, arith}
use Rattle.std.specs.Prelude.{slice_index}
use Rattle.std.proofs.lemmas.Bool.Decides.{nat_tests}
use mathlib.Core.Option.{Option, some, none, some-ne-none, some-injective}
use mathlib.Core.List.{IsPrefix}
use native.Mathlib.Decide.{ℕ_discrete, dec_le}
use lib.ListN.{get_elem?}
use Rattle.atomic_table.specs.Table.{State, Me, Act, keeps, takes, gives, Valid, carried_after, stepped, Allows, Splits, Joins}
use Rattle.atomic_table.proofs.Lists.{at_set, at_snoc, at_longer, set_again, one_turn}
use Rattle.change_inbox.specs.declared.knowledge.Knowledge.{Knowledge}
use Rattle.change_inbox.specs.declared.knowledge.Member.{Member}
use Rattle.change_inbox.specs.declared.knowledge.Limits.{Limits}
use Rattle.change_inbox.specs.declared.entry.Entry.{Entry}
use Rattle.change_inbox.specs.Entries.{seat_of, by_seat}
use Rattle.change_inbox.specs.Books.{BookView}
use Rattle.change_inbox.specs.Law.{member, holders, holding, at_rest, in_line, inside, spent, without_first, first_alone, note_of, informed, gathered, total, Fits, IsLawful, Law, Drew, Looked, Gave, May, Grows, Compared}
use Rattle.change_inbox.proofs.BySeat.{prefix_self, prefix_none, prefix_shorter, prefix_grow, by_seat-between, by_seat-other, lawful_grows}
use Rattle.change_inbox.proofs.Views.{total-set, total-snoc, total-at, total-two, total-le, all_know-grows, first_begun, others_of, apart-set, apart-snoc, home-set, rebuilt, changed}

word_set0 : (ws : List ℕ) (a : ℕ) → length ws ≡ 2 → (slice_index (set ws 0 a) 0 ≡ a) × (slice_index (set ws 0 a) 1 ≡ slice_index ws 1) × (length (set ws 0 a) ≡ 2)
word_set0 [] a e = absurd (omega arith)
word_set0 (x ∷ xs) a e = (refl, refl, e)

word_set1 : (ws : List ℕ) (a : ℕ) → length ws ≡ 2 → (slice_index (set ws 1 a) 0 ≡ slice_index ws 0) × (slice_index (set ws 1 a) 1 ≡ a) × (length (set ws 1 a) ≡ 2)
word_set1 [] a e = absurd (omega arith)
word_set1 (x ∷ []) a e = absurd (omega arith)
word_set1 (x ∷ y ∷ ys) a e = (refl, refl, e)

pub mod_suc : (n : ℕ) → (n % 18446744073709551616 + 1) % 18446744073709551616 ≡ (n + 1) % 18446744073709551616
mod_suc n = omega arith

abbrev Table : Type 0 → Type 0
Table T = State (BookView T) (Knowledge T)

words_same : (ws : List ℕ) → length ws ≡ 2 → set ws 1 (slice_index ws 1) ≡ ws
words_same [] e = absurd (omega arith)
words_same (x ∷ []) e = absurd (omega arith)
words_same (x ∷ y ∷ ys) e = refl

module _ {T : Type 0} (limits : Limits) where
  few_waits : (s : Table T) (h : Law limits s) → total (λ v. v.waits) s.views < 4294967296
  few_waits s h = let e = total-le (λ v. v.waits) (λ v. v.parts) s.views (λ j v at. (h.each j v at).part) in let p = h.parts in let q = h.few in omega arith

  -- a ticket is drawn
  pub draws : (slots id : ℕ) (l : Limits) (m : ℕ) (seen : List (Entry T)) → Allows (Law limits) slots id (at_rest l m seen, []) 0 (λ n. (n + 1) % 2 ^ 64) (Drew (at_rest l m seen, []))
  draws slots id l m seen s h len at word =
      let v = at_rest l m seen in
      let w = in_line l m seen h.next in
      let ws = word_set0 s.words ((slice_index s.words 0 + 1) % 2 ^ 64) h.two in
      let mine = h.each id v at in (
        w,
        keeps,
        tt,
        changed limits s h id v w (set s.words 0 ((slice_index s.words 0 + 1) % 2 ^ 64)) s.homes (h.next + 1) at ws.2 (ws.0 ∙ (ap (λ (x : ℕ). (x + 1) % 18446744073709551616) h.ticket_word ∙ mod_suc h.next)) ws.1
            (omega arith) (omega arith) refl (λ k. refl)
            (λ q j u ne a b e. let k = (h.each j u a).drawn b in absurd (omega arith))
            record { known = mine.known; part = omega arith; one = omega arith; reached = (λ q. let k = h.waiting in omega arith); drawn = (λ q. omega arith); shown = mine.shown; members = mine.members; sized = mine.sized; held = (λ e. absurd (true≢false (sym e))) }
            (home-set limits h.journal s (set s.words 0 ((slice_index s.words 0 + 1) % 2 ^ 64)) id v w h.home at refl),
        (h.next, refl, h.ticket_word),
      )

  -- it is the turn of a seat that waits where the turn is its ticket
  is_turn : (s : Table T) (h : Law limits s) (id : ℕ) (v : Knowledge T) → get_elem? s.views id ≡ some v → v.waits ≡ 1 → slice_index s.words 1 ≡ v.ticket % 18446744073709551616 → h.turn ≡ v.ticket
  is_turn s h id v at waits e =
      let mine = h.each id v at in
      let low = mine.reached waits in
      let high = mine.drawn waits in
      let few = few_waits s h in
      let k = h.waiting in
      one_turn h.turn v.ticket 18446744073709551616 low (omega arith) (sym h.turn_word ∙ e)

  abbrev Goes : ℕ → Knowledge T → Table T → Type 0
  Goes id v s = (w : Knowledge T) × (a : Act (BookView T)) × Valid s.homes [] a × Law limits (stepped s 1 (slice_index s.words 1) id [] w a) × Looked (v, []) (slice_index s.words 1) (w, carried_after [] a)

  enters : (id : ℕ) (l : Limits) (m : ℕ) (seen : List (Entry T)) (t : ℕ) (s : Table T) (h : Law limits s) → get_elem? s.views id ≡ some (in_line l m seen t) → slice_index s.words 1 ≡ t % 18446744073709551616
      → (y : BookView T) → s.homes ≡ some y ∷ [] → y.entries ≡ h.journal → y.limits ≡ limits → Goes id (in_line l m seen t) s
  enters id l m seen t s h at e y homes entries same =
      let v = in_line l m seen t in
      let w = inside l m y.entries t in
      let ws = word_set1 s.words (slice_index s.words 1) h.two in
      let mine = h.each id v at in
      let x = mine.members.0 in
      let known = mine.known (omega arith) in
      let turn = is_turn s h id v at refl e in (
        w,
        takes 0 y,
        rw homes refl,
        changed limits s h id v w (set s.words 1 (slice_index s.words 1)) (set s.homes 0 none) h.next at ws.2 (ws.0 ∙ h.ticket_word) ws.1
            refl (omega arith) refl (λ k. refl)
            (λ q j u ne a b e'. absurd (ne (h.apart j id u v a at b refl (sym e'))))
            record {
              known = mine.known;
              part = omega arith;
              one = omega arith;
              reached = (λ q. mine.reached refl);
              drawn = (λ q. mine.drawn refl);
              shown = prefix_none h.journal;
              members = (record { low = x.low; begun = rw entries (prefix_self h.journal); owned = ap (by_seat m) entries }, tt);
              sized = mine.sized;
              held = (λ q. (refl, sym turn, entries));
            }
            (inr (id, w, set_at s.views id v w at, refl, rw homes refl)),
        (
          (λ _. (y, refl, record { later = rw entries x.begun; same_own = ap (by_seat m) entries ∙ sym x.owned; same_limits = same ∙ sym known; lawful = rw (entries, known) h.lawful; low = rw known x.low })),
          (λ no. absurd (no e)),
        ),
      )
    where
      set_at : (views : List (Knowledge T)) (id : ℕ) (v w : Knowledge T) → get_elem? views id ≡ some v → get_elem? (set views id w) id ≡ some w
      set_at [] id v w at = absurd (some-ne-none v (sym at))
      set_at (x ∷ xs) zero v w at = refl
      set_at (x ∷ xs) (suc id) v w at = set_at xs id v w at

  -- a look tells whether it is the seat's turn
  pub looks : (slots id : ℕ) (l : Limits) (m : ℕ) (seen : List (Entry T)) (t : ℕ) → Allows (Law limits) slots id (in_line l m seen t, []) 1 (λ n. n) (Looked (in_line l m seen t, []))
  looks slots id l m seen t s h len at word =
      let v = in_line l m seen t in
      elim (ℕ_discrete (slice_index s.words 1) (t % 18446744073709551616)) as (λ _. Goes id v s) [
        | yes e ↦ ⊎_elim
            (λ (b : (y : BookView T) × (s.homes ≡ some y ∷ []) × (y.entries ≡ h.journal) × (y.limits ≡ limits)). enters id l m seen t s h at e b.0 b.1 b.2 b.3)
            (λ (b : (j : ℕ) × (u : Knowledge T) × (get_elem? s.views j ≡ some u) × (u.has ≡ true) × (s.homes ≡ none ∷ [])).
            let f = (h.each b.0 b.1 b.2).held b.3 in
            let same : id ≡ b.0 = h.apart id b.0 v b.1 at b.2 refl f.0 (sym (is_turn s h id v at refl e) ∙ sym f.1) in
            let is : v ≡ b.1 = some-injective v b.1 (sym at ∙ (ap (λ (k : ℕ). get_elem? s.views k) same ∙ b.2)) in
            absurd (true≢false (sym b.3 ∙ sym (ap (λ (x : Knowledge T). x.has) is))))
            h.home
        | no ne ↦ (v, keeps, tt, rw (words_same s.words h.two, set_again s.views id v at) h, ((λ e. absurd (ne e)), (λ _. refl)))
      ]

  no_holders : (m k : ℕ) (xs : List (Member T)) → holders m xs ≡ 0 → 0 < holders k xs → m ≢ k
  no_holders m k xs zeroed there e = let same : holders m xs ≡ holders k xs = ap (λ x. holders x xs) e in omega arith

  -- what the seat added is under no other number
  grown : (l : Limits) (m : ℕ) (journal : List (Entry T)) (y : BookView T) → Grows l m journal y → (k : ℕ) → k ≢ m → by_seat k y.entries ≡ by_seat k journal
  grown l m journal y g k other =
      ⊎_elim
      (λ (e : y.entries ≡ journal). ap (by_seat k) e)
      (λ (t : (e : Entry T) × (y.entries ≡ journal ++ e ∷ []) × (seat_of e ≡ m) × May l (by_seat m journal) e).
      ap (by_seat k) t.1 ∙ by_seat-other k journal t.0 (λ same. other (same ∙ t.2)))
      g.1

  further : (l : Limits) (m : ℕ) (journal : List (Entry T)) (y : BookView T) → Grows l m journal y → (seen : List (Entry T)) → IsPrefix seen journal → IsPrefix seen y.entries
  further l m journal y g seen p =
      ⊎_elim
      (λ (e : y.entries ≡ journal). rw e p)
      (λ (t : (e : Entry T) × (y.entries ≡ journal ++ e ∷ []) × (seat_of e ≡ m) × May l (by_seat m journal) e). rw t.1 (prefix_grow seen journal (t.0 ∷ []) p))
      g.1

  still_lawful : (m : ℕ) (journal : List (Entry T)) (y : BookView T) → m < limits.seats → IsLawful limits journal → Grows limits m journal y → IsLawful limits y.entries
  still_lawful m journal y low h g =
      ⊎_elim
      (λ (e : y.entries ≡ journal). rw e h)
      (λ (t : (e : Entry T) × (y.entries ≡ journal ++ e ∷ []) × (seat_of e ≡ m) × May limits (by_seat m journal) e).
      rw t.1 (lawful_grows limits journal t.0 h (omega (arith, t.2)) (subst (λ (k : ℕ). May limits (by_seat k journal) t.0) (sym t.2) t.3)))
      g.1

  put_home : (hs : List (Option (BookView T))) (y : BookView T) → length hs ≡ 1 → set hs 0 (some y) ≡ some y ∷ []
  put_home [] y e = absurd (omega arith)
  put_home (h ∷ []) y e = refl
  put_home (h ∷ k ∷ hs) y e = absurd (omega arith)

  -- a number that this one member hasn't is another
  not_mine : (k m : ℕ) (seen : List (Entry T)) → holders k (member m seen ∷ []) ≡ 0 → k ≢ m
  not_mine k m seen z e = differs k m z e
    where
      differs : (k m : ℕ) → holders k (member m seen ∷ []) ≡ 0 → k ≡ m → ⊥
      differs k m z e = grind (arith, nat_tests)

  -- two views have no number together
  numbers_differ : (s : Table T) (h : Law limits s) (id j : ℕ) (v u : Knowledge T) (k : ℕ) → j ≢ id → get_elem? s.views id ≡ some v → get_elem? s.views j ≡ some u → 0 < holders k u.members → holders k v.members ≡ 0
  numbers_differ s h id j v u k ne at a there = let two = total-two (λ x. holders k x.members) s.views id j v u (λ e. ne (sym e)) at a in let o = h.once k in omega arith

  abbrev Returns : Limits → ℕ → ℕ → List (Entry T) → ℕ → BookView T → ℕ → Table T → Type 0
  Returns l id m seen t y new s =
      (w : Knowledge T) × (a : Act (BookView T)) × Valid s.homes ((0, y) ∷ []) a × Law limits (stepped s 1 new id ((0, y) ∷ []) w a)
      × Gave (inside l m seen t, (0, y) ∷ []) (w, carried_after ((0, y) ∷ []) a)

  returns_here : (id m : ℕ) (seen : List (Entry T)) (t : ℕ) (y : BookView T) (new : ℕ) (s : Table T) (h : Law limits s) → length s.homes ≡ 1 → new ≡ (t + 1) % 18446744073709551616
      → Grows limits m seen y → get_elem? s.views id ≡ some (inside limits m seen t) → Returns limits id m seen t y new s
  returns_here id m seen t y new s h len is g at =
      let v = inside limits m seen t in
      let w = at_rest limits m y.entries in
      let ws = word_set1 s.words new h.two in
      let mine = h.each id v at in
      let x = mine.members.0 in
      let held = mine.held refl in
      let turn : t ≡ h.turn = held.1 in
      let grows : Grows limits m h.journal y = subst (λ (j : List (Entry T)). Grows limits m j y) held.2 g in
      let waits = total-at (λ u. u.waits) s.views id v at in (
        w,
        gives,
        tt,
        record {
          journal = y.entries;
          turn = h.turn + 1;
          next = h.next;
          two = ws.2;
          ticket_word = ws.0 ∙ h.ticket_word;
          turn_word = ws.1 ∙ (is ∙ ap (λ (k : ℕ). (k + 1) % 18446744073709551616) turn);
          waiting = (let k = total-set (λ u. u.waits) s.views id v w at in let n = h.waiting in omega arith);
          parts = (let k = total-set (λ u. u.parts) s.views id v w at in let n = h.parts in omega arith);
          few = h.few;
          once = (λ k. let e = total-set (λ u. holders k u.members) s.views id v w at in let o = h.once k in omega arith);
          others = (λ k z. let e = total-set (λ u. holders k u.members) s.views id v w at in
              let mine = total-at (λ u. holders k u.members) s.views id v at in
              grown limits m h.journal y grows k (not_mine k m seen (omega arith)) ∙ h.others k (omega arith));
          lawful = still_lawful m h.journal y x.low h.lawful grows;
          apart = apart-set s.views id w h.apart (λ q. absurd (omega arith));
          each = others_of (λ j u. Fits limits y.entries (h.turn + 1) h.next u) s.views id w
              (λ j u ne a. let f = h.each j u a in
              let late : u.waits ≡ 1 → u.ticket ≡ h.turn → ⊥ = (λ q e. ne (sym (h.apart id j v u at a refl q (turn ∙ sym e)))) in
              record {
                known = f.known;
                part = f.part;
                one = f.one;
                reached = (λ q. let l = f.reached q in let n : u.ticket ≢ h.turn = late q in omega arith);
                drawn = f.drawn;
                shown = further limits m h.journal y grows u.told f.shown;
                members = all_know-grows limits h.journal y.entries u.members (further limits m h.journal y grows) (λ k there. grown limits m h.journal y grows k (not_mine k m seen (numbers_differ s h id j v u k ne at a there))) f.members;
                sized = f.sized;
                held = (λ q. absurd (late (f.held q).0 (f.held q).1));
              })
              record {
                known = (λ q. refl);
                part = omega arith;
                one = omega arith;
                reached = (λ q. absurd (omega arith));
                drawn = (λ q. absurd (omega arith));
                shown = prefix_none y.entries;
                members = (record { low = x.low; begun = prefix_self y.entries; owned = refl }, tt);
                sized = mine.sized;
                held = (λ q. absurd (true≢false (sym q)));
              };
          home = inl (y, put_home s.homes y len, refl, g.0);
        },
        refl,
      )

  -- the journal is put back and the turn given up
  pub gives_up : (slots id : ℕ) (l : Limits) (m : ℕ) (seen : List (Entry T)) (t : ℕ) (y : BookView T) (new : ℕ) → slots ≡ 1 → Grows l m seen y → new ≡ (t + 1) % 18446744073709551616
      → Allows (Law limits) slots id (inside l m seen t, (0, y) ∷ []) 1 (λ _. new) (λ _. Gave (inside l m seen t, (0, y) ∷ []))
  gives_up slots id l m seen t y new one g is s h len at word =
      let known : l ≡ limits = (h.each id (inside l m seen t) at).known (omega arith) in
      subst (λ (k : Limits). Grows k m seen y → get_elem? s.views id ≡ some (inside k m seen t) → Returns k id m seen t y new s) (sym known) (returns_here id m seen t y new s h (len ∙ one) is) g at

  -- a note has seen what its seat has, and nothing else
  pub notes : (id : ℕ) (v : Knowledge T) → Splits (Law limits) id v v (note_of v)
  notes id v s h at =
      let n = note_of v in
      let add = λ (f : Knowledge T → ℕ). total-snoc f s.views n in
      rw (set_again s.views id v at)
      (rebuilt limits s h record { words = s.words; homes = s.homes; views = s.views ++ n ∷ [] } h.next h.two h.ticket_word refl
      (let t = add (λ u. u.waits) in let k = h.waiting in omega arith)
      (let t = add (λ u. u.parts) in omega arith)
      (λ m. let t = add (λ u. holders m u.members) in omega arith)
      (apart-snoc s.views n h.apart refl)
      (λ j u a. ⊎_elim (λ b. h.each j u b) (λ (same : n ≡ u). subst (λ (x : Knowledge T). Fits limits h.journal h.turn h.next x) same
      record { known = (λ q. absurd (omega arith)); part = omega arith; one = omega arith; reached = (λ q. absurd (omega arith)); drawn = (λ q. absurd (omega arith)); shown = first_begun limits h.journal v.members (h.each id v at).members; members = tt; sized = omega arith; held = (λ q. absurd (true≢false (sym q))) })
      (at_snoc s.views n u j a))
      (⊎_elim (λ (t : (y : BookView T) × (s.homes ≡ some y ∷ []) × (y.entries ≡ h.journal) × (y.limits ≡ limits)). inl t)
      (λ (t : (j : ℕ) × (u : Knowledge T) × (get_elem? s.views j ≡ some u) × (u.has ≡ true) × (s.homes ≡ none ∷ [])). inr (t.0, t.1, at_longer s.views (n ∷ []) t.0 t.1 t.2, t.3, t.4)) h.home))

  -- the view that a seat was joined to, and the seat's own before
  was_there : (s : Table T) (id other : ℕ) (both w : Knowledge T) → (other ≡ id → ⊥) → get_elem? (set s.views id both) other ≡ some w → get_elem? s.views other ≡ some w
  was_there s id other both w apart there = ⊎_elim (λ (t : (other ≡ id) × (both ≡ w)). absurd (apart t.0)) (λ (t : (other ≢ id) × (get_elem? s.views other ≡ some w)). t.1) (at_set s.views id other both w there)

  spends : (s : Table T) (h : Law limits s) (other : ℕ) (w : Knowledge T) → get_elem? s.views other ≡ some w → w.parts ≡ 0 → w.members ≡ [] → w.waits ≡ 0 → w.has ≡ false
      → Law limits record { words = s.words; homes = s.homes; views = set s.views other spent }
  spends s h other w at no_parts no_members no_waits hasnot =
      changed limits s h other w spent s.words s.homes h.next at h.two h.ticket_word refl (omega arith) (omega arith) (sym no_parts) (λ k. sym (ap (holders k) no_members)) (λ q. absurd (omega arith))
      record { known = (λ q. absurd (omega arith)); part = omega arith; one = omega arith; reached = (λ q. absurd (omega arith)); drawn = (λ q. absurd (omega arith)); shown = prefix_none h.journal; members = tt; sized = omega arith; held = (λ q. absurd (true≢false (sym q))) }
      (home-set limits h.journal s s.words other w spent h.home at hasnot)

  -- the seat is told what the note has seen
  pub informs : (id : ℕ) (l : Limits) (m : ℕ) (seen : List (Entry T)) (other : ℕ) (u : Knowledge T) → Joins (Law limits) id (at_rest l m seen) other (note_of u) (informed (at_rest l m seen) (note_of u)) spent
  informs id l m seen other u s h at apart there =
      let v = at_rest l m seen in
      let w = note_of u in
      let both = informed v w in
      let mine = h.each id v at in
      let theirs = h.each other w (was_there s id other both w apart there) in
      let first = changed limits s h id v both s.words s.homes h.next at h.two h.ticket_word refl refl (omega arith) refl (λ k. refl) (λ q. absurd (omega arith))
      record { known = mine.known; part = mine.part; one = mine.one; reached = mine.reached; drawn = mine.drawn; shown = theirs.shown; members = mine.members; sized = mine.sized; held = mine.held }
      (home-set limits h.journal s s.words id v both h.home at refl) in
      spends record { words = s.words; homes = s.homes; views = set s.views id both } first other w there refl refl refl refl

  -- a seat that was told something, and that has seen this, knows no less than before
  knows : (id : ℕ) (l : Limits) (m : ℕ) (old told : List (Entry T)) (s : Table T) (h : Law limits s) → get_elem? s.views id ≡ some record (at_rest l m old) { told = told }
      → (seen : List (Entry T)) → IsPrefix seen h.journal → IsPrefix old seen → IsPrefix told seen → (seen ≡ old) ⊎ (seen ≡ told)
      → (w : Knowledge T) × (a : Act (BookView T)) × Valid s.homes [] a × Law limits (stepped s 1 (slice_index s.words 1) id [] w a) × Compared (record (at_rest l m old) { told = told }, []) (w, carried_after [] a)
  knows id l m old told s h at seen begun more more_told which =
      let v = record (at_rest l m old) { told = told } in
      let w = at_rest l m seen in
      let mine = h.each id v at in
      let x = mine.members.0 in
      let ws = word_set1 s.words (slice_index s.words 1) h.two in
      let same : by_seat m seen ≡ by_seat m old = by_seat-between m old seen h.journal more begun x.owned in (
        w,
        keeps,
        tt,
        changed limits s h id v w (set s.words 1 (slice_index s.words 1)) s.homes h.next at ws.2 (ws.0 ∙ h.ticket_word) ws.1 refl (omega arith) refl (λ k. refl) (λ q. absurd (omega arith))
            record { known = mine.known; part = mine.part; one = mine.one; reached = mine.reached; drawn = mine.drawn; shown = prefix_none h.journal; members = (record { low = x.low; begun = begun; owned = same ∙ x.owned }, tt); sized = mine.sized; held = (λ q. absurd (true≢false (sym q))) }
            (home-set limits h.journal s (set s.words 1 (slice_index s.words 1)) id v w h.home at refl),
        (seen, refl, which, more, more_told, same),
      )

  -- of two beginnings of the journal the longer begins with both
  pub compares : (slots id : ℕ) (l : Limits) (m : ℕ) (seen told : List (Entry T)) → Allows (Law limits) slots id (record (at_rest l m seen) { told = told }, []) 1 (λ n. n) (λ _. Compared (record (at_rest l m seen) { told = told }, []))
  compares slots id l m seen told s h len at word =
      let mine = h.each id record (at_rest l m seen) { told = told } at in
      let x = mine.members.0 in
      elim (dec_le (length seen) (length told)) [
        | yes le ↦ knows id l m seen told s h at told mine.shown (prefix_shorter seen told h.journal x.begun mine.shown le) (prefix_self told) (inr refl)
        | no gt ↦ knows id l m seen told s h at seen x.begun (prefix_self seen) (prefix_shorter told seen h.journal mine.shown x.begun (omega arith)) (inl refl)
      ]

  -- the first member gets a seat of its own
  pub deals : (id : ℕ) (l : Limits) (parts : ℕ) (x : Member T) (xs : List (Member T)) → 0 < parts → Splits (Law limits) id (holding l parts (x ∷ xs)) (without_first (holding l parts (x ∷ xs))) (first_alone (holding l parts (x ∷ xs)))
  deals id l parts x xs some_parts s h at =
      let v = holding l parts (x ∷ xs) in
      let left = without_first v in
      let right = first_alone v in
      let mine = h.each id v at in
      let sum = λ (f : Knowledge T → ℕ). total-set f s.views id v left at in
      let add = λ (f : Knowledge T → ℕ). total-snoc f (set s.views id left) right in
      rebuilt limits s h record { words = s.words; homes = s.homes; views = set s.views id left ++ right ∷ [] } h.next h.two h.ticket_word refl
      (let t = sum (λ u. u.waits) in let a = add (λ u. u.waits) in let k = h.waiting in omega arith)
      (let t = sum (λ u. u.parts) in let a = add (λ u. u.parts) in omega arith)
      (λ m. let t = sum (λ u. holders m u.members) in let a = add (λ u. holders m u.members) in omega arith)
      (apart-snoc (set s.views id left) right (apart-set s.views id left h.apart (λ q. absurd (omega arith))) refl)
      (λ j u a. ⊎_elim
      (λ b. others_of (λ j u. Fits limits h.journal h.turn h.next u) s.views id left (λ j u ne c. h.each j u c)
      record { known = (λ q. mine.known some_parts); part = omega arith; one = omega arith; reached = (λ q. absurd (omega arith)); drawn = (λ q. absurd (omega arith)); shown = prefix_none h.journal; members = mine.members.1; sized = (let z = mine.sized in omega arith); held = (λ q. absurd (true≢false (sym q))) } j u b)
      (λ (same : right ≡ u). subst (λ (y : Knowledge T). Fits limits h.journal h.turn h.next y) same
      record { known = (λ q. mine.known some_parts); part = omega arith; one = omega arith; reached = (λ q. absurd (omega arith)); drawn = (λ q. absurd (omega arith)); shown = prefix_none h.journal; members = (mine.members.0, tt); sized = omega arith; held = (λ q. absurd (true≢false (sym q))) })
      (at_snoc (set s.views id left) right u j a))
      (⊎_elim (λ (t : (y : BookView T) × (s.homes ≡ some y ∷ []) × (y.entries ≡ h.journal) × (y.limits ≡ limits)). inl t)
      (λ (t : (j : ℕ) × (u : Knowledge T) × (get_elem? (set s.views id left) j ≡ some u) × (u.has ≡ true) × (s.homes ≡ none ∷ [])). inr (t.0, t.1, at_longer (set s.views id left) (right ∷ []) t.0 t.1 t.2, t.3, t.4))
      (home-set limits h.journal s s.words id v left h.home at refl))

  -- one takes over what a seat knows
  pub gathers : (id : ℕ) (l : Limits) (parts : ℕ) (xs : List (Member T)) (other : ℕ) (k : Limits) (m : ℕ) (seen : List (Entry T)) → 0 < parts
      → Joins (Law limits) id (holding l parts xs) other (at_rest k m seen) (gathered (holding l parts xs) (at_rest k m seen)) spent
  gathers id l parts xs other k m seen some_parts s h at apart there =
      let v = holding l parts xs in
      let w = at_rest k m seen in
      let both = gathered v w in
      let first = set s.views id both in
      let mine = h.each id v at in
      let theirs = h.each other w (was_there s id other both w apart there) in
      let sum = λ (f : Knowledge T → ℕ). total-set f s.views id v both at in
      let take = λ (f : Knowledge T → ℕ). total-set f first other w spent there in
      rebuilt limits s h record { words = s.words; homes = s.homes; views = set first other spent } h.next h.two h.ticket_word refl
      (let t = sum (λ u. u.waits) in let a = take (λ u. u.waits) in let n = h.waiting in omega arith)
      (let t = sum (λ u. u.parts) in let a = take (λ u. u.parts) in omega arith)
      (λ n. let t = sum (λ u. holders n u.members) in let a = take (λ u. holders n u.members) in omega arith)
      (apart-set first other spent (apart-set s.views id both h.apart (λ q. absurd (omega arith))) (λ q. absurd (omega arith)))
      (others_of (λ j u. Fits limits h.journal h.turn h.next u) first other spent
      (λ j u ne a. others_of (λ j u. Fits limits h.journal h.turn h.next u) s.views id both (λ i y ne' b. h.each i y b)
      record { known = (λ q. mine.known some_parts); part = omega arith; one = omega arith; reached = (λ q. absurd (omega arith)); drawn = (λ q. absurd (omega arith)); shown = prefix_none h.journal; members = (theirs.members.0, mine.members); sized = (let z = mine.sized in omega arith); held = (λ q. absurd (true≢false (sym q))) } j u a)
      record { known = (λ q. absurd (omega arith)); part = omega arith; one = omega arith; reached = (λ q. absurd (omega arith)); drawn = (λ q. absurd (omega arith)); shown = prefix_none h.journal; members = tt; sized = omega arith; held = (λ q. absurd (true≢false (sym q))) })
      (home-set limits h.journal record { words = s.words; homes = s.homes; views = first } s.words other w spent (home-set limits h.journal s s.words id v both h.home at refl) there refl)

  -- the same, where a seat is known to be so
  pub draws_at : (slots id : ℕ) (me : Me (BookView T) (Knowledge T)) (l : Limits) (m : ℕ) (seen : List (Entry T)) → me ≡ (at_rest l m seen, []) → Allows (Law limits) slots id me 0 (λ n. (n + 1) % 2 ^ 64) (Drew me)
  draws_at slots id me l m seen is = subst (λ (x : Me (BookView T) (Knowledge T)). Allows (Law limits) slots id x 0 (λ n. (n + 1) % 2 ^ 64) (Drew x)) (sym is) (draws slots id l m seen)

  pub looks_at : (slots id : ℕ) (me : Me (BookView T) (Knowledge T)) (l : Limits) (m : ℕ) (seen : List (Entry T)) (t : ℕ) → me ≡ (in_line l m seen t, []) → Allows (Law limits) slots id me 1 (λ n. n) (Looked me)
  looks_at slots id me l m seen t is = subst (λ (x : Me (BookView T) (Knowledge T)). Allows (Law limits) slots id x 1 (λ n. n) (Looked x)) (sym is) (looks slots id l m seen t)

  pub gives_up_at : (slots id : ℕ) (me : Me (BookView T) (Knowledge T)) (l : Limits) (m : ℕ) (seen : List (Entry T)) (t : ℕ) (y : BookView T) (new : ℕ) → me ≡ (inside l m seen t, (0, y) ∷ []) → slots ≡ 1 → Grows l m seen y
      → new ≡ (t + 1) % 18446744073709551616 → Allows (Law limits) slots id me 1 (λ _. new) (λ _. Gave me)
  gives_up_at slots id me l m seen t y new is one g next = subst (λ (x : Me (BookView T) (Knowledge T)). Allows (Law limits) slots id x 1 (λ _. new) (λ _. Gave x)) (sym is) (gives_up slots id l m seen t y new one g next)

  pub compares_at : (slots id : ℕ) (me : Me (BookView T) (Knowledge T)) (l : Limits) (m : ℕ) (seen told : List (Entry T)) → me ≡ (record (at_rest l m seen) { told = told }, []) → Allows (Law limits) slots id me 1 (λ n. n) (λ _. Compared me)
  compares_at slots id me l m seen told is = subst (λ (x : Me (BookView T) (Knowledge T)). Allows (Law limits) slots id x 1 (λ n. n) (λ _. Compared x)) (sym is) (compares slots id l m seen told)

  pub informs_at : (id : ℕ) (v : Knowledge T) (l : Limits) (m : ℕ) (seen : List (Entry T)) (other : ℕ) (w u : Knowledge T) → v ≡ at_rest l m seen → w ≡ note_of u → Joins (Law limits) id v other w (informed v w) spent
  informs_at id v l m seen other w u is note = subst (λ (p : Knowledge T × Knowledge T). Joins (Law limits) id p.0 other p.1 (informed p.0 p.1) spent) (λ i. (sym is i, sym note i)) (informs id l m seen other u)

  pub deals_at : (id : ℕ) (v : Knowledge T) (l : Limits) (parts : ℕ) (x : Member T) (xs : List (Member T)) → v ≡ holding l parts (x ∷ xs) → 0 < parts → Splits (Law limits) id v (without_first v) (first_alone v)
  deals_at id v l parts x xs is some_parts = subst (λ (y : Knowledge T). Splits (Law limits) id y (without_first y) (first_alone y)) (sym is) (deals id l parts x xs some_parts)

  pub gathers_at : (id : ℕ) (v : Knowledge T) (l : Limits) (parts : ℕ) (xs : List (Member T)) (other : ℕ) (w : Knowledge T) (k : Limits) (m : ℕ) (seen : List (Entry T)) → v ≡ holding l parts xs → w ≡ at_rest k m seen → 0 < parts
      → Joins (Law limits) id v other w (gathered v w) spent
  gathers_at id v l parts xs other w k m seen is seat some_parts = subst (λ (p : Knowledge T × Knowledge T). Joins (Law limits) id p.0 other p.1 (gathered p.0 p.1) spent) (λ i. (sym is i, sym seat i)) (gathers id l parts xs other k m seen some_parts)
