-- What all holders of the table know, and what stays where one of them learns.
use Rattle.std.proofs.Common.{◌≡◌, ◌≢◌, ℕ, zero, suc, ◌+◌, ◌<◌, ◌≤◌, ◌%◌, List, [], ◌∷◌, ◌++◌, length, set, true, false, true≢false, refl, sym, ap, ◌∙◌, subst, ⊎_elim, inl, inr, arith}
use Rattle.std.specs.Prelude.{slice_index}
use Rattle.std.proofs.lemmas.Bool.Decides.{nat_tests}
use mathlib.Core.Option.{Option, some, none, some-ne-none, some-injective}
use mathlib.Core.List.{IsPrefix}
use lib.ListN.{get_elem?}
use Rattle.atomic_table.specs.Table.{State}
use Rattle.atomic_table.proofs.Lists.{at_set, at_snoc, set_else}
use Rattle.change_inbox.specs.declared.knowledge.Knowledge.{Knowledge}
use Rattle.change_inbox.specs.declared.knowledge.Member.{Member}
use Rattle.change_inbox.specs.declared.knowledge.Limits.{Limits}
use Rattle.change_inbox.specs.declared.entry.Entry.{Entry}
use Rattle.change_inbox.specs.Entries.{by_seat}
use Rattle.change_inbox.specs.Books.{BookView}
use Rattle.change_inbox.specs.Law.{turnover, holders, first_seen, total, AllKnow, Fits, IsHome, AreApart, Law}
use Rattle.change_inbox.proofs.BySeat.{prefix_none}

module _ {T : Type 0} where
  pub total-set : (f : Knowledge T → ℕ) (views : List (Knowledge T)) (i : ℕ) (v w : Knowledge T) → get_elem? views i ≡ some v → total f (set views i w) + f v ≡ total f views + f w
  total-set f [] i v w at = absurd (some-ne-none v (sym at))
  total-set f (x ∷ xs) zero v w at = let e : f x ≡ f v = ap f (some-injective x v at) in omega arith
  total-set f (x ∷ xs) (suc i) v w at = let e = total-set f xs i v w at in omega arith

  pub total-snoc : (f : Knowledge T → ℕ) (views : List (Knowledge T)) (v : Knowledge T) → total f (views ++ v ∷ []) ≡ total f views + f v
  total-snoc f [] v = omega arith
  total-snoc f (x ∷ xs) v = let e = total-snoc f xs v in omega arith

  pub total-at : (f : Knowledge T → ℕ) (views : List (Knowledge T)) (i : ℕ) (v : Knowledge T) → get_elem? views i ≡ some v → f v ≤ total f views
  total-at f [] i v at = absurd (some-ne-none v (sym at))
  total-at f (x ∷ xs) zero v at = let e : f x ≡ f v = ap f (some-injective x v at) in omega arith
  total-at f (x ∷ xs) (suc i) v at = let e = total-at f xs i v at in omega arith

  -- two views weigh no more than all
  pub total-two : (f : Knowledge T → ℕ) (views : List (Knowledge T)) (i j : ℕ) (v u : Knowledge T) → i ≢ j → get_elem? views i ≡ some v → get_elem? views j ≡ some u → f v + f u ≤ total f views
  total-two f [] i j v u ne at at' = absurd (some-ne-none v (sym at))
  total-two f (x ∷ xs) zero zero v u ne at at' = absurd (ne refl)
  total-two f (x ∷ xs) zero (suc j) v u ne at at' = let e : f x ≡ f v = ap f (some-injective x v at) in let t = total-at f xs j u at' in omega arith
  total-two f (x ∷ xs) (suc i) zero v u ne at at' = let e : f x ≡ f u = ap f (some-injective x u at') in let t = total-at f xs i v at in omega arith
  total-two f (x ∷ xs) (suc i) (suc j) v u ne at at' = let t = total-two f xs i j v u (λ e. ne (ap suc e)) at at' in omega arith

  pub total-le : (f g : Knowledge T → ℕ) (views : List (Knowledge T)) → ((j : ℕ) (v : Knowledge T) → get_elem? views j ≡ some v → f v ≤ g v) → total f views ≤ total g views
  total-le f g [] h = omega arith
  total-le f g (x ∷ xs) h = let e = total-le f g xs (λ j v at. h (suc j) v at) in let t = h 0 x refl in omega arith

  -- where one view has all of g, and views without g have no f, that view has all of f
  pub total_of_one : (f g : Knowledge T → ℕ) (views : List (Knowledge T)) (i : ℕ) (v : Knowledge T) → get_elem? views i ≡ some v → total g views ≤ g v
      → ((j : ℕ) (u : Knowledge T) → get_elem? views j ≡ some u → g u ≡ 0 → f u ≡ 0) → total f views ≡ f v
  total_of_one f g [] i v at le idle = absurd (some-ne-none v (sym at))
  total_of_one f g (x ∷ xs) zero v at le idle =
      let e : g x ≡ g v = ap g (some-injective x v at) in
      let e' : f x ≡ f v = ap f (some-injective x v at) in
      let t = total_of_none f g xs (omega arith) (λ j u a. idle (suc j) u a) in omega arith
    where
      total_of_none : (f g : Knowledge T → ℕ) (views : List (Knowledge T)) → total g views ≡ 0 → ((j : ℕ) (u : Knowledge T) → get_elem? views j ≡ some u → g u ≡ 0 → f u ≡ 0) → total f views ≡ 0
      total_of_none f g [] z h = refl
      total_of_none f g (y ∷ ys) z h = let a = h 0 y refl (omega arith) in let b = total_of_none f g ys (omega arith) (λ j u k. h (suc j) u k) in omega arith
  total_of_one f g (x ∷ xs) (suc i) v at le idle =
      let m = total-at g xs i v at in
      let t = total_of_one f g xs i v at (omega arith) (λ j u a. idle (suc j) u a) in
      let z = idle 0 x refl (omega arith) in omega arith

  pub holders-append : (m : ℕ) (xs ys : List (Member T)) → holders m (xs ++ ys) ≡ holders m xs + holders m ys
  holders-append m [] ys = omega arith
  holders-append m (x ∷ xs) ys = let e = holders-append m xs ys in omega arith

  pub all_know-append : (limits : Limits) (journal : List (Entry T)) (xs ys : List (Member T)) → AllKnow limits journal xs → AllKnow limits journal ys → AllKnow limits journal (xs ++ ys)
  all_know-append limits journal [] ys p q = q
  all_know-append limits journal (x ∷ xs) ys p q = (p.0, all_know-append limits journal xs ys p.1 q)

  -- members know a longer journal too, where nothing new is under their numbers
  pub all_know-grows : (limits : Limits) (journal longer : List (Entry T)) (xs : List (Member T)) → ((seen : List (Entry T)) → IsPrefix seen journal → IsPrefix seen longer)
      → ((m : ℕ) → 0 < holders m xs → by_seat m longer ≡ by_seat m journal) → AllKnow limits journal xs → AllKnow limits longer xs
  all_know-grows limits journal longer [] further same p = tt
  all_know-grows limits journal longer (x ∷ xs) further same p = (
    record { low = p.0.low; begun = further x.seen p.0.begun; owned = p.0.owned ∙ sym (same x.number (here x xs)) },
    all_know-grows limits journal longer xs further (λ m some. same m (omega arith)) p.1,
  )
    where
      here : (x : Member T) (xs : List (Member T)) → 0 < holders x.number (x ∷ xs)
      here x xs = grind (arith, nat_tests)

  pub first_begun : (limits : Limits) (journal : List (Entry T)) (xs : List (Member T)) → AllKnow limits journal xs → IsPrefix (first_seen xs) journal
  first_begun limits journal [] p = prefix_none journal
  first_begun limits journal (x ∷ xs) p = p.0.begun

  -- of the other views, and of the one that changed
  pub others_of : (P : ℕ → Knowledge T → Type 0) (views : List (Knowledge T)) (id : ℕ) (w : Knowledge T) → ((j : ℕ) (u : Knowledge T) → j ≢ id → get_elem? views j ≡ some u → P j u) → P id w → (j : ℕ) (u : Knowledge T)
      → get_elem? (set views id w) j ≡ some u → P j u
  others_of P views id w others mine j u at =
      ⊎_elim
      (λ (t : (j ≡ id) × (w ≡ u)). subst (λ (y : ℕ × Knowledge T). P y.0 y.1) (λ i. (sym t.0 i, t.1 i)) mine)
      (λ (t : (j ≢ id) × (get_elem? views j ≡ some u)). others j u t.0 t.1)
      (at_set views id j w u at)

  -- tickets still differ, where the changed one differs from the others
  pub apart-set : (views : List (Knowledge T)) (id : ℕ) (w : Knowledge T) → AreApart views
      → (w.waits ≡ 1 → (j : ℕ) (u : Knowledge T) → j ≢ id → get_elem? views j ≡ some u → u.waits ≡ 1 → w.ticket ≡ u.ticket → ⊥)
      → AreApart (set views id w)
  apart-set views id w old new i j a b ai bj wa wb same =
      ⊎_elim
      (λ (t : (i ≡ id) × (w ≡ a)). ⊎_elim
      (λ (r : (j ≡ id) × (w ≡ b)). t.0 ∙ sym r.0)
      (λ (r : (j ≢ id) × (get_elem? views j ≡ some b)). absurd (new (ap (λ (x : Knowledge T). x.waits) t.1 ∙ wa) j b r.0 r.1 wb (ap (λ (x : Knowledge T). x.ticket) t.1 ∙ same)))
      (at_set views id j w b bj))
      (λ (t : (i ≢ id) × (get_elem? views i ≡ some a)). ⊎_elim
      (λ (r : (j ≡ id) × (w ≡ b)). absurd (new (ap (λ (x : Knowledge T). x.waits) r.1 ∙ wb) i a t.0 t.1 wa (ap (λ (x : Knowledge T). x.ticket) r.1 ∙ sym same)))
      (λ (r : (j ≢ id) × (get_elem? views j ≡ some b)). old i j a b t.1 r.1 wa wb same)
      (at_set views id j w b bj))
      (at_set views id i w a ai)

  pub apart-snoc : (views : List (Knowledge T)) (n : Knowledge T) → AreApart views → n.waits ≡ 0 → AreApart (views ++ n ∷ [])
  apart-snoc views n old zeroed i j a b ai bj wa wb same =
      ⊎_elim
      (λ (t : get_elem? views i ≡ some a). ⊎_elim (λ (r : get_elem? views j ≡ some b). old i j a b t r wa wb same)
      (λ (r : n ≡ b). let e : n.waits ≡ b.waits = ap (λ (x : Knowledge T). x.waits) r in absurd (omega arith)) (at_snoc views n b j bj))
      (λ (t : n ≡ a). let e : n.waits ≡ a.waits = ap (λ (x : Knowledge T). x.waits) t in absurd (omega arith))
      (at_snoc views n a i ai)

  -- the journal stays where it is, where a view changes that has it not
  pub home-set : (limits : Limits) (journal : List (Entry T)) (s : State (BookView T) (Knowledge T)) (words : List ℕ) (id : ℕ) (v w : Knowledge T) → IsHome limits journal s → get_elem? s.views id ≡ some v → v.has ≡ false
      → IsHome limits journal record { words = words; homes = s.homes; views = set s.views id w }
  home-set limits journal s words id v w home at hasnot =
      ⊎_elim
      (λ (t : (y : BookView T) × (s.homes ≡ some y ∷ []) × (y.entries ≡ journal) × (y.limits ≡ limits)). inl t)
      (λ (t : (j : ℕ) × (u : Knowledge T) × (get_elem? s.views j ≡ some u) × (u.has ≡ true) × (s.homes ≡ none ∷ [])).
      let ne : t.0 ≢ id = (λ e. true≢false (sym t.3 ∙ (ap (λ (x : Knowledge T). x.has) (some-injective t.1 v (sym t.2 ∙ (ap (λ (k : ℕ). get_elem? s.views k) e ∙ at))) ∙ hasnot))) in
      inr (t.0, t.1, set_else s.views id t.0 w ne ∙ t.2, t.3, t.4))
      home

  -- the journal and the turn stay
  pub rebuilt : (limits : Limits) (s : State (BookView T) (Knowledge T)) (h : Law limits s) (r : State (BookView T) (Knowledge T)) (next : ℕ)
      → length r.words ≡ 2 → slice_index r.words 0 ≡ next % turnover → slice_index r.words 1 ≡ slice_index s.words 1
      → next ≡ h.turn + total (λ v. v.waits) r.views → total (λ v. v.parts) r.views ≡ total (λ v. v.parts) s.views
      → ((m : ℕ) → total (λ v. holders m v.members) r.views ≡ total (λ v. holders m v.members) s.views)
      → AreApart r.views → ((j : ℕ) (v : Knowledge T) → get_elem? r.views j ≡ some v → Fits limits h.journal h.turn next v) → IsHome limits h.journal r → Law limits r
  rebuilt limits s h r next two ticket_word turn_word waiting parts same apart each home = record {
    journal = h.journal;
    turn = h.turn;
    next = next;
    two = two;
    ticket_word = ticket_word;
    turn_word = turn_word ∙ h.turn_word;
    waiting = waiting;
    parts = parts ∙ h.parts;
    few = h.few;
    once = (λ m. let k = same m in let o = h.once m in omega arith);
    others = (λ m z. h.others m (sym (same m) ∙ z));
    lawful = h.lawful;
    apart = apart;
    each = each;
    home = home;
  }

  -- one view changes, with its parts and numbers as before; the tickets drawn may grow
  pub changed : (limits : Limits) (s : State (BookView T) (Knowledge T)) (h : Law limits s) (id : ℕ) (v w : Knowledge T) (words : List ℕ) (homes : List (Option (BookView T))) (next : ℕ)
      → get_elem? s.views id ≡ some v → length words ≡ 2 → slice_index words 0 ≡ next % turnover → slice_index words 1 ≡ slice_index s.words 1
      → next + v.waits ≡ h.next + w.waits → h.next ≤ next → w.parts ≡ v.parts → ((m : ℕ) → holders m w.members ≡ holders m v.members)
      → (w.waits ≡ 1 → (j : ℕ) (u : Knowledge T) → j ≢ id → get_elem? s.views j ≡ some u → u.waits ≡ 1 → w.ticket ≡ u.ticket → ⊥)
      → Fits limits h.journal h.turn next w → IsHome limits h.journal record { words = words; homes = homes; views = set s.views id w }
      → Law limits record { words = words; homes = homes; views = set s.views id w }
  changed limits s h id v w words homes next at two ticket_word turn_word waits more parts same new fits home =
      rebuilt limits s h record { words = words; homes = homes; views = set s.views id w } next two ticket_word turn_word
      (let t = total-set (λ u. u.waits) s.views id v w at in let k = h.waiting in omega arith)
      (let t = total-set (λ u. u.parts) s.views id v w at in omega arith)
      (λ m. let t = total-set (λ u. holders m u.members) s.views id v w at in let k = same m in omega arith)
      (apart-set s.views id w h.apart new)
      (others_of (λ j u. Fits limits h.journal h.turn next u) s.views id w
      (λ j u ne a. let f = h.each j u a in
      record { known = f.known; part = f.part; one = f.one; reached = f.reached; drawn = (λ q. let k = f.drawn q in omega arith); shown = f.shown; members = f.members; sized = f.sized; held = f.held })
      fits)
      home
