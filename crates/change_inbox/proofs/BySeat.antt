-- The entries of one seat, and what a lawful journal may gain.
use Rattle.std.proofs.Common.{◌≡◌, ◌≢◌, ℕ, zero, suc, ◌+◌, ◌-◌, ◌<◌, ◌≤◌, cond, nat_eq, nat_lt, List, [], ◌∷◌, ◌++◌, length, Bool, true, false, refl, sym, ap, ◌∙◌, append_assoc, append-nil, length-append, arith}
use Rattle.std.proofs.lemmas.Bool.Decides.{nat_tests}
use mathlib.Core.List.{IsPrefix}
use native.Mathlib.Decide.{ℕ_discrete, dec_le}
use Rattle.change_inbox.specs.declared.entry.Entry.{Entry}
use Rattle.change_inbox.specs.declared.entry.Entry.TheVariants.{Post, Cut, Shut}
use Rattle.change_inbox.specs.declared.knowledge.Limits.{Limits}
use Rattle.change_inbox.specs.Entries.{seat_of, by_seat, posts_in, cuts_in, shuts_in}
use Rattle.change_inbox.specs.Law.{IsLawful, May}
use Rattle.change_inbox.proofs.EntryLists.{cuts_in-append, shuts_in-append}

pub prefix_self : {A : Type 0} (xs : List A) → IsPrefix xs xs
prefix_self xs = ([], append-nil xs)

pub prefix_none : {A : Type 0} (xs : List A) → IsPrefix [] xs
prefix_none xs = (xs, refl)

-- of two beginnings of one list the shorter begins the longer
pub prefix_shorter : {A : Type 0} (xs ys zs : List A) → IsPrefix xs zs → IsPrefix ys zs → length xs ≤ length ys → IsPrefix xs ys
prefix_shorter [] ys zs p q le = (ys, refl)
prefix_shorter (x ∷ xs) [] zs p q le = absurd (omega arith)
prefix_shorter (x ∷ xs) (y ∷ ys) [] p q le = absurd (cc (p.1))
prefix_shorter (x ∷ xs) (y ∷ ys) (z ∷ zs) p q le =
    let heads : x ≡ y = cc (p.1, q.1) in
    let rest = prefix_shorter xs ys zs (p.0, cc (p.1)) (q.0, cc (q.1)) (omega arith) in
    (rest.0, cc (heads, rest.1))

pub prefix_grow : {A : Type 0} (xs ys zs : List A) → IsPrefix xs ys → IsPrefix xs (ys ++ zs)
prefix_grow xs ys zs p = (p.0 ++ zs, sym (append_assoc xs p.0 zs) ∙ ap (λ w. w ++ zs) p.1)

module _ {T : Type 0} where
  keep_step : (b : Bool) (x : Entry T) (l k m : List (Entry T)) → l ≡ k ++ m → cond b (x ∷ l) l ≡ cond b (x ∷ k) k ++ m
  keep_step true x l k m h = ap (λ y. x ∷ y) h
  keep_step false x l k m h = h

  pub by_seat-append : (m : ℕ) (xs ys : List (Entry T)) → by_seat m (xs ++ ys) ≡ by_seat m xs ++ by_seat m ys
  by_seat-append m [] ys = refl
  by_seat-append m (x ∷ xs) ys = keep_step (nat_eq m (seat_of x)) x (by_seat m (xs ++ ys)) (by_seat m xs) (by_seat m ys) (by_seat-append m xs ys)

  nothing : (l : List (Entry T)) → length l ≡ 0 → l ≡ []
  nothing [] e = refl
  nothing (x ∷ l) e = absurd (omega arith)

  -- what lies between has nothing new where the whole has nothing new
  pub by_seat-between : (m : ℕ) (xs ys zs : List (Entry T)) → IsPrefix xs ys → IsPrefix ys zs → by_seat m xs ≡ by_seat m zs → by_seat m ys ≡ by_seat m xs
  by_seat-between m xs ys zs p q e =
      let a = ap length (by_seat-append m xs p.0) ∙ length-append (by_seat m xs) (by_seat m p.0) in
      let b = ap length (by_seat-append m ys q.0) ∙ length-append (by_seat m ys) (by_seat m q.0) in
      let c : length (by_seat m (xs ++ p.0)) ≡ length (by_seat m ys) = ap (λ l. length (by_seat m l)) p.1 in
      let d : length (by_seat m (ys ++ q.0)) ≡ length (by_seat m zs) = ap (λ l. length (by_seat m l)) q.1 in
      let f : length (by_seat m xs) ≡ length (by_seat m zs) = ap length e in
      let none : by_seat m p.0 ≡ [] = nothing (by_seat m p.0) (omega arith) in
      sym (ap (by_seat m) p.1) ∙ (by_seat-append m xs p.0 ∙ (ap (λ l. by_seat m xs ++ l) none ∙ append-nil (by_seat m xs)))

  pub by_seat-other : (m : ℕ) (es : List (Entry T)) (e : Entry T) → m ≢ seat_of e → by_seat m (es ++ e ∷ []) ≡ by_seat m es
  by_seat-other m es e ne = by_seat-append m es (e ∷ []) ∙ (ap (λ l. by_seat m es ++ l) (alone m e ne) ∙ append-nil (by_seat m es))
    where
      alone : (m : ℕ) (e : Entry T) → m ≢ seat_of e → by_seat m (e ∷ []) ≡ []
      alone m e ne = grind (arith, nat_tests)

  pub by_seat-own : (es : List (Entry T)) (e : Entry T) → by_seat (seat_of e) (es ++ e ∷ []) ≡ by_seat (seat_of e) es ++ e ∷ []
  by_seat-own es e = by_seat-append (seat_of e) es (e ∷ []) ∙ ap (λ l. by_seat (seat_of e) es ++ l) (alone e)
    where
      alone : (e : Entry T) → by_seat (seat_of e) (e ∷ []) ≡ e ∷ []
      alone e = grind (arith, nat_tests)

  -- a part has no more posts than the whole
  pub posts-by_seat-le : (m : ℕ) (es : List (Entry T)) → length (posts_in (by_seat m es)) ≤ length (posts_in es)
  posts-by_seat-le m [] = omega arith
  posts-by_seat-le m (Post s n b ∷ es) = let e = posts-by_seat-le m es in elim (nat_eq m s) as (λ t. length (posts_in (cond t (Post s n b ∷ by_seat m es) (by_seat m es))) ≤ suc (length (posts_in es))) [ true ↦ omega arith | false ↦ omega arith ]
  posts-by_seat-le m (Cut s k ∷ es) = let e = posts-by_seat-le m es in elim (nat_eq m s) as (λ t. length (posts_in (cond t (Cut s k ∷ by_seat m es) (by_seat m es))) ≤ length (posts_in es)) [ true ↦ e | false ↦ e ]
  posts-by_seat-le m (Shut s ∷ es) = let e = posts-by_seat-le m es in elim (nat_eq m s) as (λ t. length (posts_in (cond t (Shut s ∷ by_seat m es) (by_seat m es))) ≤ length (posts_in es)) [ true ↦ e | false ↦ e ]

  -- how many shuts the seats below n made
  abbrev tally : ℕ → List (Entry T) → ℕ
  tally zero es = 0
  tally (suc n) es = tally n es + shuts_in (by_seat n es)

  shuts_in-cons : (e : Entry T) (es : List (Entry T)) → shuts_in (e ∷ es) ≡ shuts_in (e ∷ []) + shuts_in es
  shuts_in-cons e es = shuts_in-append (e ∷ []) es

  tally-cons : (n : ℕ) (e : Entry T) (es : List (Entry T)) → tally n (e ∷ es) ≡ tally n es + cond (nat_lt (seat_of e) n) (shuts_in (e ∷ [])) 0
  tally-cons zero e es = grind (arith, nat_tests)
  tally-cons (suc n) e es =
      let before = tally-cons n e es in
      let here : shuts_in (by_seat n (e ∷ es)) ≡ cond (nat_eq n (seat_of e)) (shuts_in (e ∷ [])) 0 + shuts_in (by_seat n es) =
      elim (nat_eq n (seat_of e)) as (λ t. shuts_in (cond t (e ∷ by_seat n es) (by_seat n es)) ≡ cond t (shuts_in (e ∷ [])) 0 + shuts_in (by_seat n es)) [ true ↦ shuts_in-cons e (by_seat n es) | false ↦ omega arith ] in
      let both : cond (nat_lt (seat_of e) (suc n)) (shuts_in (e ∷ [])) 0 ≡ cond (nat_lt (seat_of e) n) (shuts_in (e ∷ [])) 0 + cond (nat_eq n (seat_of e)) (shuts_in (e ∷ [])) 0 = one_more (seat_of e) n (shuts_in (e ∷ [])) in
      omega arith
    where
      one_more : (s n u : ℕ) → cond (nat_lt s (suc n)) u 0 ≡ cond (nat_lt s n) u 0 + cond (nat_eq n s) u 0
      one_more s n u = grind (arith, nat_tests)

  none_of : (b : Bool) (e : Entry T) (l : List (Entry T)) → cond b (e ∷ l) l ≡ [] → (b ≡ false) × (l ≡ [])
  none_of true e l h = absurd (cc)
  none_of false e l h = (refl, h)

  low_seat : (n : ℕ) (e : Entry T) (es : List (Entry T)) → ((m : ℕ) → n ≤ m → by_seat m (e ∷ es) ≡ []) → seat_of e < n
  low_seat n e es low =
      elim (dec_le (suc (seat_of e)) n) [
        | yes lt ↦ lt
        | no ge ↦ absurd (differs (seat_of e) (none_of (nat_eq (seat_of e) (seat_of e)) e (by_seat (seat_of e) es) (low (seat_of e) (omega arith))).0)
      ]
    where
      differs : (s : ℕ) → nat_eq s s ≡ false → ⊥
      differs s h = grind (arith, nat_tests)

  -- where all entries are of seats below n, all shuts are
  shuts_in-le-tally : (n : ℕ) (es : List (Entry T)) → ((m : ℕ) → n ≤ m → by_seat m es ≡ []) → shuts_in es ≤ tally n es
  shuts_in-le-tally n [] low = omega arith
  shuts_in-le-tally n (e ∷ es) low =
      let rest = shuts_in-le-tally n es (λ m le. none_after m e es (low m le)) in
      let first = low_seat n e es low in
      let k = tally-cons n e es in
      let c = shuts_in-cons e es in
      let t : cond (nat_lt (seat_of e) n) (shuts_in (e ∷ [])) 0 ≡ shuts_in (e ∷ []) = below (seat_of e) n (shuts_in (e ∷ [])) first in
      omega arith
    where
      none_after : (m : ℕ) (e : Entry T) (es : List (Entry T)) → by_seat m (e ∷ es) ≡ [] → by_seat m es ≡ []
      none_after m e es h = (none_of (nat_eq m (seat_of e)) e (by_seat m es) h).1

      below : (s n u : ℕ) → s < n → cond (nat_lt s n) u 0 ≡ u
      below s n u lt = grind (arith, nat_tests)

  tally-le : (n : ℕ) (es : List (Entry T)) → ((m : ℕ) → shuts_in (by_seat m es) ≤ 1) → tally n es ≤ n
  tally-le zero es once = omega arith
  tally-le (suc n) es once = let t = tally-le n es once in let o = once n in omega arith

  tally-lt : (n k : ℕ) (es : List (Entry T)) → ((m : ℕ) → shuts_in (by_seat m es) ≤ 1) → k < n → shuts_in (by_seat k es) ≡ 0 → tally n es < n
  tally-lt zero k es once lt none = absurd (omega arith)
  tally-lt (suc n) k es once lt none =
      elim (ℕ_discrete k n) [
        | yes same ↦ (let t = tally-le n es once in let z : shuts_in (by_seat n es) ≡ 0 = sym (ap (λ m. shuts_in (by_seat m es)) same) ∙ none in omega arith)
        | no other ↦ (let t = tally-lt n k es once (omega arith) none in let o = once n in omega arith)
      ]

  -- a seat that hasn't shut the journal finds fewer shuts than there are seats
  pub room_to_shut : (limits : Limits) (es : List (Entry T)) (k : ℕ) → IsLawful limits es → k < limits.seats → shuts_in (by_seat k es) ≡ 0 → shuts_in es < limits.seats
  room_to_shut limits es k h lt none = let t = shuts_in-le-tally limits.seats es h.low in let u = tally-lt limits.seats k es h.shuts lt none in omega arith

  -- a seat that has made fewer cuts than there may be finds no more, if it is the last
  pub room_to_cut : (limits : Limits) (es own : List (Entry T)) (k : ℕ) → IsLawful limits es → k + 1 ≡ limits.seats → by_seat k es ≡ own → cuts_in own < limits.cuts → cuts_in es < limits.cuts
  room_to_cut limits es own k h last is less =
      let e : cuts_in (by_seat (limits.seats - 1) es) ≡ cuts_in own = ap (λ m. cuts_in (by_seat m es)) (let z : limits.seats - 1 ≡ k = omega arith in z) ∙ ap cuts_in is in
      let c = h.cuts in omega arith

  alone_same : (m : ℕ) (e : Entry T) → m ≡ seat_of e → by_seat m (e ∷ []) ≡ e ∷ []
  alone_same m e is = grind (arith, nat_tests)

  alone_other : (m : ℕ) (e : Entry T) → m ≢ seat_of e → by_seat m (e ∷ []) ≡ []
  alone_other m e ne = grind (arith, nat_tests)

  cuts_alone : (limits : Limits) (e : Entry T) (own : List (Entry T)) → May limits own e → cuts_in (e ∷ []) ≡ cuts_in (by_seat (limits.seats - 1) (e ∷ []))
  cuts_alone limits (Post s n b) own may = elim (nat_eq (limits.seats - 1) s) as (λ t. 0 ≡ cuts_in {T = T} (cond t (Post s n b ∷ []) [])) [ true ↦ refl | false ↦ refl ]
  cuts_alone limits (Cut s k) own may = sym (ap cuts_in (alone_same (limits.seats - 1) (Cut s k) (omega arith)))
  cuts_alone limits (Shut s) own may = elim (nat_eq (limits.seats - 1) s) as (λ t. 0 ≡ cuts_in {T = T} (cond t (Shut s ∷ []) [])) [ true ↦ refl | false ↦ refl ]

  shuts_own : (limits : Limits) (e : Entry T) (own : List (Entry T)) → May limits own e → shuts_in own ≤ 1 → shuts_in own + shuts_in (e ∷ []) ≤ 1
  shuts_own limits (Post s n b) own may once = omega arith
  shuts_own limits (Cut s k) own may once = omega arith
  shuts_own limits (Shut s) own may once = omega arith

  -- a lawful journal stays so with an entry that a seat may add
  pub lawful_grows : (limits : Limits) (es : List (Entry T)) (e : Entry T) → IsLawful limits es → seat_of e < limits.seats → May limits (by_seat (seat_of e) es) e → IsLawful limits (es ++ e ∷ [])
  lawful_grows limits es e h lt may = record {
    cuts = (
        let a = cuts_in-append es (e ∷ []) in
        let b = ap cuts_in (by_seat-append (limits.seats - 1) es (e ∷ [])) ∙ cuts_in-append (by_seat (limits.seats - 1) es) (by_seat (limits.seats - 1) (e ∷ [])) in
        let c = cuts_alone limits e (by_seat (seat_of e) es) may in
        let d = h.cuts in omega arith);
    shuts = (λ m.
        let b = ap shuts_in (by_seat-append m es (e ∷ [])) ∙ shuts_in-append (by_seat m es) (by_seat m (e ∷ [])) in
        let o = h.shuts m in
        elim (ℕ_discrete m (seat_of e)) [
          | yes same ↦ (
              let own : shuts_in (by_seat m es) ≡ shuts_in (by_seat (seat_of e) es) = ap (λ k. shuts_in (by_seat k es)) same in
              let new : shuts_in (by_seat m (e ∷ [])) ≡ shuts_in (e ∷ []) = ap shuts_in (alone_same m e same) in
              let s = shuts_own limits e (by_seat (seat_of e) es) may (h.shuts (seat_of e)) in omega arith)
          | no other ↦ (let new : shuts_in (by_seat m (e ∷ [])) ≡ 0 = ap shuts_in (alone_other m e other) in omega arith)
        ]);
    low = (λ m le. by_seat-other m es e (λ same. omega arith) ∙ h.low m le);
  }

  pub lawful_none : (limits : Limits) → IsLawful {T = T} limits []
  lawful_none limits = record { cuts = refl; shuts = (λ m. omega arith); low = (λ m le. refl) }
