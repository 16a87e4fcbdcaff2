-- Each step keeps the rule of the board.
use Rattle.std.proofs.Common.{◌≡◌, ◌≢◌, ℕ, zero, suc, ◌+◌, ◌<◌, ◌≤◌, ◌%◌, ◌^◌, min, List, [], ◌∷◌, ◌++◌, length, set, true, false, refl, sym, ap, ◌∙◌, subst, ⊎_elim, arith}
use Rattle.std.specs.Prelude.{slice_index}
use Rattle.std.proofs.lemmas.Bool.Decides.{nat_tests}
use mathlib.Core.Option.{some, some-ne-none, some-injective}
use native.Mathlib.Decide.{dec_le}
use lib.ListN.{get_elem?}
use Rattle.atomic_table.specs.Table.{State, Me, Act, keeps, Valid, carried_after, stepped, Allows, Splits, Joins, opening}
use Rattle.atomic_table.proofs.Lists.{at_set, at_snoc}
use Rattle.claim_board.specs.declared.claims.Claims.{Claims}
use Rattle.claim_board.specs.declared.claims.Size.{Size}
use Rattle.claim_board.specs.Boards.{times, once_below, next_after}
use Rattle.claim_board.specs.Claims.{claims, all_parts, less, one_part, no_part, gathered, total, Fits, Given, Drew, IsPass}
use Rattle.claim_board.proofs.Draws.{times-append, below_of_times, increasing-snoc, next_after-snoc, next_after-le, once_below-suc, once_below-past}
use Rattle.claim_board.proofs.Totals.{total-set, total-snoc, total-at, total-le, total_of_one}

either_ends : (a b : ℕ) (P : Type 0) → (0 < a → P) → (0 < b → P) → 0 < a + b → P
either_ends zero b P f g p = g (omega arith)
either_ends (suc a) b P f g p = f (omega arith)

set_word : (ws : List ℕ) (a : ℕ) → length ws ≡ 1 → (slice_index (set ws 0 a) 0 ≡ a) × (length (set ws 0 a) ≡ 1)
set_word [] a e = absurd (omega arith)
set_word (x ∷ xs) a e = (refl, e)

module _ (size : Size) where
  each_set : (views : List Claims) (id count count' : ℕ) (w : Claims) → count ≤ count' → ((j : ℕ) (v : Claims) → get_elem? views j ≡ some v → Fits size count v) → Fits size count' w
      → (j : ℕ) (v : Claims) → get_elem? (set views id w) j ≡ some v → Fits size count' v
  each_set views id count count' w le h mine j v at =
      ⊎_elim
      (λ (t : (j ≡ id) × (w ≡ v)). subst (λ (u : Claims). Fits size count' u) t.1 mine)
      (λ (t : (j ≢ id) × (get_elem? views j ≡ some v)). let f = h j v t.1 in record { known = f.known; ends = f.ends; full = λ p. let k = f.full p in omega arith; idle = f.idle })
      (at_set views id j w v at)

  ends_few : (s : State (Unit {0}) Claims) → Given size s → total (λ v. v.ends) s.views ≤ 16
  ends_few s h = let e = total-le (λ v. v.ends) (λ v. v.parts) s.views (λ j v at. (h.each j v at).ends) in let p = h.parts in let q = h.few in omega arith

  next_count : (n ends : ℕ) → n ≤ size.limit + ends → ends ≤ 16 → size.limit < 4294967296 → (n + 1) % 2 ^ 64 ≡ n + 1
  next_count n ends a b c = omega arith

  -- what a draw leaves
  abbrev Goes : ℕ → Me (Unit {0}) Claims → State (Unit {0}) Claims → Type 0
  Goes id me s = (w : Claims) × (a : Act (Unit {0})) × Valid s.homes me.1 a
      × Given size (stepped s 0 ((slice_index s.words 0 + 1) % 2 ^ 64) id me.1 w a) × Drew me (slice_index s.words 0) (w, carried_after me.1 a)

  finds : (id : ℕ) (me : Me (Unit {0}) Claims) (s : State (Unit {0}) Claims) → 0 < me.0.parts → Given size s → get_elem? s.views id ≡ some me.0 → slice_index s.words 0 < size.limit → Goes id me s
  finds id me s part h at lt =
      let n = slice_index s.words 0 in
      let v = me.0 in
      let w = claims v.size v.parts (v.draws ++ n ∷ []) v.ends in
      let next : (n + 1) % 2 ^ 64 ≡ n + 1 = next_count n (total (λ u. u.ends) s.views) h.most (ends_few s h) h.small in
      let word = set_word s.words ((n + 1) % 2 ^ 64) h.one in
      let now : slice_index (set s.words 0 ((n + 1) % 2 ^ 64)) 0 ≡ n + 1 = word.0 ∙ next in
      let mine = h.each id v at in
      let same : v.size.limit ≡ size.limit = ap (λ (z : Size). z.limit) (mine.known part) in (
        w,
        keeps,
        tt,
        record {
          one = word.1;
          parts = (let t = total-set (λ u. u.parts) s.views id v w at in let p = h.parts in omega arith);
          few = h.few;
          small = h.small;
          once = (λ x. let t = total-set (λ u. times x u.draws) s.views id v w at in let e = h.once x in
              rw now (omega (arith, times-append x v.draws (n ∷ []), once_below-suc x n size.limit lt)));
          most = (let t = total-set (λ u. u.ends) s.views id v w at in let m = h.most in rw now (omega arith));
          each = rw now (each_set s.views id n (n + 1) w (omega arith) h.each
              record { known = mine.known; ends = mine.ends; full = (λ p. let f = mine.full p in omega arith); idle = (λ z. absurd (omega arith)) });
        },
        (
          (λ _. (
            refl,
            below_of_times n v.draws (λ x. let t = total-at (λ u. times x u.draws) s.views id v at in let e = h.once x in let m : min n size.limit ≡ n = omega arith in
                let e' = rw m at e in omega arith),
          )),
          (λ over. absurd (omega arith)),
        ),
      )

  ends_it : (id : ℕ) (me : Me (Unit {0}) Claims) (s : State (Unit {0}) Claims) → 0 < me.0.parts → me.0.ends < me.0.parts → Given size s → get_elem? s.views id ≡ some me.0 → size.limit ≤ slice_index s.words 0 → Goes id me s
  ends_it id me s part room h at over =
      let n = slice_index s.words 0 in
      let v = me.0 in
      let w = claims v.size v.parts v.draws (v.ends + 1) in
      let next : (n + 1) % 2 ^ 64 ≡ n + 1 = next_count n (total (λ u. u.ends) s.views) h.most (ends_few s h) h.small in
      let word = set_word s.words ((n + 1) % 2 ^ 64) h.one in
      let now : slice_index (set s.words 0 ((n + 1) % 2 ^ 64)) 0 ≡ n + 1 = word.0 ∙ next in
      let mine = h.each id v at in
      let same : v.size.limit ≡ size.limit = ap (λ (z : Size). z.limit) (mine.known part) in (
        w,
        keeps,
        tt,
        record {
          one = word.1;
          parts = (let t = total-set (λ u. u.parts) s.views id v w at in let p = h.parts in omega arith);
          few = h.few;
          small = h.small;
          once = (λ x. let t = total-set (λ u. times x u.draws) s.views id v w at in let e = h.once x in rw now (omega (arith, once_below-past x n size.limit over)));
          most = (let t = total-set (λ u. u.ends) s.views id v w at in let m = h.most in rw now (omega arith));
          each = rw now (each_set s.views id n (n + 1) w (omega arith) h.each
              record { known = mine.known; ends = omega arith; full = (λ p. omega arith); idle = mine.idle });
        },
        ((λ lt. absurd (omega arith)), (λ _. refl)),
      )

  pub draws : (slots id : ℕ) (me : Me (Unit {0}) Claims) → 0 < me.0.parts → me.0.ends < me.0.parts → Allows (Given size) slots id me 0 (λ n. (n + 1) % 2 ^ 64) (Drew me)
  draws slots id me part room s h len at word = elim (dec_le (suc (slice_index s.words 0)) size.limit) [ yes lt ↦ finds id me s part h at lt | no over ↦ ends_it id me s part room h at (omega arith) ]

  -- the new seat has one part, and nothing else
  pub splits : (id : ℕ) (v : Claims) → 0 < v.parts → v.ends ≡ 0 → v.draws ≡ [] → Splits (Given size) id v (less v) (one_part v)
  splits id v part none empty s h at =
      let left = less v in
      let right = one_part v in
      let mine = h.each id v at in
      record {
        one = h.one;
        parts = (let t = total-set (λ u. u.parts) s.views id v left at in let p = h.parts in omega (arith, total-snoc (λ u. u.parts) (set s.views id left) right));
        few = h.few;
        small = h.small;
        once = (λ x. let t = total-set (λ u. times x u.draws) s.views id v left at in let e = h.once x in omega (arith, total-snoc (λ u. times x u.draws) (set s.views id left) right));
        most = (let t = total-set (λ u. u.ends) s.views id v left at in let m = h.most in omega (arith, total-snoc (λ u. u.ends) (set s.views id left) right));
        each = (λ j u e. ⊎_elim
            (λ was. each_set s.views id (slice_index s.words 0) (slice_index s.words 0) left (omega arith) h.each
            record { known = (λ p. mine.known part); ends = omega arith; full = mine.full; idle = (λ _. empty) } j u was)
            (λ (same : right ≡ u). subst (λ (y : Claims). Fits size (slice_index s.words 0) y) same
            record { known = (λ p. mine.known part); ends = omega arith; full = (λ p. absurd (omega arith)); idle = (λ z. absurd (omega arith)) })
            (at_snoc (set s.views id left) right u j e));
      }

  pub joins : (id : ℕ) (v : Claims) (other : ℕ) (w : Claims) → 0 < v.parts → Joins (Given size) id v other w (gathered v w) no_part
  joins id v other w part s h at apart there =
      let both = gathered v w in
      let mine = h.each id v at in
      let was = ⊎_elim (λ (t : (other ≡ id) × (both ≡ w)). absurd (apart t.0)) (λ (t : (other ≢ id) × (get_elem? s.views other ≡ some w)). t.1) (at_set s.views id other both w there) in
      let theirs = h.each other w was in
      let first = set s.views id both in
      record {
        one = h.one;
        parts = (let t = total-set (λ u. u.parts) s.views id v both at in let t' = total-set (λ u. u.parts) first other w no_part there in let p = h.parts in omega arith);
        few = h.few;
        small = h.small;
        once = (λ x. let t = total-set (λ u. times x u.draws) s.views id v both at in let t' = total-set (λ u. times x u.draws) first other w no_part there in let e = h.once x in
            omega (arith, times-append x v.draws w.draws));
        most = (let t = total-set (λ u. u.ends) s.views id v both at in let t' = total-set (λ u. u.ends) first other w no_part there in let m = h.most in omega arith);
        each = each_set first other (slice_index s.words 0) (slice_index s.words 0) no_part (omega arith)
            (each_set s.views id (slice_index s.words 0) (slice_index s.words 0) both (omega arith) h.each
            record { known = (λ p. mine.known part); ends = (let a = mine.ends in let b = theirs.ends in omega arith); full = either_ends v.ends w.ends (size.limit ≤ slice_index s.words 0) mine.full theirs.full; idle = (λ z. absurd (omega arith)) })
            record { known = (λ p. absurd (omega arith)); ends = omega arith; full = (λ p. absurd (omega arith)); idle = (λ z. refl) };
      }

  pub begins : size.seats ≤ 16 → size.limit < 4294967296 → Given size (opening (0 ∷ []) [] (all_parts size))
  begins few fits = record {
    one = refl;
    parts = omega arith;
    few = few;
    small = fits;
    once = (λ x. rw (let z : min 0 size.limit ≡ 0 = omega arith in z) (grind (arith, nat_tests)));
    most = omega arith;
    each = one;
  }
    where
      one : (j : ℕ) (v : Claims) → get_elem? (all_parts size ∷ []) j ≡ some v → Fits size 0 v
      one zero v e = subst (λ (y : Claims). Fits size 0 y) (some-injective _ _ e) record { known = (λ _. refl); ends = omega arith; full = (λ p. absurd (omega arith)); idle = (λ _. refl) }
      one (suc j) v e = absurd (some-ne-none v (sym e))

  -- whoever has all parts knows all draws
  pub settles : (s : State (Unit {0}) Claims) (id : ℕ) (v : Claims) → Given size s → get_elem? s.views id ≡ some v → v.parts ≡ size.seats
      → ((x : ℕ) → times x v.draws ≡ once_below x (min (slice_index s.words 0) size.limit)) × (0 < v.ends → size.limit ≤ slice_index s.words 0)
  settles s id v h at all = (
    (λ x. let e = h.once x in let p = h.parts in
        let t = total_of_one (λ u. times x u.draws) (λ u. u.parts) s.views id v at (omega arith) (λ j u a z. ap (times x) ((h.each j u a).idle z)) in omega arith),
    (h.each id v at).full,
  )

-- a pass after a draw that found a number
pub found_pass : (me me' : Me (Unit {0}) Claims) (found : ℕ) → IsPass me false → Drew me found me' → found < me.0.size.limit → IsPass me' false
found_pass me me' found p d lt =
    let e = (d.0 lt).0 in
    subst (λ (y : Me (Unit {0}) Claims). IsPass y false) (sym e) record { slots = p.slots; parts = p.parts; ends = p.ends; increasing = increasing-snoc me.0.draws found (d.0 lt).1 p.increasing }

-- a pass after a draw that found none
pub ended_pass : (me me' : Me (Unit {0}) Claims) (found : ℕ) → IsPass me false → Drew me found me' → me.0.size.limit ≤ found → IsPass me' true
ended_pass me me' found p d le =
    subst (λ (y : Me (Unit {0}) Claims). IsPass y true) (sym (d.1 le)) record { slots = p.slots; parts = p.parts; ends = (let e = p.ends in omega arith); increasing = p.increasing }

-- the number found is above the draws before
pub found_next : (me me' : Me (Unit {0}) Claims) (found : ℕ) → Drew me found me' → found < me.0.size.limit → (next_after me.0.draws ≤ found) × (next_after me'.0.draws ≡ found + 1)
found_next me me' found d lt = (next_after-le me.0.draws found (d.0 lt).1, rw (d.0 lt).0 (next_after-snoc me.0.draws found))
