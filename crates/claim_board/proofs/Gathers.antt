-- What the passes drew in all.
use Rattle.std.proofs.Common.{◌≡◌, ℕ, zero, suc, All, length-append, ◌+◌, ◌<◌, ◌≤◌, min, List, [], ◌∷◌, ◌++◌, length, get_or, refl, sym, ap, ◌∙◌, true, cond, arith}
use Rattle.std.specs.Prelude.{slice_index, Any}
use mathlib.Core.Option.{some, some-ne-none, some-injective}
use lib.ListN.{get_elem?}
use Rattle.atomic_table.specs.Table.{Final, Seen}
use Rattle.claim_board.specs.declared.claims.Claims.{Claims}
use Rattle.claim_board.specs.declared.claims.Size.{Size}
use Rattle.claim_board.specs.Boards.{PassView, all_draws, times, once_below}
use Rattle.claim_board.specs.Claims.{Given}
use Rattle.claim_board.proofs.Draws.{times-append}
use Rattle.claim_board.proofs.Keeps.{settles}

-- how many of the passes found no number left
abbrev pub ends_of : List PassView → ℕ
ends_of [] = 0
ends_of (p ∷ ps) = cond p.is_done 1 0 + ends_of ps

pub times-snoc : (x : ℕ) (ps : List PassView) (p : PassView) → times x (all_draws (ps ++ p ∷ [])) ≡ times x (all_draws ps) + times x p.draws
times-snoc x [] p = let e = times-append x p.draws [] in omega arith
times-snoc x (q ∷ ps) p = let e = times-snoc x ps p in omega (arith, times-append x q.draws (all_draws (ps ++ p ∷ [])), times-append x q.draws (all_draws ps))

pub ends-snoc : (ps : List PassView) (p : PassView) → ends_of (ps ++ p ∷ []) ≡ ends_of ps + cond p.is_done 1 0
ends-snoc [] p = omega arith
ends-snoc (q ∷ ps) p = let e = ends-snoc ps p in omega arith

pub no_draws : (x : ℕ) (ps : List PassView) → length ps ≡ 0 → times x (all_draws ps) ≡ 0
no_draws x [] e = refl
no_draws x (p ∷ ps) e = absurd (omega arith)

pub no_ends : (ps : List PassView) → length ps ≡ 0 → ends_of ps ≡ 0
no_ends [] e = refl
no_ends (p ∷ ps) e = absurd (omega arith)

-- where one of the passes is done there is an end
pub some_ends : (ps : List PassView) → Any (λ p. p.is_done ≡ true) ps → 0 < ends_of ps
some_ends ps any = at ps any.0 any.1 any.2 (ap (λ (p : PassView). p.is_done) any.3 ∙ any.4)
  where
    at : (ps : List PassView) (k : ℕ) (x : PassView) → k < length ps → (get_or ps k x).is_done ≡ true → 0 < ends_of ps
    at [] k x lt e = absurd (omega arith)
    at (p ∷ ps) zero x lt e = rw e (omega arith)
    at (p ∷ ps) (suc k) x lt e = let t = at ps k x (omega arith) e in omega arith

-- of each member, and of the last
pub front_of_all : (P : PassView → Type 0) (xs : List PassView) (x : PassView) → All P (xs ++ x ∷ []) → (k : ℕ) (d : PassView) → k < length xs → P (get_or xs k d)
front_of_all P [] x h k d lt = absurd (omega arith)
front_of_all P (y ∷ ys) x h zero d lt = h 0 d (omega (arith, length-append ys (x ∷ [])))
front_of_all P (y ∷ ys) x h (suc k) d lt = front_of_all P ys x (λ j e l. h (suc j) e (omega arith)) k d (omega arith)

pub last_of_all : (P : PassView → Type 0) (xs : List PassView) (x : PassView) → All P (xs ++ x ∷ []) → P x
last_of_all P [] x h = h 0 x (omega arith)
last_of_all P (y ∷ ys) x h = last_of_all P ys x (λ j e l. h (suc j) e (omega arith))

word_is : (ws : List ℕ) (n : ℕ) → get_elem? ws 0 ≡ some n → slice_index ws 0 ≡ n
word_is [] n e = absurd (some-ne-none n (sym e))
word_is (w ∷ ws) n e = some-injective w n e

-- what the last seat drew, where it has all parts: the numbers below the count and the limit
pub last_count : (size : Size) (id count : ℕ) (v : Claims) (ws : List ℕ) (xs : List (Unit {0})) → Final (Seen (Given size) id v) ws xs → get_elem? ws 0 ≡ some count → v.parts ≡ size.seats
    → ((x : ℕ) → times x v.draws ≡ once_below x (min count size.limit)) × (0 < v.ends → size.limit ≤ count)
last_count size id count v ws xs f e all =
    let same : slice_index f.0.words 0 ≡ count = ap (λ (l : List ℕ). slice_index l 0) f.2 ∙ word_is ws count e in
    let t = settles size f.0 id v f.1.0 f.1.1 all in
    ((λ x. let u = t.0 x in rw same at u), (λ some_end. let u = t.1 some_end in omega arith))
