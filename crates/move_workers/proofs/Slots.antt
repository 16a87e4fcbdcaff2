-- What was found stands in the slots.
use Rattle.std.proofs.Common.{◌≡◌, ◌≢◌, ◌∙◌, ℕ, zero, suc, ◌+◌, ◌<◌, List, [], ◌∷◌, ◌++◌, length, map, get_or, set, Option, None, refl, sym, ap, arith, true, false, All, length-append, length-set, get_or-set_other, get_or-set_same}
use Rattle.std.proofs.lemmas.Bool.Decides.{nat_tests}
use Rattle.std.proofs.lemmas.List.Elements.{All-push}
use Rattle.std.proofs.lemmas.List.{ext_get_or}
use Rattle.std.proofs.lemmas.List.FromFn.{length-map-range_with_len, get_or-map-range_with_len}
use Rattle.std.specs.List.{range_with_len}
use native.Mathlib.Decide.{ℕ_discrete}
use Rattle.std.specs.Prelude.{Any}
use Rattle.claim_board.specs.Boards.{BoardView, PassView, all_draws, once_below, times}
use Rattle.claim_board.proofs.Gathers.{times-snoc}
use Rattle.plan_search.specs.declared.found.Found.{Found}
use Rattle.move_workers.specs.declared.job.Share.{Share}
use Rattle.move_workers.specs.declared.job.Verdict.{Verdict}
use Rattle.move_workers.specs.Jobs.{HaveFound, IsGathered, IsWorked, found_from, placed, verdict_by}

-- all but the last, and the last
pub All-front : {X : Type 0} (P : X → Type 0) (xs : List X) (x : X) → All P (xs ++ x ∷ []) → All P xs
All-front P [] x h k d lt = absurd (omega arith)
All-front P (y ∷ ys) x h zero d lt = h 0 d (omega (arith, length-append ys (x ∷ [])))
All-front P (y ∷ ys) x h (suc k) d lt = All-front P ys x (λ j e l. h (suc j) e (omega arith)) k d (omega arith)

pub All-last : {X : Type 0} (P : X → Type 0) (xs : List X) (x : X) → All P (xs ++ x ∷ []) → P x
All-last P [] x h = h 0 x (omega arith)
All-last P (y ∷ ys) x h = All-last P ys x (λ j e l. h (suc j) e (omega arith))

-- one verdict more is placed last
pub placed-snoc : (slots : List (Option Found)) (vs : List Verdict) (v : Verdict) → placed slots (vs ++ v ∷ []) ≡ set (placed slots vs) v.place v.found
placed-snoc slots [] v = refl
placed-snoc slots (w ∷ ws) v = placed-snoc (set slots w.place w.found) ws v

pub length-placed : (slots : List (Option Found)) (vs : List Verdict) → length (placed slots vs) ≡ length slots
length-placed slots [] = refl
length-placed slots (v ∷ vs) = length-placed (set slots v.place v.found) vs ∙ length-set slots v.place v.found

-- the verdicts on the draws before, and on one more
pub verdict_next : (found : ℕ → Option Found) (verdicts : List Verdict) (draws : List ℕ) (place : ℕ) (one : Option Found) → verdicts ≡ map (verdict_by found) draws
    → one ≡ found place → verdicts ++ record { place = place; found = one } ∷ [] ≡ map (verdict_by found) (draws ++ place ∷ [])
verdict_next found verdicts draws place one is answer = rw (is, answer) (sym (snoc draws))
  where
    snoc : (xs : List ℕ) → map (verdict_by found) (xs ++ place ∷ []) ≡ map (verdict_by found) xs ++ verdict_by found place ∷ []
    snoc [] = refl
    snoc (y ∷ ys) = ap (λ l. verdict_by found y ∷ l) (snoc ys)

module _ (found : ℕ → Option Found) where
  set_slot : (slots : List (Option Found)) (x k : ℕ) → k < length slots → (k ≢ x → get_or slots k None ≡ found k) → get_or (set slots x (found x)) k None ≡ found k
  set_slot slots x k lt old = elim (ℕ_discrete k x) [ yes e ↦ same e | no ne ↦ other ne ]
    where
      same : k ≡ x → get_or (set slots x (found x)) k None ≡ found k
      same e = let lt' : x < length slots = omega arith in rw (e, get_or-set_same) refl

      other : k ≢ x → get_or (set slots x (found x)) k None ≡ found k
      other ne = rw get_or-set_other (old ne)

  -- placing more verdicts keeps what stands there
  placed_keeps : (xs : List ℕ) (slots : List (Option Found)) (k : ℕ) → k < length slots → get_or slots k None ≡ found k → get_or (placed slots (map (verdict_by found) xs)) k None ≡ found k
  placed_keeps [] slots k lt e = e
  placed_keeps (x ∷ xs) slots k lt e =
      placed_keeps xs (set slots x (found x)) k (omega (arith, length-set slots x (found x))) (set_slot slots x k lt (λ _. e))

  -- a verdict on a draw is placed
  placed_at : (xs : List ℕ) (slots : List (Option Found)) (k : ℕ) → k < length slots → 0 < times k xs → get_or (placed slots (map (verdict_by found) xs)) k None ≡ found k
  placed_at [] slots k lt some = absurd (omega arith)
  placed_at (x ∷ xs) slots k lt some =
      let after = set slots x (found x) in
      let lt' : k < length after = omega (arith, length-set slots x (found x)) in
      elim (ℕ_discrete k x) [ yes e ↦ placed_keeps xs after k lt' (set_slot slots x k lt (λ ne. absurd (ne e))) | no ne ↦ placed_at xs after k lt' (grind (arith, nat_tests)) ]

  -- the draws of one pass more
  more_slots : (slots : List (Option Found)) (passes : List PassView) (pass : PassView) → HaveFound found (all_draws passes) slots
      → HaveFound found (all_draws (passes ++ pass ∷ [])) (placed slots (map (verdict_by found) pass.draws))
  more_slots slots passes pass have k lt some =
      let lt' : k < length slots = omega (arith, length-placed slots (map (verdict_by found) pass.draws)) in
      let sum = times-snoc k passes pass in
      elim (ℕ_discrete (times k pass.draws) 0) [
        | yes none ↦ placed_keeps pass.draws slots k lt' (have k lt' (omega arith))
        | no here ↦ placed_at pass.draws slots k lt' (omega arith)
      ]

  -- one worked share more is gathered
  pub gathers : (board : BoardView) (passes : List PassView) (slots : List (Option Found)) (share : Share)
      → IsGathered board found passes slots → IsWorked board found share → share.is_short ≡ false
      → IsGathered board found (passes ++ share.pass ∷ []) (placed slots share.verdicts.items)
  gathers board passes slots share was is whole = record {
    boards = All-push (λ pass. pass.board ≡ board) passes share.pass was.boards is.board_is;
    done = All-push (λ pass. pass.is_done ≡ true) passes share.pass was.done (is.ended whole);
    placed_all = rw (is.verdicts whole) (more_slots slots passes share.pass was.placed_all);
  }

-- slots with what is found at each place of a batch
pub all_found : (found : ℕ → Option Found) (first count : ℕ) (slots : List (Option Found)) → length slots ≡ count
    → ((place : ℕ) → place < length slots → get_or slots place None ≡ found_from found first place)
    → slots ≡ map found (range_with_len first count)
all_found found first count slots len each =
    ext_get_or None slots (map found (range_with_len first count)) (len ∙ sym (length-map-range_with_len found first count))
    (λ i lt. each i lt ∙ sym (get_or-map-range_with_len found first count i (first + i) None (omega arith) refl))

-- nothing is gathered of no pass
pub none_gathered : (board : BoardView) (found : ℕ → Option Found) (passes : List PassView) (slots : List (Option Found)) → passes ≡ [] → IsGathered board found passes slots
none_gathered board found passes slots none = rw none (record {
  boards = λ k d lt. absurd (omega arith);
  done = λ k d lt. absurd (omega arith);
  placed_all = λ place lt some. absurd (omega arith);
})

-- a share that was worked first is all that is gathered then
pub first_gathered : (found : ℕ → Option Found) (board : BoardView) (share : Share) (slots filled : List (Option Found)) (old new : List PassView) → old ≡ []
    → new ≡ old ++ share.pass ∷ [] → filled ≡ placed slots share.verdicts.items → IsWorked board found share → share.is_short ≡ false
    → IsGathered board found new filled × (length new ≡ 1)
first_gathered found board share slots filled old new none passes placed worked whole =
    let was = none_gathered board found old slots none in (
      rw (passes, placed) (gathers found board old slots share was worked whole),
      (let e = ap length passes in let z = ap length none in omega (arith, length-append old (share.pass ∷ []))),
    )

-- passes from which nothing is left to draw drew all numbers below the limit
pub all_drawn : (passes : List PassView) (limit count place : ℕ) → 0 < length passes → All (λ pass. pass.is_done ≡ true) passes
    → (Any (λ pass. pass.is_done ≡ true) passes → count ≡ limit) → times place (all_draws passes) ≡ once_below place count → place < limit
    → 0 < times place (all_draws passes)
all_drawn [] limit count place some done full once lt = absurd (omega arith)
all_drawn (p ∷ ps) limit count place some done full once lt =
    let all : count ≡ limit = full (0, p, omega arith, refl, done 0 p (omega arith)) in
    let here : 0 < once_below place count = once_here place count (omega arith) in
    rw once here
  where
    once_here : (k n : ℕ) → k < n → 0 < once_below k n
    once_here k n lt = grind (arith, nat_tests)
