-- What a step sees, candidate by candidate.
use Rattle.std.proofs.Common.{◌≡◌, ◌∙◌, ◌+◌, ◌<◌, ℕ, Bool, true, false, ◌&&◌, ◌||◌, nat_le, cond, List, [], ◌∷◌, ◌++◌, append-nil, ◌^◌, Option, Some, count_by, refl, sym, ap, arith}
use Rattle.std.proofs.lemmas.List.{append_assoc}
use Rattle.std.proofs.lemmas.List.Sums.{sum_by-append}
use Rattle.plan_scores.specs.Best.{or_better}
use Rattle.foragers.specs.declared.Seen.{Seen}
use Rattle.foragers.specs.declared.forager.Forager.{Forager}
use Rattle.foragers.specs.Forage.{Limits, ends_step, is_accepted, is_ended, is_ended_after, is_picked_early, score_of, seen_after}
use Rattle.foragers.specs.Forages.{Forages}
use Rattle.foragers.proofs.Winners.{winner_among, winner_among-push}

-- candidates after the one that ends the step end it no less
pub ended_after-more : (limits : Limits) (before xs ys : List Seen) → is_ended_after limits before xs ≡ true
    → is_ended_after limits before (xs ++ ys) ≡ true
ended_after-more limits before [] ys ended = cc
ended_after-more limits before (x ∷ xs) ys ended =
    elim (ends_step limits before x) as (λ (b : Bool). cond b true (is_ended_after limits (before ++ x ∷ []) xs) ≡ true
    → cond b true (is_ended_after limits (before ++ x ∷ []) (xs ++ ys)) ≡ true) [
      | true ↦ λ k. refl
      | false ↦ λ k. ended_after-more limits (before ++ x ∷ []) xs ys k
    ] ended

-- and change nothing of what it sees
pub seen_after-more : (limits : Limits) (before xs ys : List Seen) → is_ended_after limits before xs ≡ true
    → seen_after limits before (xs ++ ys) ≡ seen_after limits before xs
seen_after-more limits before [] ys ended = cc
seen_after-more limits before (x ∷ xs) ys ended =
    elim (ends_step limits before x) as (λ (b : Bool). cond b true (is_ended_after limits (before ++ x ∷ []) xs) ≡ true
    → x ∷ cond b [] (seen_after limits (before ++ x ∷ []) (xs ++ ys)) ≡ x ∷ cond b [] (seen_after limits (before ++ x ∷ []) xs)) [
      | true ↦ λ k. refl
      | false ↦ λ k. ap (λ (seen : List Seen). x ∷ seen) (seen_after-more limits (before ++ x ∷ []) xs ys k)
    ] ended

-- where none ends the step, all are seen
seen_after-all : (limits : Limits) (before xs : List Seen) → is_ended_after limits before xs ≡ false → seen_after limits before xs ≡ xs
seen_after-all limits before [] still = refl
seen_after-all limits before (x ∷ xs) still =
    elim (ends_step limits before x) as (λ (b : Bool). cond b true (is_ended_after limits (before ++ x ∷ []) xs) ≡ false
    → x ∷ cond b [] (seen_after limits (before ++ x ∷ []) xs) ≡ x ∷ xs) [
      | true ↦ λ k. absurd cc
      | false ↦ λ k. ap (λ (seen : List Seen). x ∷ seen) (seen_after-all limits (before ++ x ∷ []) xs k)
    ] still

-- and so is one more
seen_after-push : (limits : Limits) (before xs : List Seen) (last : Seen) → is_ended_after limits before xs ≡ false
    → seen_after limits before (xs ++ last ∷ []) ≡ xs ++ last ∷ []
seen_after-push limits before [] last still =
    elim (ends_step limits before last) as (λ (b : Bool). last ∷ cond b [] [] ≡ last ∷ []) [ true ↦ refl | false ↦ refl ]
seen_after-push limits before (x ∷ xs) last still =
    elim (ends_step limits before x) as (λ (b : Bool). cond b true (is_ended_after limits (before ++ x ∷ []) xs) ≡ false
    → x ∷ cond b [] (seen_after limits (before ++ x ∷ []) (xs ++ last ∷ [])) ≡ x ∷ xs ++ last ∷ []) [
      | true ↦ λ k. absurd cc
      | false ↦ λ k. ap (λ (seen : List Seen). x ∷ seen) (seen_after-push limits (before ++ x ∷ []) xs last k)
    ] still

-- which ends the step if it is one that does
ended_after-push : (limits : Limits) (before xs : List Seen) (last : Seen) → is_ended_after limits before xs ≡ false
    → is_ended_after limits before (xs ++ last ∷ []) ≡ ends_step limits (before ++ xs) last
ended_after-push limits before [] last still =
    elim (ends_step limits before last) as (λ (b : Bool). cond b true false ≡ b) [ true ↦ refl | false ↦ refl ]
    ∙ ap (λ (xs : List Seen). ends_step limits xs last) (sym (append-nil before))
ended_after-push limits before (x ∷ xs) last still =
    elim (ends_step limits before x) as (λ (b : Bool). cond b true (is_ended_after limits (before ++ x ∷ []) xs) ≡ false
    → cond b true (is_ended_after limits (before ++ x ∷ []) (xs ++ last ∷ [])) ≡ ends_step limits (before ++ x ∷ xs) last) [
      | true ↦ λ k. absurd cc
      | false ↦ λ k. ended_after-push limits (before ++ x ∷ []) xs last k ∙ ap (λ (ys : List Seen). ends_step limits ys last) (append_assoc before (x ∷ []) xs)
    ] still

-- what a forager knows where the step is still to end: how it goes on with one more candidate
module _ (limits : Limits) (entries : List Seen) (entry : Seen) (old : Forager) (knows : Forages limits entries old) where
  -- candidates that no longer count
  pub sees_no_more : old.done ≡ true → Forages limits (entries ++ entry ∷ []) old
  sees_no_more done =
      let ended : is_ended limits entries ≡ true = sym knows.done ∙ done in
      let later : is_ended limits (entries ++ entry ∷ []) ≡ true = ended_after-more limits [] entries (entry ∷ []) ended in
      record {
        done = done ∙ sym later;
        winner = knows.winner ∙ ap (λ (seen : List Seen). winner_among seen) (sym (seen_after-more limits [] entries (entry ∷ []) ended));
        accepted = λ more. absurd cc;
        below = λ more. absurd cc;
      }

  -- one that does
  pub sees_one : (accepted : ℕ) (is_full is_early : Bool) (winner : Option Seen) → limits.accepted < 2 ^ 32 → old.done ≡ false
      → (old.accepted + 1 < 2 ^ 32 → accepted ≡ old.accepted + count_by is_accepted (entry ∷ []))
      → is_full ≡ (entry.accepted && nat_le limits.accepted accepted) → is_early ≡ is_picked_early limits entry
      → winner ≡ cond entry.accepted (Some (or_better score_of old.winner entry)) old.winner
      → Forages limits (entries ++ entry ∷ []) (record { accepted = accepted; done = is_full || is_early; winner = winner })
  sees_one accepted is_full is_early winner small not_done counted full early best =
      let still : is_ended limits entries ≡ false = sym knows.done ∙ not_done in
      let below : old.accepted < limits.accepted = knows.below still in
      let here : accepted ≡ old.accepted + count_by is_accepted (entry ∷ []) = counted (omega arith) in
      let count : accepted ≡ count_by is_accepted (entries ++ entry ∷ []) =
      here ∙ ap (λ (n : ℕ). n + count_by is_accepted (entry ∷ [])) (knows.accepted still) ∙ sym (sum_by-append (λ (e : Seen). cond e.accepted 1 0) entries (entry ∷ [])) in
      let ends : is_ended limits (entries ++ entry ∷ []) ≡ ends_step limits entries entry = ended_after-push limits [] entries entry still in
      let done : (is_full || is_early) ≡ ends_step limits entries entry =
      ap (λ (b : Bool). b || is_early) full
      ∙ ap (λ (b : Bool). (entry.accepted && nat_le limits.accepted accepted) || b) early
      ∙ ap (λ (n : ℕ). (entry.accepted && nat_le limits.accepted n) || is_picked_early limits entry) count in
      let before : old.winner ≡ winner_among entries = knows.winner ∙ ap winner_among (seen_after-all limits [] entries still) in
      record {
        done = done ∙ sym ends;
        winner = best
            ∙ ap (λ (w : Option Seen). cond entry.accepted (Some (or_better score_of w entry)) w) before
            ∙ sym (winner_among-push entries entry)
            ∙ ap winner_among (sym (seen_after-push limits [] entries entry still));
        accepted = λ more. count;
        below = λ more.
            elim entry.accepted as (λ (a : Bool). (is_full ≡ (a && nat_le limits.accepted accepted)) → accepted ≡ old.accepted + (0 + cond a 1 0) → (is_full || is_early) ≡ false → accepted < limits.accepted) [
              | true ↦ λ f h m. grind arith
              | false ↦ λ f h m. omega arith
            ] full here (done ∙ sym ends ∙ more);
      }
