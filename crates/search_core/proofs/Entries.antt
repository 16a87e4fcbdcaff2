-- The entries of a step's numbers, and the lowest number at which a test holds.
use Rattle.std.proofs.Common.{◌≡◌, ◌∙◌, ℕ, zero, suc, ◌+◌, ◌-◌, ◌<◌, ◌≤◌, ◌==◌, ◌||◌, Bool, true, false, cond, List, [], ◌++◌, Option, Some, None, filter, refl, sym, ap, arith, append-nil, append_assoc, find}
use Rattle.std.specs.List.{range_with_len}
use Rattle.std.specs.Option.{option_map, option_to_list}
use Rattle.plan_settings.specs.declared.settings.Settings.{Settings}
use Rattle.acceptors.specs.History.{History}
use Rattle.foragers.specs.declared.Seen.{Seen}
use Rattle.foragers.specs.Forage.{Limits, is_ended, is_accepted, score_of, winner_of}
use Rattle.foragers.proofs.Looks.{seen_after-more}
use Rattle.plan_scores.specs.Best.{first_best}
use Rattle.plan_search.specs.declared.found.Found.{Found}
use Rattle.plan_search.specs.Judging.{entry_at, entry_of, judged_from, limits_at, winning}

-- the entries of some numbers and of those after them
pub judged_from-split : (s : Settings) (h : History) (found : ℕ → Option Found) (first a b : ℕ)
    → judged_from s h found first (a + b) ≡ judged_from s h found first a ++ judged_from s h found (first + a) b
judged_from-split s h found first zero b =
    let e : 0 + b ≡ b = omega arith in
    let k : first ≡ first + 0 = omega arith in
    ap (λ (n : ℕ). judged_from s h found first n) e ∙ ap (λ (n : ℕ). judged_from s h found n b) k
judged_from-split s h found first (suc a) b =
    let e : suc a + b ≡ suc (a + b) = omega arith in
    let k : (first + 1) + a ≡ first + suc a = omega arith in
    ap (λ (n : ℕ). judged_from s h found first n) e
    ∙ (ap (λ (xs : List Seen). entry_at s h found first ++ xs) (judged_from-split s h found (first + 1) a b)
    ∙ (ap (λ (n : ℕ). entry_at s h found first ++ (judged_from s h found (first + 1) a ++ judged_from s h found n b)) k
    ∙ sym (append_assoc (entry_at s h found first) (judged_from s h found (first + 1) a) (judged_from s h found (first + suc a) b))))

-- one number more
pub judged_from-more : (s : Settings) (h : History) (found : ℕ → Option Found) (n : ℕ)
    → judged_from s h found 0 (n + 1) ≡ judged_from s h found 0 n ++ entry_at s h found n
judged_from-more s h found n =
    let k : 0 + n ≡ n = omega arith in
    judged_from-split s h found 0 n 1
    ∙ (ap (λ (m : ℕ). judged_from s h found 0 n ++ (entry_at s h found m ++ [])) k
    ∙ ap (λ (xs : List Seen). judged_from s h found 0 n ++ xs) (append-nil (entry_at s h found n)))

-- the entries are the same where the same was found of each number
pub judged_from-same : (s : Settings) (h : History) (found other : ℕ → Option Found) (first count : ℕ)
    → ((n : ℕ) → first ≤ n → n < first + count → found n ≡ other n)
    → judged_from s h found first count ≡ judged_from s h other first count
judged_from-same s h found other first zero same = refl
judged_from-same s h found other first (suc count) same =
    let here : found first ≡ other first = same first (omega arith) (omega arith) in
    let there = judged_from-same s h found other (first + 1) count (λ n le lt. same n (omega arith) (omega arith)) in
    ap (λ (o : Option Found). option_to_list (option_map (entry_of s h first) o) ++ judged_from s h found (first + 1) count) here
    ∙ ap (λ (xs : List Seen). entry_at s h other first ++ xs) there

-- where none of some numbers passes a test, none is found
pub find-none : (test : ℕ → Bool) (first count : ℕ) → ((n : ℕ) → first ≤ n → n < first + count → test n ≡ false)
    → find test (range_with_len first count) ≡ None
find-none test first zero fails = refl
find-none test first (suc count) fails =
    ap (λ (b : Bool). cond b (Some first) (find test (range_with_len (first + 1) count))) (fails first (omega arith) (omega arith))
    ∙ find-none test (first + 1) count (λ n le lt. fails n (omega arith) (omega arith))

-- where none is found, none passes
pub find-fails : (test : ℕ → Bool) (first count : ℕ) → find test (range_with_len first count) ≡ None
    → (n : ℕ) → first ≤ n → n < first + count → test n ≡ false
find-fails test first zero none n le lt = absurd (omega arith)
find-fails test first (suc count) none n le lt =
    elim (test first) as (λ (b : Bool). (b ≡ test first) → cond b (Some first) (find test (range_with_len (first + 1) count)) ≡ None → test n ≡ false) [
      | true ↦ λ e k. cc
      | false ↦ λ e k.
          elim (n == first) as (λ (c : Bool). (c ≡ (n == first)) → test n ≡ false) [
            | true ↦ λ t. let same : n ≡ first = grind arith in ap test same ∙ sym e
            | false ↦ λ t. find-fails test (first + 1) count k n (grind arith) (omega arith)
          ] refl
    ] refl none

-- the first of some numbers that passes is found
pub find-first : (test : ℕ → Bool) (first count n : ℕ) → first ≤ n → n < first + count → ((m : ℕ) → first ≤ m → m < n → test m ≡ false)
    → test n ≡ true → find test (range_with_len first count) ≡ Some n
find-first test first zero n le lt fails passes = absurd (omega arith)
find-first test first (suc count) n le lt fails passes =
    elim (n == first) as (λ (c : Bool). (c ≡ (n == first)) → cond (test first) (Some first) (find test (range_with_len (first + 1) count)) ≡ Some n) [
      | true ↦ λ t.
          let same : first ≡ n = grind arith in
          let here : test first ≡ true = ap test same ∙ passes in
          ap (λ (b : Bool). cond b (Some first) (find test (range_with_len (first + 1) count))) here ∙ ap (λ (m : ℕ). Some m) same
      | false ↦ λ t.
          let past : first < n = grind arith in
          ap (λ (b : Bool). cond b (Some first) (find test (range_with_len (first + 1) count))) (fails first (omega arith) past)
          ∙ find-first test (first + 1) count n (omega arith) (omega arith) (λ m low high. fails m (omega arith) high) passes
    ] refl

-- the winner among some numbers is that among all, where the step is ended by then or no number is left
pub winning-is : (s : Settings) (h : History) (found : ℕ → Option Found) (asked : ℕ) → asked ≤ s.select_limit
    → (is_ended (limits_at s h) (judged_from s h found 0 asked) || asked == s.select_limit) ≡ true
    → winner_of (limits_at s h) (judged_from s h found 0 asked) ≡ winning s h found
unfolding winning
winning-is s h found asked within decided =
    let limits : Limits = limits_at s h in
    let part : List Seen = judged_from s h found 0 asked in
    let left : ℕ = s.select_limit - asked in
    let whole : asked + left ≡ s.select_limit = omega arith in
    let split : judged_from s h found 0 s.select_limit ≡ part ++ judged_from s h found (0 + asked) left =
    ap (λ (m : ℕ). judged_from s h found 0 m) (sym whole) ∙ judged_from-split s h found 0 asked left in
    elim (is_ended limits part) as (λ (b : Bool). (b ≡ is_ended limits part) → (b || asked == s.select_limit) ≡ true → winner_of limits part ≡ winner_of limits (judged_from s h found 0 s.select_limit)) [
      | true ↦ λ t k.
          ap (λ (seen : List Seen). first_best score_of (filter is_accepted seen)) (sym (seen_after-more limits [] part (judged_from s h found (0 + asked) left) (sym t)))
          ∙ ap (λ (xs : List Seen). winner_of limits xs) (sym split)
      | false ↦ λ t k. let same : asked ≡ s.select_limit = grind arith in ap (λ (m : ℕ). winner_of limits (judged_from s h found 0 m)) same
    ] refl decided
