-- What is looked at of a step's verdicts, and how it goes on.
use Rattle.std.proofs.Common.{◌≡◌, ◌∙◌, ℕ, ◌+◌, ◌<◌, ◌≤◌, ◌==◌, if◌then◌else◌, Bool, true, false, IsSome, is_none, is_some, ◌++◌, Option, Some, None, refl, sym, ap, arith}
use Rattle.std.specs.Option.{option_and_then}
use Rattle.plan_settings.specs.declared.settings.Settings.{Settings}
use Rattle.acceptors.specs.History.{History}
use Rattle.plan_search.specs.declared.found.Found.{Found}
use Rattle.plan_search.specs.Judging.{judged_from}
use Rattle.search_core.specs.ByNumber.{AreSame, with_value}
use Rattle.search_core.specs.Desk.{Desk, found_in, unjudged}
use Rattle.search_core.specs.Judged.{entry_for}
use Rattle.search_core.proofs.Entries.{find-first, find-none, judged_from-more, judged_from-same}

-- the numbers below one are judged
abbrev pub AreJudged : (ℕ → Option (Option Found)) → ℕ → Type 0
AreJudged verdicts looked = (n : ℕ) → n < looked → IsSome (verdicts n)

-- the next number is judged too
pub judged-more : (verdicts : ℕ → Option (Option Found)) (looked : ℕ) (v : Option Found) → verdicts looked ≡ Some v → AreJudged verdicts looked
    → AreJudged verdicts (looked + 1)
judged-more verdicts looked v is judged n lt =
    elim (n == looked) as (λ (b : Bool). (b ≡ (n == looked)) → is_some (verdicts n) ≡ true) [
      | true ↦ λ e. let same : n ≡ looked = grind arith in ap (λ (m : ℕ). is_some (verdicts m)) same ∙ ap is_some is
      | false ↦ λ e. judged n (grind arith)
    ] refl

-- the entries of the numbers that were looked at, with that of one more
pub entries-more : (s : Settings) (h : History) (verdicts : ℕ → Option (Option Found)) (looked : ℕ) (v : Option Found) → verdicts looked ≡ Some v
    → judged_from s h (found_in verdicts) 0 looked ++ entry_for s h looked v ≡ judged_from s h (found_in verdicts) 0 (looked + 1)
entries-more s h verdicts looked v is =
    let here : v ≡ found_in verdicts looked = sym (ap (λ (o : Option (Option Found)). option_and_then (λ (f : Option Found). f) o) is) in
    ap (λ (o : Option Found). judged_from s h (found_in verdicts) 0 looked ++ entry_for s h looked o) here
    ∙ sym (judged_from-more s h (found_in verdicts) looked)

-- a number that wasn't judged isn't among those that were
apart : (verdicts : ℕ → Option (Option Found)) (number n looked : ℕ) → verdicts number ≡ None → AreJudged verdicts looked → n < looked
    → (number == n) ≡ false
apart verdicts number n looked none judged lt =
    elim (number == n) as (λ (b : Bool). (b ≡ (number == n)) → b ≡ false) [
      | true ↦ λ e.
          let same : number ≡ n = grind arith in
          let there : is_some (verdicts n) ≡ true = judged n lt in
          let gone : is_some (verdicts n) ≡ false = ap (λ (m : ℕ). is_some (verdicts m)) (sym same) ∙ ap is_some none in
          cc
      | false ↦ λ e. refl
    ] refl

-- with one verdict more the numbers that were judged are so still
pub judged-with : (verdicts : ℕ → Option (Option Found)) (number : ℕ) (v : Option Found) (looked : ℕ) → verdicts number ≡ None → AreJudged verdicts looked
    → AreJudged (with_value verdicts number v) looked
judged-with verdicts number v looked none judged n lt =
    ap (λ (b : Bool). is_some (if b then Some v else verdicts n)) (apart verdicts number n looked none judged lt) ∙ judged n lt

-- and their entries are the same
pub entries-with : (s : Settings) (h : History) (verdicts : ℕ → Option (Option Found)) (number : ℕ) (v : Option Found) (looked : ℕ)
    → verdicts number ≡ None → AreJudged verdicts looked
    → judged_from s h (found_in verdicts) 0 looked ≡ judged_from s h (found_in (with_value verdicts number v)) 0 looked
entries-with s h verdicts number v looked none judged =
    judged_from-same s h (found_in verdicts) (found_in (with_value verdicts number v)) 0 looked
    (λ n low high. sym (ap (λ (b : Bool). option_and_then (λ (f : Option Found). f) (if b then Some v else verdicts n))
    (apart verdicts number n looked none judged (omega arith))))

-- what is kept goes on with a value
pub same-with : {A : Type 0} (kept old new : ℕ → Option A) (number : ℕ) (v : A) → AreSame new (with_value old number v) → AreSame old kept
    → AreSame new (with_value kept number v)
same-with kept old new number v goes same n = goes n ∙ ap (λ (o : Option _). if number == n then Some v else o) (same n)

there : {A : Type 0} (v : Option A) → IsSome v → is_none v ≡ false
there None some = absurd cc
there (Some v) some = refl

-- where all numbers below one are judged, and it isn't, it is the lowest one
pub unjudged-first : (d : Desk) (asked looked : ℕ) → asked ≡ d.asked → looked < asked → AreJudged d.verdicts looked → d.verdicts looked ≡ None
    → Some looked ≡ unjudged d
unjudged-first d asked looked is lt judged none =
    sym (find-first (λ (n : ℕ). is_none (d.verdicts n)) 0 d.asked looked (omega arith) (omega arith)
    (λ n low high. there (d.verdicts n) (judged n high)) (ap is_none none))

-- where all asked numbers are judged, there is none that isn't
pub unjudged-none : (d : Desk) (asked looked : ℕ) → asked ≡ d.asked → asked ≤ looked → AreJudged d.verdicts looked → None ≡ unjudged d
unjudged-none d asked looked is le judged =
    sym (find-none (λ (n : ℕ). is_none (d.verdicts n)) 0 d.asked (λ n low high. there (d.verdicts n) (judged n (omega arith))))
