-- The winner, found candidate by candidate.
use Rattle.std.proofs.Common.{◌≡◌, ◌∙◌, ◌+◌, ◌<◌, ℕ, Bool, true, false, cond, List, [], ◌∷◌, ◌++◌, append-nil, Option, Some, filter, length, take, get_or, sym, ap}
use Rattle.std.proofs.lemmas.List.{take_more}
use Rattle.std.proofs.lemmas.List.Elements.{filter-append}
use Rattle.plan_scores.specs.Best.{first_best, or_better}
use Rattle.plan_scores.proofs.FirstBest.{first_best-push}
use Rattle.foragers.specs.declared.Seen.{Seen}
use Rattle.foragers.specs.Forage.{is_accepted, score_of}

-- the winner of some candidates
abbrev pub winner_among : List Seen → Option Seen
winner_among entries = first_best score_of (filter is_accepted entries)

-- and of one more
pub winner_among-push : (entries : List Seen) (entry : Seen) → winner_among (entries ++ entry ∷ []) ≡ cond entry.accepted (Some (or_better score_of (winner_among entries) entry)) (winner_among entries)
winner_among-push entries entry =
    ap (first_best score_of) (filter-append is_accepted entries (entry ∷ []))
    ∙ elim entry.accepted as (λ (a : Bool). first_best score_of (filter is_accepted entries ++ cond a (entry ∷ []) []) ≡ cond a (Some (or_better score_of (winner_among entries) entry)) (winner_among entries)) [
      | true ↦ first_best-push score_of (filter is_accepted entries) entry
      | false ↦ ap (first_best score_of) (append-nil (filter is_accepted entries))
    ]

-- the winner of the candidates up to the next one
pub winner_among-next : (judged : List Seen) (seen : ℕ) (d : Seen) (before after : Option Seen) → seen < length judged → before ≡ winner_among (take seen judged)
    → after ≡ cond (get_or judged seen d).accepted (Some (or_better score_of before (get_or judged seen d))) before → after ≡ winner_among (take (seen + 1) judged)
winner_among-next judged seen d before after within was is =
    let entry = get_or judged seen d in
    is
    ∙ ap (λ (w : Option Seen). cond entry.accepted (Some (or_better score_of w entry)) w) was
    ∙ sym (winner_among-push (take seen judged) entry)
    ∙ sym (ap winner_among (take_more judged seen d within))
