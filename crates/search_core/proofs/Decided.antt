-- What a desk decides, where its verdicts tell what is found.
use Rattle.std.proofs.Common.{◌≡◌, ◌∙◌, ℕ, ◌≤◌, ◌==◌, ◌||◌, true, false, is_none, IsSome, List, Option, Some, None, refl, sym, ap, subst}
use Rattle.std.specs.Option.{option_and_then, option_map}
use Rattle.foragers.specs.declared.Seen.{Seen}
use Rattle.foragers.specs.Forage.{is_ended, number_of, winner_of}
use Rattle.plan_search.specs.declared.found.Found.{Found}
use Rattle.plan_search.specs.Judging.{judged_from, limits_at, winning}
use Rattle.plan_search.proofs.Winning.{winner_is_found}
use Rattle.search_core.specs.Desk.{Desk, Terms, choice_on, entries_on, found_of_winner, found_on, is_decided, unjudged}
use Rattle.search_core.proofs.Entries.{find-fails, judged_from-same, winning-is}

-- each verdict tells what is found of its number
abbrev pub AreTold : (ℕ → Option Found) → (ℕ → Option (Option Found)) → Type 0
AreTold found verdicts = (n : ℕ) (o : Option Found) → verdicts n ≡ Some o → o ≡ found n

judged_is : (v : Option (Option Found)) (f : Option Found) → ((o : Option Found) → v ≡ Some o → o ≡ f) → is_none v ≡ false
    → option_and_then (λ (o : Option Found). o) v ≡ f
judged_is None f told there = cc
judged_is (Some o) f told there = told o refl

found_is : (v : Option (Option Found)) (f : Option Found) → ((o : Option Found) → v ≡ Some o → o ≡ f) → IsSome (option_and_then (λ (o : Option Found). o) v)
    → option_and_then (λ (o : Option Found). o) v ≡ f
found_is None f told there = absurd cc
found_is (Some o) f told there = told o refl

-- where all asked numbers are judged, the entries are those of what is found
pub entries-told : (t : Terms) (d : Desk) (found : ℕ → Option Found) → AreTold found d.verdicts → unjudged d ≡ None
    → entries_on t d ≡ judged_from t.settings d.history found 0 d.asked
entries-told t d found told none =
    judged_from-same t.settings d.history (found_on d) found 0 d.asked
    (λ n low high. judged_is (d.verdicts n) (found n) (told n) (find-fails (λ (m : ℕ). is_none (d.verdicts m)) 0 d.asked none n low high))

-- the choice of a step that is decided is its winner
pub choice-told : (t : Terms) (d : Desk) (found : ℕ → Option Found) → AreTold found d.verdicts → unjudged d ≡ None
    → d.asked ≤ t.settings.select_limit → is_decided t d ≡ true
    → choice_on t d ≡ option_map number_of (winning t.settings d.history found)
choice-told t d found told none within decided =
    let limits = limits_at t.settings d.history in
    let same : entries_on t d ≡ judged_from t.settings d.history found 0 d.asked = entries-told t d found told none in
    let ended = subst (λ (xs : List Seen). (is_ended limits xs || d.asked == t.settings.select_limit) ≡ true) same decided in
    ap (λ (xs : List Seen). option_map number_of (winner_of limits xs)) same
    ∙ ap (option_map number_of) (winning-is t.settings d.history found d.asked within ended)

winner_is : (t : Terms) (d : Desk) (found : ℕ → Option Found) → AreTold found d.verdicts → (w : Option Seen)
    → winning t.settings d.history (found_on d) ≡ w
    → option_and_then (found_on d) (option_map number_of w) ≡ option_and_then found (option_map number_of w)
winner_is t d found told None is = refl
winner_is t d found told (Some seen) is =
    found_is (d.verdicts seen.number) (found seen.number) (told seen.number) (winner_is_found t.settings d.history (found_on d) seen is)

-- what was found of the winner is so
pub winner-told : (t : Terms) (d : Desk) (found : ℕ → Option Found) → AreTold found d.verdicts
    → d.asked ≤ t.settings.select_limit → is_decided t d ≡ true
    → found_of_winner d (choice_on t d) ≡ option_and_then found (choice_on t d)
winner-told t d found told within decided =
    let w = winning t.settings d.history (found_on d) in
    let is : choice_on t d ≡ option_map number_of w = ap (option_map number_of) (winning-is t.settings d.history (found_on d) d.asked within decided) in
    ap (option_and_then (found_on d)) is
    ∙ (winner_is t d found told w refl
    ∙ ap (option_and_then found) (sym is))
