-- Tallies after one match more, and after some.
use Rattle.std.proofs.Common.{◌≡◌, ◌∙◌, ◌+◌, ◌<◌, ◌==◌, ◌&&◌, not, ℕ, Bool, true, false, cond, Some, List, [], ◌∷◌, ◌++◌, length, get_or, take, drop, refl, sym, ap, subst}
use Rattle.std.specs.Map.{lookup}
use Rattle.std.specs.Option.{unwrap_or}
use Rattle.std.proofs.lemmas.List.{append-nil, append_assoc, length_push, take-append-drop, take_more}
use Rattle.std.proofs.lemmas.List.Elements.{filter-append}
use Rattle.std.proofs.lemmas.Grind.{flat_map-append}
use Rattle.plan_scores.specs.declared.score.Score.{Score}
use Rattle.plan_rules.specs.declared.row.Match.{Match}
use Rattle.indictments.specs.declared.tally.Tally.{Tally}
use Rattle.indictments.specs.Indicts.{all_of, is_part, matches_with}
use Rattle.indictments.specs.Tallies.{AddsAt, AddsPart, AreFew, AreTallies, Entries, counted_if, counted_one, is_above, is_first, no_tally, tally_in, tally_of}
use Rattle.indictments.proofs.PartLaws.{above_kept, both_same}
use Rattle.indictments.proofs.Room.{few_front, impact_push}

tally_pushed : (ms : List Match) (one : Match) (counts : Bool) → tally_of (ms ++ cond counts (one ∷ []) []) ≡ counted_if counts one.impact (tally_of ms)
tally_pushed ms one true = λ i. record { count = length_push ms one i; impact = impact_push ms one i }
tally_pushed ms one false = ap tally_of (append-nil ms)

-- the tallies are those of one match more
pub tallies_more : (old new : Entries) (before : List Match) (one : Match) → AreTallies old before
    → ((class id : ℕ) → tally_in new class id ≡ counted_if (is_part class id one) one.impact (tally_in old class id))
    → AreTallies new (before ++ one ∷ [])
tallies_more old new before one are adds = λ class id.
    adds class id ∙ ap (counted_if (is_part class id one) one.impact) (are class id)
    ∙ sym (tally_pushed (matches_with class id before) one (is_part class id one))
    ∙ ap tally_of (sym (filter-append (is_part class id) before (one ∷ [])))

-- a match is counted for the facts that stand up to a place, after those that stand before it
pub counted_more : (before after : Bool) (impact : Score) (tally : Tally) → (before ≡ true → after ≡ true)
    → counted_if (not before && after) impact (counted_if before impact tally) ≡ counted_if after impact tally
counted_more true after impact tally kept = ap (λ b. counted_if b impact tally) (sym (kept refl))
counted_more false after impact tally kept = refl

-- the part at one place more was counted
pub parts_more : (start old new : Entries) (one : Match) (n : ℕ)
    → ((class id : ℕ) → tally_in old class id ≡ counted_if (is_above class id one n) one.impact (tally_in start class id))
    → AddsPart old one n new
    → (class id : ℕ) → tally_in new class id ≡ counted_if (is_above class id one (n + 1)) one.impact (tally_in start class id)
parts_more start old new one n are adds class id =
    adds class id ∙ ap (counted_if (is_first class id one n) one.impact) (are class id)
    ∙ counted_more (is_above class id one n) (is_above class id one (n + 1)) one.impact (tally_in start class id) (above_kept class id one n)

-- nothing was to be counted
pub part_none : (entries : Entries) (one : Match) (n : ℕ) → ((class id : ℕ) → is_first class id one n ≡ false) → AddsPart entries one n entries
part_none entries one n none = λ class id. ap (λ b. counted_if b one.impact (tally_in entries class id)) (sym (none class id))

-- the fact that stands at a place for the first time was counted
pub part_one : (old new : Entries) (one : Match) (n class id : ℕ) → AddsAt old class id one.impact new
    → ((c i : ℕ) → ((class == c) && (id == i)) ≡ is_first c i one n) → AddsPart old one n new
part_one old new one n class id adds first = λ c i. adds c i ∙ ap (λ b. counted_if b one.impact (tally_in old c i)) (first c i)

-- a fact's tally was replaced by one with a match more
pub put_one : (old : Entries) (class id c i : ℕ) (impact : Score)
    → unwrap_or (cond ((class == c) && (id == i)) (Some (counted_one (tally_in old class id) impact)) (lookup (λ (key : ℕ × ℕ). (c == key.0) && (i == key.1)) old)) no_tally
    ≡ counted_if ((class == c) && (id == i)) impact (tally_in old c i)
put_one old class id c i impact = chosen ((class == c) && (id == i)) refl
  where
    chosen : (b : Bool) → ((class == c) && (id == i)) ≡ b
        → unwrap_or (cond b (Some (counted_one (tally_in old class id) impact)) (lookup (λ (key : ℕ × ℕ). (c == key.0) && (i == key.1)) old)) no_tally ≡ counted_if b impact (tally_in old c i)
    chosen false is = refl
    chosen true is =
        let same = both_same class c id i is in
        λ k. counted_one (tally_in old (same.0 k) (same.1 k)) impact

-- the tally that was found was put back with a match more
pub put_found : (old inside : Entries) (class id c i : ℕ) (impact : Score) (tally grown : Tally) → tally ≡ tally_in old class id → grown ≡ counted_one tally impact → inside ≡ old
    → unwrap_or (cond ((class == c) && (id == i)) (Some grown) (lookup (λ (key : ℕ × ℕ). (c == key.0) && (i == key.1)) inside)) no_tally
    ≡ counted_if ((class == c) && (id == i)) impact (tally_in old c i)
put_found old inside class id c i impact tally grown found is same =
    let value = is ∙ ap (λ (t : Tally). counted_one t impact) found in
    (λ k. unwrap_or (cond ((class == c) && (id == i)) (Some (value k)) (lookup (λ (key : ℕ × ℕ). (c == key.0) && (i == key.1)) (same k))) no_tally)
    ∙ put_one old class id c i impact

-- the matches before, and one more of these
pub next_match : (before ms : List Match) (k : ℕ) (one : Match) → k < length ms → one ≡ get_or ms k one → before ++ take (k + 1) ms ≡ (before ++ take k ms) ++ one ∷ []
next_match before ms k one within is =
    ap (λ zs. before ++ zs) (take_more ms k one within ∙ ap (λ (x : Match). take k ms ++ x ∷ []) (sym is)) ∙ sym (append_assoc before (take k ms) (one ∷ []))

-- they are few where all are
pub next_few : (before ms : List Match) (k : ℕ) (one : Match) → k < length ms → one ≡ get_or ms k one → AreFew (before ++ ms) → AreFew ((before ++ take k ms) ++ one ∷ [])
next_few before ms k one within is few =
    let P : List Match → Type 0 = AreFew in
    subst P (next_match before ms k one within is)
    (few_front (before ++ take (k + 1) ms) (drop (k + 1) ms) (before ++ ms)
    (ap (λ zs. before ++ zs) (sym (take-append-drop (k + 1) ms)) ∙ sym (append_assoc before (take (k + 1) ms) (drop (k + 1) ms))) few)

-- the matches of the first rules, and of one more
pub next_rule : (all : List (List Match)) (k : ℕ) (ms d : List Match) → k < length all → ms ≡ get_or all k d → all_of (take (k + 1) all) ≡ all_of (take k all) ++ ms
next_rule all k ms d within is =
    ap all_of (take_more all k d within ∙ ap (λ (x : List Match). take k all ++ x ∷ []) (sym is))
    ∙ flat_map-append (λ (x : List Match). x) (take k all) (ms ∷ []) ∙ ap (λ zs. all_of (take k all) ++ zs) (append-nil ms)

pub next_rule_few : (all : List (List Match)) (k : ℕ) (ms d : List Match) → k < length all → ms ≡ get_or all k d → AreFew (all_of all) → AreFew (all_of (take k all) ++ ms)
next_rule_few all k ms d within is few =
    let P : List Match → Type 0 = AreFew in
    subst P (next_rule all k ms d within is)
    (few_front (all_of (take (k + 1) all)) (all_of (drop (k + 1) all)) (all_of all)
    (ap all_of (sym (take-append-drop (k + 1) all)) ∙ flat_map-append (λ (x : List Match). x) (take (k + 1) all) (drop (k + 1) all)) few)
