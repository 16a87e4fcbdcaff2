-- A key that is entered among increasing ones.
use Rattle.std.proofs.Common.{◌≡◌, ◌∙◌, ℕ, ◌+◌, ◌<◌, ◌≤◌, ℤ, List, [], ◌∷◌, ◌++◌, map, take, drop, get_or, length, refl, ap, sym, append_assoc}
use Rattle.std.specs.declared.cmp.Ordering.TheVariants.{Less, Equal, Greater}
use Rattle.std.specs.List.{insert}
use Rattle.std.specs.Ordering.{int_cmp}
use Rattle.std.specs.Cmp.Lexicographic.{slice_cmp}
use Rattle.std.proofs.lemmas.List.{drop_more, take_more, drop_all, take_all, take-append-drop}
use Rattle.plan_rules.specs.declared.row.Part.{Part}
use Rattle.plan_rules.specs.Meaning.{Meaning}
use Rattle.plan_rules.specs.Groups.{group_key, key_entered, keys_among}
use Rattle.plan_recalc.specs.Groups.{keys_entered}

-- a key before the first one, equal to it, and after it
entered_first : (key first : List ℤ) (rest : List (List ℤ)) → slice_cmp int_cmp key first ≡ Less → key_entered key (first ∷ rest) ≡ key ∷ first ∷ rest
entered_first key first rest is = rw is refl

entered_there : (key first : List ℤ) (rest : List (List ℤ)) → slice_cmp int_cmp key first ≡ Equal → key_entered key (first ∷ rest) ≡ first ∷ rest
entered_there key first rest is = rw is refl

entered_later : (key first : List ℤ) (rest : List (List ℤ)) → slice_cmp int_cmp key first ≡ Greater → key_entered key (first ∷ rest) ≡ first ∷ key_entered key rest
entered_later key first rest is = rw is refl

-- the keys before a place are below the one that is entered
abbrev pub IsPast : List ℤ → List (List ℤ) → ℕ → Type 0
IsPast key keys place = key_entered key keys ≡ take place keys ++ key_entered key (drop place keys)

pub past_one_more : (key : List ℤ) (keys : List (List ℤ)) (place : ℕ) (first : List ℤ) → place < length keys → slice_cmp int_cmp key (get_or keys place first) ≡ Greater → IsPast key keys place → IsPast key keys (place + 1)
past_one_more key keys place first within is past =
    let one = get_or keys place first in
    let rest = drop (place + 1) keys in
    past ∙ ap (λ (ks : List (List ℤ)). take place keys ++ key_entered key ks) (drop_more keys place first within)
    ∙ ap (λ (ks : List (List ℤ)). take place keys ++ ks) (entered_later key one rest is)
    ∙ sym (append_assoc (take place keys) (one ∷ []) (key_entered key rest))
    ∙ ap (λ (ks : List (List ℤ)). ks ++ key_entered key rest) (sym (take_more keys place first within))

pub entered_at : (key : List ℤ) (keys : List (List ℤ)) (place : ℕ) (first : List ℤ) → place < length keys → slice_cmp int_cmp key (get_or keys place first) ≡ Less → IsPast key keys place → insert keys place key ≡ key_entered key keys
entered_at key keys place first within is past =
    let one = get_or keys place first in
    let rest = drop (place + 1) keys in
    sym (past ∙ ap (λ (ks : List (List ℤ)). take place keys ++ key_entered key ks) (drop_more keys place first within)
    ∙ ap (λ (ks : List (List ℤ)). take place keys ++ ks) (entered_first key one rest is)
    ∙ ap (λ (ks : List (List ℤ)). take place keys ++ key ∷ ks) (sym (drop_more keys place first within)))

pub entered_same : (key : List ℤ) (keys : List (List ℤ)) (place : ℕ) (first : List ℤ) → place < length keys → slice_cmp int_cmp key (get_or keys place first) ≡ Equal → IsPast key keys place → keys ≡ key_entered key keys
entered_same key keys place first within is past =
    let one = get_or keys place first in
    let rest = drop (place + 1) keys in
    sym (past ∙ ap (λ (ks : List (List ℤ)). take place keys ++ key_entered key ks) (drop_more keys place first within)
    ∙ ap (λ (ks : List (List ℤ)). take place keys ++ ks) (entered_there key one rest is)
    ∙ ap (λ (ks : List (List ℤ)). take place keys ++ ks) (sym (drop_more keys place first within))
    ∙ take-append-drop place keys)

pub entered_last : (key : List ℤ) (keys : List (List ℤ)) (place : ℕ) → length keys ≤ place → IsPast key keys place → keys ++ key ∷ [] ≡ key_entered key keys
entered_last key keys place end past =
    sym (past ∙ ap (λ (ks : List (List ℤ)). take place keys ++ key_entered key ks) (drop_all place keys end) ∙ ap (λ (ks : List (List ℤ)). ks ++ key ∷ []) (take_all place keys end))

-- the keys that occur are those of the rows, entered
pub keys_among-entered : (m : Meaning) (keys : List ℕ) (rows : List (List Part)) → keys_among m keys rows ≡ keys_entered (map (group_key m keys) rows)
keys_among-entered m keys [] = refl
keys_among-entered m keys (row ∷ rest) = ap (key_entered (group_key m keys row)) (keys_among-entered m keys rest)
