-- Names with texts among them: they begin with what was there, and are few.
use Rattle.std.proofs.Common.{◌≡◌, ◌∙◌, ◌≤◌, ◌<◌, ◌+◌, ◌⊎◌, inl, inr, ℕ, suc, Bool, true, false, cond, List, [], ◌∷◌, ◌++◌, Option, Some, None, length, take, drop, get_or, fold, refl, sym, ap, subst, arith}
use Rattle.std.specs.Str.{bytes_eq}
use Rattle.std.specs.List.{list_any, flat_map}
use Rattle.std.proofs.Math.Seq.{take-append_seam}
use Rattle.std.proofs.lemmas.List.{append-nil, append_assoc, length-append, take-append-drop, take_more}
use Rattle.std.proofs.lemmas.List.Sums.{fold-append}
use Rattle.std.proofs.lemmas.Grind.{flat_map-append}
use Rattle.plan_facts.specs.Names.{place_of, with_name}
use Rattle.plan_facts.proofs.NamesLaws.{with_name-new}
use Rattle.plan_changes.specs.Performed.{numbered, text_in, texts_in}
use Rattle.plan_changes.specs.declared.change.Item.{Item}

-- what comes behind names once a text is among them
abbrev tail_of : List (List ℕ) → List ℕ → List (List ℕ)
tail_of names text = cond (list_any (bytes_eq text) names) [] (text ∷ [])

with_name-tail : (names : List (List ℕ)) (text : List ℕ) → with_name names text ≡ names ++ tail_of names text
with_name-tail names text =
    elim (list_any (bytes_eq text) names) as (λ b. cond b names (names ++ text ∷ []) ≡ names ++ cond b [] (text ∷ [])) [ true ↦ sym (append-nil names) | false ↦ refl ]

tail_short : (names : List (List ℕ)) (text : List ℕ) → length (tail_of names text) ≤ 1
tail_short names text = elim (list_any (bytes_eq text) names) as (λ b. length (cond b [] (text ∷ [])) ≤ 1) [ true ↦ omega arith | false ↦ omega arith ]

-- what comes behind names once texts are among them
abbrev behind : List (List ℕ) → List (List ℕ) → List (List ℕ)
behind names [] = []
behind names (text ∷ texts) = tail_of names text ++ behind (with_name names text) texts

numbered-behind : (names texts : List (List ℕ)) → numbered names texts ≡ names ++ behind names texts
numbered-behind names [] = sym (append-nil names)
numbered-behind names (text ∷ texts) =
    numbered-behind (with_name names text) texts
    ∙ ap (λ front. front ++ behind (with_name names text) texts) (with_name-tail names text)
    ∙ append_assoc names (tail_of names text) (behind (with_name names text) texts)

behind_short : (names texts : List (List ℕ)) → length (behind names texts) ≤ length texts
behind_short names [] = omega arith
behind_short names (text ∷ texts) =
    let one = tail_short names text in
    let rest = behind_short (with_name names text) texts in
    let both = length-append (tail_of names text) (behind (with_name names text) texts) in
    omega arith

-- names begin with what they were
pub numbered_front : (names texts : List (List ℕ)) → take (length names) (numbered names texts) ≡ names
numbered_front names texts = ap (take (length names)) (numbered-behind names texts) ∙ take-append_seam names (behind names texts)

-- names never become fewer
pub numbered_le : (names texts : List (List ℕ)) → length names ≤ length (numbered names texts)
numbered_le names texts =
    let long = ap (λ (all : List (List ℕ)). length all) (numbered-behind names texts) ∙ length-append names (behind names texts) in
    omega arith

-- each text adds at most one name
pub numbered_few : (names texts : List (List ℕ)) → length (numbered names texts) ≤ length names + length texts
numbered_few names texts =
    let long = ap (λ (all : List (List ℕ)). length all) (numbered-behind names texts) ∙ length-append names (behind names texts) in
    let short = behind_short names texts in
    omega arith

-- a name that is new makes one more
pub new_longer : (names : List (List ℕ)) (text : List ℕ) → place_of names text ≡ None → length (with_name names text) ≡ length names + 1
new_longer names text none =
    ap (λ (all : List (List ℕ)). length all) (with_name-new names text none) ∙ length-append names (text ∷ [])

-- the names of one field more
pub texts_more : (names : List (List ℕ)) (items : List (Option Item)) (k : ℕ) (item : Option Item) → k < length items → item ≡ get_or items k item → numbered names (texts_in (take (k + 1) items)) ≡ numbered (numbered names (texts_in (take k items))) (text_in item)
texts_more names items k item within at =
    rw (take_more items k item within, ← at, flat_map-append text_in (take k items) (item ∷ []), fold-append with_name names (texts_in (take k items)) (text_in item ++ []), append-nil (text_in item)) refl

-- the names of the first fields are among those of all
pub texts_front : (names : List (List ℕ)) (items : List (Option Item)) (k : ℕ) → length (numbered names (texts_in (take k items))) ≤ length (numbered names (texts_in items))
texts_front names items k =
    let parts : texts_in items ≡ texts_in (take k items) ++ texts_in (drop k items) = ap texts_in (sym (take-append-drop k items)) ∙ flat_map-append text_in (take k items) (drop k items) in
    let all : numbered names (texts_in items) ≡ numbered (numbered names (texts_in (take k items))) (texts_in (drop k items)) = ap (numbered names) parts ∙ fold-append with_name names (texts_in (take k items)) (texts_in (drop k items)) in
    let le = numbered_le (numbered names (texts_in (take k items))) (texts_in (drop k items)) in
    let long = ap (λ (ns : List (List ℕ)). length ns) all in
    omega arith
