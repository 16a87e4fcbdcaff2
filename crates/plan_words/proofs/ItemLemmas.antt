-- The items of words, one by one from the left, and what they add.
use Rattle.std.proofs.Common.{◌≡◌, Bool, true, false, ◌&&◌, List, [], ◌∷◌, Option, Some, None, option_map, option_and_then, length, arith, refl, sym, ap, ◌∙◌, if◌then◌else◌}
use Rattle.std.specs.List.{list_all, list_any, before_first, after_first}
use Rattle.std.specs.Str.{is_utf8}
use Rattle.plan_words.specs.Items.{Word, Item, Given, Positional, is_equals_sign, has_dash, wants_value, item, items, utf8_items}
use Rattle.plan_words.specs.Sorted.{Sorted}
use Rattle.plan_words.specs.Adding.{with_word, with_value, with_item, with_items, with_words}

and-false : (b : Bool) → (b && false) ≡ false
and-false b = elim b as (λ v. (v && false) ≡ false) [ true ↦ refl | false ↦ refl ]

-- a test stands before a map or inside it
map_where : {X Y : Type 0} (b : Bool) (f : X → Y) (x : Option X) → (if b then option_map f x else None) ≡ option_map f (if b then x else None)
map_where b f x = elim b as (λ v. (if v then option_map f x else None) ≡ option_map f (if v then x else None)) [ true ↦ refl | false ↦ refl ]

-- words of which one isn't UTF-8 have no items
none_where : (words : List Word) → list_all is_utf8 words ≡ false → utf8_items words ≡ None
none_where words e = rw e refl

pub utf8_items-first : (word : Word) (more : List Word) → is_utf8 word ≡ false → utf8_items (word ∷ more) ≡ None
utf8_items-first word more e = none_where (word ∷ more) (rw e refl)

pub utf8_items-second : (word next : Word) (more : List Word) → is_utf8 next ≡ false → utf8_items (word ∷ next ∷ more) ≡ None
utf8_items-second word next more e = none_where (word ∷ next ∷ more) (rw (e, and-false) refl)

-- a word that is an item by itself
pub utf8_items-alone : (word : Word) (more : List Word) → is_utf8 word ≡ true → wants_value word ≡ false → utf8_items (word ∷ more) ≡ option_map (λ others. item word ∷ others) (utf8_items more)
utf8_items-alone word [] good e = rw (good, e) refl
utf8_items-alone word (next ∷ rest) good e =
    rw (good, e) (map_where (list_all is_utf8 (next ∷ rest)) (λ others. item word ∷ others) (items (next ∷ rest)))

-- an option with no value behind it
pub utf8_items-lacking : (word : Word) → is_utf8 word ≡ true → wants_value word ≡ true → utf8_items (word ∷ []) ≡ None
utf8_items-lacking word good e = rw (good, e) refl

-- an option and its value
pub utf8_items-pair : (word value : Word) (more : List Word) → is_utf8 word ≡ true → is_utf8 value ≡ true → wants_value word ≡ true
    → utf8_items (word ∷ value ∷ more) ≡ option_map (λ others. Given word value ∷ others) (utf8_items more)
utf8_items-pair word value more good fine e =
    rw (good, fine, e) (map_where (list_all is_utf8 more) (λ others. Given word value ∷ others) (items more))

nothing_then : {X Y : Type 0} (x : Option X) → option_and_then {U = Y} (λ _. None) x ≡ None
nothing_then None = refl
nothing_then (Some _) = refl

-- what the items add is what the first adds and then the others
add_first : (s : Sorted) (first : Item) (others : Option (List Item)) → option_and_then (with_items s) (option_map (λ items. first ∷ items) others)
    ≡ option_and_then (λ t. option_and_then (with_items t) others) (with_item s first)
add_first s first None = sym (nothing_then (with_item s first))
add_first s first (Some items) = refl

-- what the words add is what the first item adds and then the others
with_words-item : (s : Sorted) (first : Item) (words more : List Word) (added : Option Sorted) → utf8_items words ≡ option_map (λ others. first ∷ others) (utf8_items more)
    → with_item s first ≡ added → with_words s words ≡ option_and_then (λ t. with_words t more) added
with_words-item s first words more added e adds =
    ap (option_and_then (with_items s)) e ∙ add_first s first (utf8_items more) ∙ ap (option_and_then (λ t. with_words t more)) adds

-- a positional word in front
pub with_words-positional : (s : Sorted) (word : Word) (more : List Word) (added : Option Sorted) → is_utf8 word ≡ true → has_dash word ≡ false
    → with_word s word ≡ added → with_words s (word ∷ more) ≡ option_and_then (λ t. with_words t more) added
with_words-positional s word more added good dash adds =
    with_words-item s (Positional word) (word ∷ more) more added
    (utf8_items-alone word more good (rw dash refl) ∙ ap (λ i. option_map (λ others. i ∷ others) (utf8_items more)) (rw dash refl)) adds

-- an option with its value in one word in front
pub with_words-attached : (s : Sorted) (word : Word) (more : List Word) (added : Option Sorted) → is_utf8 word ≡ true → has_dash word ≡ true → list_any is_equals_sign word ≡ true
    → with_value s (before_first is_equals_sign word) (after_first is_equals_sign word) ≡ added → with_words s (word ∷ more) ≡ option_and_then (λ t. with_words t more) added
with_words-attached s word more added good dash sign adds =
    with_words-item s (Given (before_first is_equals_sign word) (after_first is_equals_sign word)) (word ∷ more) more added
    (utf8_items-alone word more good (rw (dash, sign) refl) ∙ ap (λ i. option_map (λ others. i ∷ others) (utf8_items more)) (rw dash refl)) adds

-- an option and its value in front
pub with_words-pair : (s : Sorted) (word value : Word) (more : List Word) (added : Option Sorted) → is_utf8 word ≡ true → is_utf8 value ≡ true → wants_value word ≡ true
    → with_value s word value ≡ added → with_words s (word ∷ value ∷ more) ≡ option_and_then (λ t. with_words t more) added
with_words-pair s word value more added good fine wants adds =
    with_words-item s (Given word value) (word ∷ value ∷ more) more added (utf8_items-pair word value more good fine wants) adds

-- an option that lacks its value
pub with_words-lacking : (s : Sorted) (word : Word) (more : List Word) → is_utf8 word ≡ true → wants_value word ≡ true → length more ≡ 0 → with_words s (word ∷ more) ≡ None
with_words-lacking s word [] good wants none = ap (option_and_then (with_items s)) (utf8_items-lacking word good wants)
with_words-lacking s word (next ∷ rest) good wants none = absurd (omega arith)
