-- Items that are sorted out one after another are sorted out as a whole.
use Rattle.std.proofs.Common.{◌≡◌, ℕ, suc, ◌+◌, ◌≤◌, Bool, true, false, ◌&&◌, nat_le, List, [], ◌∷◌, ◌++◌, length, codes, Option, Some, None, option_to_list, option_and_then, if◌then◌else◌, refl, sym, ◌∙◌, subst, inl, inr, arith, append_assoc}
use Rattle.std.specs.List.{list_all, slice_get}
use Rattle.std.specs.Str.{bytes_eq}
use Rattle.std.proofs.lemmas.List.{append-nil, length-append}
use Rattle.std.proofs.lemmas.Bool.{cases_Bool}
use Rattle.std.proofs.lemmas.Bool.Decides.{nat_tests}
use Rattle.std.proofs.lemmas.Slice.Eq.{bytes_eq-Decides}
use Rattle.plan_words.specs.Items.{Word, Item, Positional, Given, has_dash, utf8_items}
use Rattle.plan_words.specs.Sorted.{Sorted, is_right, positional_words, values_of, sorted, sorted_words}
use Rattle.plan_words.specs.Adding.{nothing, with_items, with_words}

-- a place holds what was there and what is given to it, where that is one word at most
abbrev taken : Option Word → Word → List Item → List Word
taken place option items = option_to_list place ++ values_of option items

abbrev is_single : List Word → Bool
is_single words = nat_le (length words) 1

abbrev can_add : Sorted → List Item → Bool
can_add s items = list_all is_right items && (nat_le (length (s.positional ++ positional_words items)) 2
    && (is_single (taken s.feed (codes "--feed") items) && (is_single (taken s.journal (codes "--journal") items)
    && (is_single (taken s.workers (codes "--workers") items) && (is_single (taken s.buffer (codes "--buffer") items) && true)))))

-- what the items add, as a whole
abbrev added : Sorted → List Item → Option Sorted
added s items = if can_add s items then Some (record {
  positional = s.positional ++ positional_words items;
  feed = slice_get (taken s.feed (codes "--feed") items) 0;
  journal = slice_get (taken s.journal (codes "--journal") items) 0;
  workers = slice_get (taken s.workers (codes "--workers") items) 0;
  buffer = slice_get (taken s.buffer (codes "--buffer") items) 0;
}) else None

abbrev line : List Word → Option Word → Option Word → Option Word → Option Word → Sorted
line positional feed journal workers buffer =
    record { positional = positional; feed = feed; journal = journal; workers = workers; buffer = buffer }

and-false : (b : Bool) → (b && false) ≡ false
and-false true = refl
and-false false = refl

two-single : (n : ℕ) → nat_le (suc (suc n)) 1 ≡ false
two-single n = grind (arith, nat_tests)

-- that the items add up so after the first one
abbrev AddUp : List Item → Type 0
AddUp items = (s : Sorted) → length s.positional ≤ 2 → with_items s items ≡ added s items

add_feed : (p : List Word) (f j w b : Option Word) (v : Word) (items : List Item) → has_dash v ≡ false → AddUp items → length p ≤ 2
    → with_items (line p f j w b) (Given (codes "--feed") v ∷ items) ≡ added (line p f j w b) (Given (codes "--feed") v ∷ items)
add_feed p None j w b v items dash more small = rw dash (more (line p (Some v) j w b) small)
add_feed p (Some u) j w b v items dash more small = simp (dash, two-single, and-false)

add_journal : (p : List Word) (f j w b : Option Word) (v : Word) (items : List Item) → has_dash v ≡ false → AddUp items → length p ≤ 2
    → with_items (line p f j w b) (Given (codes "--journal") v ∷ items) ≡ added (line p f j w b) (Given (codes "--journal") v ∷ items)
add_journal p f None w b v items dash more small = rw dash (more (line p f (Some v) w b) small)
add_journal p f (Some u) w b v items dash more small = simp (dash, two-single, and-false)

add_workers : (p : List Word) (f j w b : Option Word) (v : Word) (items : List Item) → has_dash v ≡ false → AddUp items → length p ≤ 2
    → with_items (line p f j w b) (Given (codes "--workers") v ∷ items) ≡ added (line p f j w b) (Given (codes "--workers") v ∷ items)
add_workers p f j None b v items dash more small = rw dash (more (line p f j (Some v) b) small)
add_workers p f j (Some u) b v items dash more small = simp (dash, two-single, and-false)

add_buffer : (p : List Word) (f j w b : Option Word) (v : Word) (items : List Item) → has_dash v ≡ false → AddUp items → length p ≤ 2
    → with_items (line p f j w b) (Given (codes "--buffer") v ∷ items) ≡ added (line p f j w b) (Given (codes "--buffer") v ∷ items)
add_buffer p f j w None v items dash more small = rw dash (more (line p f j w (Some v)) small)
add_buffer p f j w (Some u) v items dash more small = simp (dash, two-single, and-false)

add_other : (s : Sorted) (name v : Word) (items : List Item) → has_dash v ≡ false
    → bytes_eq name (codes "--feed") ≡ false → bytes_eq name (codes "--journal") ≡ false → bytes_eq name (codes "--workers") ≡ false → bytes_eq name (codes "--buffer") ≡ false
    → with_items s (Given name v ∷ items) ≡ added s (Given name v ∷ items)
add_other s name v items dash no_feed no_journal no_workers no_buffer = simp (dash, no_feed, no_journal, no_workers, no_buffer)

add_dash : (s : Sorted) (name v : Word) (items : List Item) → has_dash v ≡ true → with_items s (Given name v ∷ items) ≡ added s (Given name v ∷ items)
add_dash s name v items dash = simp (dash, and-false)

-- an option's name is one of the four, or none of them
add_named : (s : Sorted) (name v : Word) (items : List Item) → has_dash v ≡ false → AddUp items → length s.positional ≤ 2
    → with_items s (Given name v ∷ items) ≡ added s (Given name v ∷ items)
add_named s name v items dash more small =
    let Goal : Word → Type 0 = λ n. with_items s (Given n v ∷ items) ≡ added s (Given n v ∷ items) in
    let if_so : (option : Word) → bytes_eq name option ≡ true → Goal option → Goal name =
    λ option same h. subst Goal (sym ((bytes_eq-Decides name option).0 same)) h in
    elim (cases_Bool (bytes_eq name (codes "--feed"))) [
      | inl same ↦ if_so (codes "--feed") same (add_feed s.positional s.feed s.journal s.workers s.buffer v items dash more small)
      | inr no_feed ↦ elim (cases_Bool (bytes_eq name (codes "--journal"))) [
        | inl same ↦ if_so (codes "--journal") same (add_journal s.positional s.feed s.journal s.workers s.buffer v items dash more small)
        | inr no_journal ↦ elim (cases_Bool (bytes_eq name (codes "--workers"))) [
          | inl same ↦ if_so (codes "--workers") same (add_workers s.positional s.feed s.journal s.workers s.buffer v items dash more small)
          | inr no_workers ↦ elim (cases_Bool (bytes_eq name (codes "--buffer"))) [
            | inl same ↦ if_so (codes "--buffer") same (add_buffer s.positional s.feed s.journal s.workers s.buffer v items dash more small)
            | inr no_buffer ↦ add_other s name v items dash no_feed no_journal no_workers no_buffer
          ]
        ]
      ]
    ]

add_given : (s : Sorted) (name v : Word) (items : List Item) → AddUp items → length s.positional ≤ 2
    → with_items s (Given name v ∷ items) ≡ added s (Given name v ∷ items)
add_given s name v items more small = elim (cases_Bool (has_dash v)) [
  | inl dash ↦ add_dash s name v items dash
  | inr dash ↦ add_named s name v items dash more small
]

add_positional : (s : Sorted) (word : Word) (items : List Item) → AddUp items → with_items s (Positional word ∷ items) ≡ added s (Positional word ∷ items)
add_positional s word items more = elim (cases_Bool (nat_le (length s.positional + 1) 2)) [
  | inl room ↦
      let longer : length (s.positional ++ word ∷ []) ≤ 2 = grind (arith, nat_tests, length-append {A = Word}, room) in
      rw room (more (record s { positional = s.positional ++ word ∷ [] }) longer ∙ simp append_assoc)
  | inr full ↦
      let over : nat_le (length (s.positional ++ (word ∷ positional_words items))) 2 ≡ false = grind (arith, nat_tests, length-append {A = Word}, full) in
      simp (full, over, and-false)
]

single-place : (place : Option Word) → is_single (option_to_list place) ≡ true
single-place None = refl
single-place (Some _) = refl

word-place : (place : Option Word) → slice_get (option_to_list place) 0 ≡ place
word-place None = refl
word-place (Some _) = refl

add_nothing : (s : Sorted) → length s.positional ≤ 2 → with_items s [] ≡ added s []
add_nothing s small =
    let few : nat_le (length s.positional) 2 ≡ true = grind (arith, nat_tests) in
    simp (append-nil, single-place, word-place, few)

add_up : (items : List Item) → AddUp items
add_up [] = add_nothing
add_up (Positional word ∷ items) = λ s small. add_positional s word items (add_up items)
add_up (Given name v ∷ items) = λ s small. add_given s name v items (add_up items) small

as_a_whole : (items : Option (List Item)) → option_and_then (with_items nothing) items ≡ option_and_then sorted items
as_a_whole None = refl
as_a_whole (Some items) = add_up items nothing (omega arith)

-- words sorted out one after another are sorted out
pub with_words-nothing : (words : List Word) → with_words nothing words ≡ sorted_words words
with_words-nothing words = as_a_whole (utf8_items words)
