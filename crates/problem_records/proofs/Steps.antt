-- One class more of a loop over classes.
use Rattle.std.proofs.Common.{◌≡◌, ◌∙◌, ℕ, ◌+◌, ◌<◌, ◌≤◌, suc, Bool, true, false, cond, not, nat_lt, List, [], ◌∷◌, ◌++◌, Some, None, length, take, slice_get, fold, refl, ap, arith}
use Rattle.std.specs.Str.{bytes_eq}
use Rattle.std.specs.List.{flat_map, position_or_len}
use Rattle.std.proofs.lemmas.List.{take_more, map-append, append-nil}
use Rattle.std.proofs.lemmas.List.Sums.{fold-append}
use Rattle.std.proofs.lemmas.Grind.{flat_map-append, common_steps}
use Rattle.std.proofs.lemmas.Option.{get_or_from_slice_get}
use Rattle.std.proofs.lemmas.Bool.Decides.{nat_tests}
use Rattle.serde_json.specs.Data.{Data}
use Rattle.plan_facts.specs.Names.{place_of, number_of, with_name}
use Rattle.plan_facts.specs.declared.record.ClassDef.{ClassDef}
use Rattle.problem_records.specs.Records.{records_of}
use Rattle.problem_records.specs.Facts.{class_texts, class_raws, raw_lists}
use Rattle.problem_records.specs.RecordFaults.{count_of}

-- the front with one member more
pub front_more : {A : Type 0} (xs : List A) (k : ℕ) (x : A) → k < length xs → slice_get xs k ≡ Some x → take (k + 1) xs ≡ take k xs ++ x ∷ []
front_more xs k x within at = take_more xs k x within ∙ ap (λ y. take k xs ++ y ∷ []) (get_or_from_slice_get xs k x x at)

-- how many records there are with those of one class more
pub count_more : (classes : List ClassDef) (facts : Data) (k : ℕ) (class : ClassDef) → k < length classes → slice_get classes k ≡ Some class → count_of (take (k + 1) classes) facts ≡ count_of (take k classes) facts + length (records_of facts class)
count_more classes facts k class within at = rw (front_more classes k class within at) (grind (arith, common_steps))

-- the names with those of one class more
pub names_more : (classes : List ClassDef) (facts : Data) (k : ℕ) (class : ClassDef) → k < length classes → slice_get classes k ≡ Some class →
    fold with_name [] (flat_map (class_texts facts) (take (k + 1) classes)) ≡ fold with_name (fold with_name [] (flat_map (class_texts facts) (take k classes))) (class_texts facts class)
names_more classes facts k class within at =
    rw (front_more classes k class within at, flat_map-append (class_texts facts) (take k classes) (class ∷ []))
    (fold-append with_name [] (flat_map (class_texts facts) (take k classes)) (class_texts facts class ++ [])
    ∙ ap (fold with_name (fold with_name [] (flat_map (class_texts facts) (take k classes)))) (append-nil (class_texts facts class)))

-- the lists with that of one class more
pub lists_more : (names : List (List ℕ)) (classes : List ClassDef) (facts : Data) (k : ℕ) (class : ClassDef) → k < length classes → slice_get classes k ≡ Some class →
    raw_lists names (take (k + 1) classes) facts ≡ raw_lists names (take k classes) facts ++ class_raws names facts class ∷ []
lists_more names classes facts k class within at =
    rw (front_more classes k class within at) (map-append (class_raws names facts) (take k classes) (class ∷ []))

-- what is found stands in the list or just past it
place_le : {A : Type 0} (p : A → Bool) (xs : List A) → position_or_len p xs ≤ length xs
place_le p [] = omega arith
place_le p (x ∷ xs) = stepped (p x) (position_or_len p xs) (length xs) (place_le p xs)
  where
    stepped : (here : Bool) (n m : ℕ) → n ≤ m → cond (not here) (1 + n) 0 ≤ suc m
    stepped true n m le = omega arith
    stepped false n m le = omega arith

not_some : {A : Type 0} (b : Bool) (x : A) → None ≡ cond b (Some x) None → b ≡ false
not_some true x h = cc
not_some false x h = refl

-- a text that has no number gets the next one
pub next_number : (names : List (List ℕ)) (text : List ℕ) → None ≡ place_of names text → length names ≡ number_of names text
next_number names text none =
    let out = not_some (nat_lt (number_of names text) (length names)) (number_of names text) none in
    let past : length names ≤ number_of names text = grind (arith, nat_tests) in
    let within = place_le (bytes_eq text) names in
    omega arith

-- the numbers of few names are small
pub few_numbers : (names : List (List ℕ)) → length names ≤ 1000000000 → (text : List ℕ) → number_of names text ≤ 1000000000
few_numbers names few text = let within = place_le (bytes_eq text) names in omega arith

pub is_above : (a b : ℕ) → a < b → true ≡ nat_lt a b
is_above a b lt = grind (arith, nat_tests)
