-- Different keys, and the rows that are made for each.
use Rattle.std.proofs.Common.{◌≡◌, ◌+◌, ◌∙◌, ◌||◌, ℕ, ℤ, Bool, true, false, cond, List, [], ◌∷◌, ◌++◌, refl, ap, arith}
use Rattle.std.specs.Prelude.{All, ◌≢◌}
use Rattle.std.specs.Bool.{Decides}
use Rattle.std.specs.Cmp.{signed_Decides}
use Rattle.std.specs.Cmp.Lexicographic.{pointwise_decides}
use Rattle.std.specs.List.{flat_map}
use Rattle.std.proofs.lemmas.List.Elements.{All-head, All-tail}
use Rattle.std.proofs.lemmas.List.Sums.{sum_by-append}
use Rattle.plan_rules.proofs.Rising.{Rising}
use Rattle.stream_index.specs.Key.{key_eq}
use Rattle.stream_heads.specs.declared.cells.Cell.{Cell}
use Rattle.stream_heads.specs.Equality.{same_cells}
use Rattle.stream_group.specs.Turns.{is_one_key}
use Rattle.stream_group.proofs.Exactly.{count_of, key_in}

pub key_decides : (one other : List ℤ) → Decides (key_eq one other) (one ≡ other)
key_decides one other = pointwise_decides signed_Decides one other

pub key_apart : (one other : List ℤ) → (one ≡ other → ⊥) → key_eq one other ≡ false
key_apart one other apart = elim (key_eq one other) as (λ b. key_eq one other ≡ b → b ≡ false) [ true ↦ λ is. absurd (apart ((key_decides one other).0 is)) | false ↦ λ is. refl ] refl

-- a key unlike all of some is none of them
none_of : (x : List ℤ) (keys : List (List ℤ)) → All (λ key. x ≢ key) keys → is_one_key keys x ≡ false
none_of x [] all = refl
none_of x (key ∷ keys) all =
    let P : List ℤ → Type 0 = λ k. x ≢ k in
    let first = key_apart x key (All-head P key keys all) in
    (λ i. first i || is_one_key keys x) ∙ none_of x keys (All-tail P key keys all)

-- where each key makes rows of its own, a row is there as often as its key makes it
pub count_keys : (row : List Cell) (made : List ℤ → List (List Cell)) → ((key : List ℤ) → (key_in row ≡ key → ⊥) → count_of row (made key) ≡ 0)
    → (keys : List (List ℤ)) → Rising (λ one other. one ≢ other) keys → count_of row (flat_map made keys) ≡ cond (is_one_key keys (key_in row)) (count_of row (made (key_in row))) 0
count_keys row made own [] apart = refl
count_keys row made own (key ∷ keys) apart =
    let w : List Cell → ℕ = λ x. cond (same_cells row x) 1 0 in
    let rest = count_keys row made own keys (apart.1) in
    let whole : count_of row (made key ++ flat_map made keys) ≡ count_of row (made key) + count_of row (flat_map made keys) = sum_by-append w (made key) (flat_map made keys) in
    whole ∙ elim (key_eq (key_in row) key) as (λ b. key_eq (key_in row) key ≡ b → count_of row (made key) + count_of row (flat_map made keys) ≡ cond (b || is_one_key keys (key_in row)) (count_of row (made (key_in row))) 0) [
      | true ↦ λ is.
          let here : key_in row ≡ key = (key_decides (key_in row) key).0 is in
          let none : is_one_key keys (key_in row) ≡ false = ap (is_one_key keys) here ∙ none_of key keys (apart.0) in
          let others : count_of row (flat_map made keys) ≡ 0 = rest ∙ ap (λ (b : Bool). cond b (count_of row (made (key_in row))) 0) none in
          let same : count_of row (made (key_in row)) ≡ count_of row (made key) = ap (λ (k : List ℤ). count_of row (made k)) here in
          omega (arith, others, same)
      | false ↦ λ is.
          let none = own key (λ same. let yes = (key_decides (key_in row) key).1 same in cc) in
          omega (arith, none, rest)
    ] refl
