-- Texts that lack a byte.
use Rattle.std.proofs.Common.{◌≡◌, ◌∙◌, ℕ, zero, suc, ◌+◌, ◌/◌, ◌%◌, ◌<◌, true, false, ◌==◌, ◌&&◌, List, [], ◌∷◌, ◌++◌, length, nat_lt, refl, subst, arith, ne_eqb}
use Rattle.std.specs.Prelude.{IsTrue, All, nat_le, decimal, slice_get}
use Rattle.std.specs.Fmt.{digits, digits_onto, digit_glyph, signed_decimal}
use Rattle.std.specs.List.{list_any, list_all}
use Rattle.std.specs.Option.{option_map_or}
use Rattle.std.proofs.Math.IntN.{ℤ, pos, negsuc}
use Rattle.std.proofs.lemmas.Bool.{and_parts, both_ways, cond_both, or_from}
use Rattle.std.proofs.lemmas.List.Elements.{All-head, All-tail}
use Rattle.std.proofs.lemmas.List.Folds.{list_any-append}
use Rattle.plan_facts.specs.Schema.{begins_with_letter, is_name, is_name_byte}

-- the byte isn't in the text
abbrev pub Lacks : ℕ → List ℕ → Type 0
Lacks c text = list_any (λ b. b == c) text ≡ false

-- what neither part has, their text lacks
pub lacks-append : (c : ℕ) (a b : List ℕ) → Lacks c a → Lacks c b → Lacks c (a ++ b)
lacks-append c a b first second =
    list_any-append (λ x. x == c) a b ∙ or_from (list_any (λ x. x == c) a) (list_any (λ x. x == c) b) first second

-- no digit is a byte below the digits
lacks-glyph : (c d : ℕ) → c < 48 → (digit_glyph false d == c) ≡ false
lacks-glyph c d below =
    ne_eqb (digit_glyph false d) c
    (cond_both (nat_lt d 10) (48 + d) (87 + d) (λ g. g ≡ c → ⊥)
    (λ e same. omega (arith, same)) (λ e same. omega (arith, same)))

lacks-onto : (c : ℕ) → c < 48 → (k n : ℕ) (text : List ℕ) → Lacks c text → Lacks c (digits_onto k 10 false n text)
lacks-onto c below zero n text lacks = lacks
lacks-onto c below (suc k) n text lacks =
    let digit = digit_glyph false (n % 10) in
    let more : Lacks c (digit ∷ text) =
    or_from (digit == c) (list_any (λ x. x == c) text) (lacks-glyph c (n % 10) below) lacks in
    cond_both (n / 10 == 0) (digit ∷ text) (digits_onto k 10 false (n / 10) (digit ∷ text)) (Lacks c)
    (λ e. more) (λ e. lacks-onto c below k (n / 10) (digit ∷ text) more)

-- nor is it in a number
pub lacks-decimal : (c n : ℕ) → c < 48 → Lacks c (decimal n)
unfolding digits
lacks-decimal c n below = lacks-onto c below 64 n [] refl

-- nor in a number with a sign, unless it's the sign
pub lacks-signed : (c : ℕ) (z : ℤ) → c < 45 → Lacks c (signed_decimal z)
lacks-signed c (pos n) below = lacks-decimal c n (omega arith)
lacks-signed c (negsuc n) below =
    or_from (45 == c) (list_any (λ x. x == c) (decimal (suc n)))
    (ne_eqb 45 c (λ same. omega (arith, same))) (lacks-decimal c (suc n) (omega arith))

-- a byte that no name has isn't in a text of bytes of names
lacks-bytes : (c : ℕ) → is_name_byte c ≡ false → (text : List ℕ) → list_all is_name_byte text ≡ true → Lacks c text
lacks-bytes c none [] all = refl
lacks-bytes c none (b ∷ text) all =
    let parts = and_parts (is_name_byte b) (list_all is_name_byte text) all in
    or_from (b == c) (list_any (λ x. x == c) text)
    (ne_eqb b c (λ same. both_ways (is_name_byte c) none (subst (λ x. is_name_byte x ≡ true) same parts.0)))
    (lacks-bytes c none text parts.1)

-- nor in a name
pub lacks-name : (c : ℕ) → is_name_byte c ≡ false → (name : List ℕ) → IsTrue (is_name name) → Lacks c name
lacks-name c none name named =
    lacks-bytes c none name
    (and_parts (begins_with_letter name && nat_le (length name) 32) (list_all is_name_byte name) named).1

-- nor in the name of one of these, if there is such a one
pub lacks-name_of : {X : Type 0} (c : ℕ) → is_name_byte c ≡ false → (name : X → List ℕ) (xs : List X)
    → All (λ x. IsTrue (is_name (name x))) xs → (k : ℕ) → Lacks c (option_map_or name (slice_get xs k) [])
lacks-name_of c none name [] named k = refl
lacks-name_of c none name (x ∷ xs) named zero =
    lacks-name c none (name x) (All-head (λ y. IsTrue (is_name (name y))) x xs named)
lacks-name_of c none name (x ∷ xs) named (suc k) =
    lacks-name_of c none name xs (All-tail (λ y. IsTrue (is_name (name y))) x xs named) k
